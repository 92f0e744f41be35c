-- Items laid out in a list of numbers, one after the other, so many numbers each.
use Rattle.std.specs.Prelude.{◌≡◌, List, [], ◌∷◌, ◌++◌, ℕ, zero, suc, ◌*◌, ◌/◌, ◌%◌, length, drop}

-- how items are laid out: how many numbers an item has, which they are, and the item whose numbers stand in front of a list
pub record Layout (I : Type 0) : Type 0 where
  pub width : ℕ
  pub numbers : I → List ℕ
  pub item : List ℕ → I

-- the numbers of items, the first item first
unfoldable pub laid : {I : Type 0} → Layout I → List I → List ℕ
laid w [] = []
laid w (i ∷ l) = w.numbers i ++ laid w l

-- the first k items of a list
unfoldable pub first_items : {I : Type 0} → Layout I → ℕ → List ℕ → List I
first_items w zero l = []
first_items w (suc k) l = w.item l ∷ first_items w k (drop w.width l)

-- how many items a list has; numbers over at its end are no item
abbrev pub count : {I : Type 0} → Layout I → List ℕ → ℕ
count w l = length l / w.width

abbrev pub items : {I : Type 0} → Layout I → List ℕ → List I
items w l = first_items w (count w l) l

-- a list of whole items: its length is a multiple of an item's
abbrev pub WholeItems : {I : Type 0} → Layout I → List ℕ → Type 0
WholeItems w l = length l % w.width ≡ 0

-- items in front of a list, and all that lies past them as it was
abbrev pub in_front : {I : Type 0} → Layout I → List I → List ℕ → List ℕ
in_front w is l = laid w is ++ drop (w.width * length is) l
