-- Items laid out and read back are the same; by place, and from the end; and one more written behind those in front.
use mathlib.Core.Path.{◌≡◌, refl, sym, ◌∙◌, ap}
use mathlib.Core.List.{List, [], ◌∷◌, ◌++◌, append_assoc, append-nil, reverse}
use Prim.Native.Nat.{ℕ, zero, suc, ◌+◌, ◌-◌, ◌*◌, ◌/◌, ◌≤◌, ◌<◌}
use native.Mathlib.Nat.{mul-div_cancel_left, add_comm}
use native.Mathlib.Numerals.{add-one}
use native.Mathlib.Omega.{arith}
use lib.ListN.{length, drop, take, get_or, length-append, length-drop}
use lib.Seq.{sets, sets-eq, drop_at, take_at, drop-drop, drop-append-add}
use Rattle.follow.proofs.Back.{reverse_at}
use Rattle.laid.specs.Laid.{Layout, laid, first_items, count, items, in_front}

-- an item has so many numbers, and is read from them
pub record Sound {I : Type 0} (w : Layout I) : Type 0 where
  pub some : 0 < w.width
  pub size : (i : I) → length (w.numbers i) ≡ w.width
  pub back : (i : I) (l : List ℕ) → w.item (w.numbers i ++ l) ≡ i

mul_none : (m : ℕ) → m * 0 ≡ 0
mul_none m = omega arith

mul_next : (m n : ℕ) → m * n + m ≡ m * (n + 1)
mul_next m n = omega arith

module _ {I : Type 0} (w : Layout I) where
  more_width : (n : ℕ) → w.width + w.width * n ≡ w.width * suc n
  more_width n = add_comm w.width (w.width * n) ∙ mul_next w.width n ∙ ap (λ z. w.width * z) (add-one n)

  pub first_length : (k : ℕ) (l : List ℕ) → length (first_items w k l) ≡ k
  unfolding first_items
  first_length zero l = refl
  first_length (suc k) l = ap suc (first_length k (drop w.width l))

  -- by place
  pub first_at : (k : ℕ) (l : List ℕ) (j : ℕ) (d : I) → j < k → get_or (first_items w k l) j d ≡ w.item (drop (w.width * j) l)
  unfolding first_items
  first_at zero l j d h = absurd (omega arith)
  first_at (suc k) l zero d h = ap (λ z. w.item (drop z l)) (sym (mul_none w.width))
  first_at (suc k) l (suc j) d h =
      first_at k (drop w.width l) j d (omega arith)
      ∙ ap w.item (drop-drop (w.width * j) w.width l ∙ ap (λ z. drop z l) (more_width j))

  -- counted from the end
  pub items_back : (l : List ℕ) (j : ℕ) (d : I) → j < count w l → get_or (reverse (items w l)) j d ≡ w.item (drop (w.width * (count w l - 1 - j)) l)
  items_back l j d h =
      let n = first_length (count w l) l in
      let i : length (items w l) - 1 - j ≡ count w l - 1 - j = omega arith in
      reverse_at (items w l) j d (omega arith) ∙ ap (λ z. get_or (items w l) z d) i ∙ first_at (count w l) l (count w l - 1 - j) d (omega arith)

  pub none_in_front : (l : List ℕ) → in_front w [] l ≡ l
  unfolding laid
  none_in_front l = ap (λ z. drop z l) (mul_none w.width)

  module _ (s : Sound w) where
    pub laid_length : (l : List I) → length (laid w l) ≡ w.width * length l
    unfolding laid
    laid_length [] = sym (mul_none w.width)
    laid_length (i ∷ l) = length-append (w.numbers i) (laid w l) ∙ (λ a. s.size i a + laid_length l a) ∙ more_width (length l)

    laid_append : (l m : List I) → laid w (l ++ m) ≡ laid w l ++ laid w m
    unfolding laid
    laid_append [] m = refl
    laid_append (i ∷ l) m = ap (λ z. w.numbers i ++ z) (laid_append l m) ∙ sym (append_assoc (w.numbers i) (laid w l) (laid w m))

    first_laid : (l : List I) (r : List ℕ) → first_items w (length l) (laid w l ++ r) ≡ l
    unfolding laid first_items
    first_laid [] r = refl
    first_laid (i ∷ l) r =
        let e = append_assoc (w.numbers i) (laid w l) r in
        rw e (λ a. s.back i (laid w l ++ r) a ∷ (ap (first_items w (length l)) (drop_at (w.numbers i) (laid w l ++ r) w.width (s.size i)) ∙ first_laid l r) a)

    -- reading what was written
    pub items_laid : (l : List I) → items w (laid w l) ≡ l
    items_laid l =
        ap (λ m. first_items w m (laid w l)) (ap (λ m. m / w.width) (laid_length l) ∙ mul-div_cancel_left (length l) {n = w.width} s.some)
        ∙ ap (first_items w (length l)) (sym (append-nil (laid w l)))
        ∙ first_laid l []

    -- the items in front are read there
    pub front_laid : (is : List I) (l : List ℕ) → take (w.width * length is) (in_front w is l) ≡ laid w is
    front_laid is l = take_at (laid w is) (drop (w.width * length is) l) (w.width * length is) (laid_length is)

    pub front_length : (is : List I) (l : List ℕ) → w.width * length is ≤ length l → length (in_front w is l) ≡ length l
    front_length is l h =
        let e = length-append (laid w is) (drop (w.width * length is) l) in
        let f = laid_length is in
        let d = length-drop (w.width * length is) l in
        omega arith

    -- the numbers of one more, written right behind
    module _ (is : List I) (i : I) (l : List ℕ) (h : w.width * (length is + 1) ≤ length l) where
      abbrev here : ℕ
      here = w.width * length is

      abbrev there : ℕ
      there = w.width * (length is + 1)

      next : here + w.width ≡ there
      next = mul_next w.width (length is)

      past : drop (here + length (w.numbers i)) (in_front w is l) ≡ drop there l
      past =
          ap (λ (z : ℕ). drop z (in_front w is l)) (λ a. sym (laid_length is) a + s.size i a)
          ∙ drop-append-add (laid w is) (drop here l) w.width
          ∙ drop-drop w.width here l
          ∙ ap (λ (z : ℕ). drop z l) next

      one_laid : laid w (is ++ (i ∷ [])) ≡ laid w is ++ w.numbers i
      unfolding laid
      one_laid = laid_append is (i ∷ []) ∙ ap (λ z. laid w is ++ z) (append-nil (w.numbers i))

      pub one_more : sets (in_front w is l) (w.width * length is) (w.numbers i) ≡ in_front w (is ++ (i ∷ [])) l
      one_more =
          sets-eq (w.numbers i) (in_front w is l) here (let e = front_length is l (let k = next in omega arith) in let z = s.size i in let k = next in omega arith)
          ∙ (λ a. front_laid is l a ++ w.numbers i ++ past a)
          ∙ (λ a. sym one_laid a ++ drop (w.width * many a) l)
        where
          many : length is + 1 ≡ length (is ++ (i ∷ []))
          many = sym (length-append is (i ∷ []))
