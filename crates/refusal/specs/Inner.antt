-- What inner functions are asked on and give: no public contract names it.
use Rattle.std.specs.Prelude.{◌≡◌, cond, [], ◌∷◌, ℕ, ◌<◌, ltb, Ok, Err, Result}
use Rattle.refusal.specs.declared.Refusal.{Refusal}
use Rattle.refusal.specs.Number.{number}
use Rattle.refusal.specs.First.{Refusals}

-- the verdict with the lesser number; passing has none
unfoldable pub lesser_of : Result Unit Refusal → Result Unit Refusal → Result Unit Refusal
lesser_of (Ok tt) w = w
lesser_of (Err a) (Ok tt) = Err a
lesser_of (Err a) (Err b) = cond (ltb (number b) (number a)) (Err b) (Err a)

-- the two lists have the same refusals, and their numbers rise, from above k
unfoldable pub Rising : ℕ → Refusals → Refusals → Type 0
Rising k [] [] = Unit
Rising k [] (d ∷ m) = ⊥
Rising k (c ∷ l) [] = ⊥
Rising k (c ∷ l) (d ∷ m) = (k < number c.refusal) × (c.refusal ≡ d.refusal) × Rising (number c.refusal) l m
