-- What follows what, under other names of the same corners; and that in a stage it is one corner.
use mathlib.Core.Path.{◌≡◌, refl}
use mathlib.Core.List.{List}
use Prim.Native.Nat.{ℕ}
use Rattle.surface.specs.Rows.{Row}
use Rattle.surface.specs.Table.{Follows, Edge}
use Rattle.surface.specs.Stage.{Stage}
use Rattle.surface.proofs.Once.{Once, follows_one, once_of_distinct}

pub re : {T : List Row} {v p q v' p' q' : ℕ} → v ≡ v' → p ≡ p' → q ≡ q' → Follows T v p q → Follows T v' p' q'
re ev ep eq f = rw eq at (rw ep at (rw ev at f))

pub re_edge : {T : List Row} {p q p' q' : ℕ} → p ≡ p' → q ≡ q' → Edge T p q → Edge T p' q'
re_edge ep eq e = (e.0, re ep eq refl e.1)

-- a row that holds both a and b is one of two, however it is turned
pub data Gone (a b x y v p q : ℕ) : Type 0 where
  left_0 : v ≡ a → p ≡ b → q ≡ x → Gone a b x y v p q
  left_1 : v ≡ b → p ≡ x → q ≡ a → Gone a b x y v p q
  left_2 : v ≡ x → p ≡ a → q ≡ b → Gone a b x y v p q
  right_0 : v ≡ b → p ≡ a → q ≡ y → Gone a b x y v p q
  right_1 : v ≡ a → p ≡ y → q ≡ b → Gone a b x y v p q
  right_2 : v ≡ y → p ≡ b → q ≡ a → Gone a b x y v p q

module _ (n : ℕ) (T : List Row) (s : Stage n T) where
  pub stage_once : Once T
  stage_once = once_of_distinct T s.once

  -- round v, p is followed by one corner
  pub follows_same : {v p q q' : ℕ} → Follows T v p q → Follows T v p q' → q ≡ q'
  follows_same f g = follows_one stage_once (λ v p q f. s.apart f) f g
