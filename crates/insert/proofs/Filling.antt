-- A row put in among the rows of a room.
use mathlib.Core.Path.{◌≡◌, refl, sym, ◌∙◌, ap, ap₂}
use mathlib.Core.List.{List, [], ◌∷◌, ◌++◌, append_assoc}
use Prim.Native.Nat.{ℕ, zero, suc, ◌+◌, ◌*◌, ◌≤◌}
use native.Mathlib.Omega.{arith}
use lib.ListN.{length, take, drop, set}
use lib.Seq.{take-take, sets-eq}
use Rattle.surface.specs.Rows.{Row, row, flat}
use Rattle.growth.specs.Grow.{put}
use Rattle.growth.proofs.Put.{put_length}
use Rattle.record.specs.Front.{standing, filled, front_rows}
use Rattle.record.proofs.Front.{standing_length, standing_flat}
use Rattle.insert.specs.Moved.{MovedOn}

-- a row put in, number by number
flat_put : (i : ℕ) (a b c : ℕ) (T : List Row) → i ≤ length T → flat (put i (row a b c) T) ≡ take (3 * i) (flat T) ++ (a ∷ b ∷ c ∷ drop (3 * i) (flat T))
unfolding flat put
flat_put zero a b c T h = refl
flat_put (suc i) a b c [] h = absurd (omega arith)
flat_put (suc i) a b c (row u v w ∷ T) h =
    let e : 3 * suc i ≡ suc (suc (suc (3 * i))) = omega arith in
    rw e (ap (λ l. u ∷ v ∷ w ∷ l) (flat_put i a b c T (omega arith)))

-- the numbers from the place on moved by three, and the row's three written there
module _ (m i a b c : ℕ) (room room₁ : List ℕ) (h : i ≤ m) (fits : 3 * (m + 1) ≤ length room) (same : length room₁ ≡ length room) (moved : MovedOn (3 * i) (3 * m) room room₁) where
  abbrev f : List ℕ
  f = front_rows m room

  before : take (3 * i) room₁ ≡ take (3 * i) f
  before =
      sym (take-take (3 * i) (3 * i + 3) room₁ (omega arith))
      ∙ ap (take (3 * i)) moved.before
      ∙ take-take (3 * i) (3 * i + 3) room (omega arith)
      ∙ sym (take-take (3 * i) (3 * m) room (omega arith))

  pub row_put : set (set (set room₁ (3 * i) a) (3 * i + 1) b) (3 * i + 2) c ≡ filled (put i (row a b c) (standing m room)) room
  row_put =
      let one : 3 * i + 1 ≡ suc (3 * i) = omega arith in
      let two : 3 * i + 2 ≡ suc (suc (3 * i)) = omega arith in
      (λ l. set (set (set room₁ (3 * i) a) (one l) b) (two l) c)
      ∙ sets-eq (a ∷ b ∷ c ∷ []) room₁ (3 * i) (omega arith)
      ∙ ap₂ (λ x z. x ++ (a ∷ b ∷ c ∷ []) ++ z) before moved.after
      ∙ shift
    where
      rest : drop (3 * m + 3) room ≡ drop (3 * length (put i (row a b c) (standing m room))) room
      rest =
          let e = put_length i (row a b c) (standing m room) in
          let g = standing_length m room (omega arith) in
          let q : 3 * m + 3 ≡ 3 * length (put i (row a b c) (standing m room)) = omega arith in
          ap (λ z. drop z room) q

      shift : take (3 * i) f ++ (a ∷ b ∷ c ∷ []) ++ (drop (3 * i) f ++ drop (3 * m + 3) room) ≡ filled (put i (row a b c) (standing m room)) room
      shift =
          let g = standing_length m room (omega arith) in
          ap (λ z. take (3 * i) f ++ (a ∷ b ∷ c ∷ []) ++ (drop (3 * i) f ++ z)) rest
          ∙ append_assoc (take (3 * i) f) (a ∷ b ∷ c ∷ []) (drop (3 * i) f ++ drop (3 * length (put i (row a b c) (standing m room))) room)
          ∙ sym (append_assoc (take (3 * i) f) (a ∷ b ∷ c ∷ drop (3 * i) f) (drop (3 * length (put i (row a b c) (standing m room))) room))
          ∙ ap (λ z. z ++ drop (3 * length (put i (row a b c) (standing m room))) room)
          (ap (λ z. take (3 * i) z ++ (a ∷ b ∷ c ∷ drop (3 * i) z)) (sym (standing_flat m room (omega arith))) ∙ sym (flat_put i a b c (standing m room) (omega arith)))
