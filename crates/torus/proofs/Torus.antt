-- The trial ring as it is answered: one statement, over whatever answers as `trial_number`'s contract says.
use mathlib.Core.Path.{◌≡◌, sym, ◌∙◌, ap}
use mathlib.Core.Logic.{◌⊎◌, inl, inr}
use Prim.Native.Nat.{ℕ, ◌+◌, ◌*◌, ◌/◌, ◌%◌, ◌<◌}
use native.Mathlib.Decide.{ℕ_discrete}
use native.Mathlib.Omega.{arith}
use lib.ListN.{length, get_or}
use Rattle.surface.specs.Lists.{◌∈◌}
use Rattle.surface.specs.Rows.{Row, row, rows}
use Rattle.surface.proofs.Flat.{place_of}
use Rattle.std.specs.Prelude.{Option, Some, None}
use Rattle.ring.specs.Ring.{corner, size, AnswerAt}
use Rattle.ring.specs.Inner.{ring}
use Rattle.ring.specs.Answer.{told}
use Rattle.torus.specs.Torus.{first_row, second_row, OnGrid, Torus, TrialRing}
use Rattle.ring.proofs.Rule.{ring_at, ring_numbers, trial_one}
use Rattle.torus.proofs.Rows.{ring_length, row_first, row_second}
use Rattle.torus.proofs.Closed.{ring_stage, ring_used, ring_euler}

-- a corner's number and its place on the grid
module _ (r c : ℕ) (g : OnGrid r c) where
  pub below_64 : corner r c < 64
  below_64 = omega arith

  over_8 : corner r c / 8 ≡ r
  over_8 = let h = g.0 in let k = g.1 in omega arith

  mod_8 : corner r c % 8 ≡ c
  mod_8 = let h = g.0 in let k = g.1 in omega arith

  pub first_there : (d : Row) → get_or (rows ring) (2 * corner r c) d ≡ first_row r c
  first_there d = row_first (corner r c) d below_64 ∙ (λ i. first_row (over_8 i) (mod_8 i))

  pub second_there : (d : Row) → get_or (rows ring) (2 * corner r c + 1) d ≡ second_row r c
  second_there d = row_second (corner r c) d below_64 ∙ (λ i. second_row (over_8 i) (mod_8 i))

-- each row stands at twice a corner's number, or next to it
each_row : {z : Row} → z ∈ rows ring → (r : ℕ) × (c : ℕ) × OnGrid r c × ((z ≡ first_row r c) ⊎ (z ≡ second_row r c))
each_row {z} m = go (place_of (row 0 0 0) m)
  where
    go : (j : ℕ) × (j < length (rows ring)) × (get_or (rows ring) j (row 0 0 0) ≡ z) → (r : ℕ) × (c : ℕ) × OnGrid r c × ((z ≡ first_row r c) ⊎ (z ≡ second_row r c))
    go (j, h, e) =
        let v = j / 2 in
        let b : v < 64 = omega (arith, ring_length, h) in
        (v / 8, v % 8, (omega arith, omega arith), which v b (even_or_odd j))
      where
        even_or_odd : (j : ℕ) → (j ≡ 2 * (j / 2)) ⊎ (j ≡ 2 * (j / 2) + 1)
        even_or_odd j = elim (ℕ_discrete (j % 2) 0) [ yes p ↦ inl (omega arith) | no n ↦ inr (omega arith) ]

        which : (v : ℕ) → v < 64 → (j ≡ 2 * v) ⊎ (j ≡ 2 * v + 1) → (z ≡ first_row (v / 8) (v % 8)) ⊎ (z ≡ second_row (v / 8) (v % 8))
        which v b (inl p) = inl (sym e ∙ ap (λ k. get_or (rows ring) k (row 0 0 0)) p ∙ row_first v (row 0 0 0) b)
        which v b (inr p) = inr (sym e ∙ ap (λ k. get_or (rows ring) k (row 0 0 0)) p ∙ row_second v (row 0 0 0) b)

ring_torus : Torus ring
ring_torus = record {
  numbers = ring_numbers;
  first = λ r c g d. first_there r c g d;
  second = λ r c g d. second_there r c g d;
  each = λ m. each_row m;
  stage = ring_stage;
  used = λ h. ring_used h;
  euler = ring_euler;
}

pub trial_ring : TrialRing
trial_ring = record { answered = λ answers tells. (ring, record { inside = λ k h. ap told (there answers tells k (omega (arith, ring_numbers, h))); past = λ k h. ap told (trial_one k (answers k) None (tells k) (omega (arith, ring_numbers, h))) }, ring_torus) }
  where
    there : (answers : ℕ → Option ℕ) → ((k : ℕ) → AnswerAt k (answers k)) → (k : ℕ) → k < size → answers k ≡ Some (get_or ring k 0)
    there answers tells k h = trial_one k (answers k) (Some (get_or ring k 0)) (tells k) (h, ring_at k h)
