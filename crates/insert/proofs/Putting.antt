-- Two rows put in, one after the other.
use mathlib.Core.Path.{◌≡◌, ◌∙◌, ap}
use mathlib.Core.List.{List}
use Prim.Native.Nat.{ℕ, ◌+◌, ◌*◌, ◌≤◌}
use native.Mathlib.Omega.{arith}
use lib.ListN.{length}
use Rattle.surface.specs.Record.{Record, placed}
use Rattle.growth.specs.Grow.{put, put_back}
use Rattle.growth.proofs.Put.{put_length}
use Rattle.record.specs.Front.{standing, filled}
use Rattle.record.proofs.Front.{standing_length, standing_filled, filled_again}

-- the earlier row put in, then the later
pub both_put : (m : ℕ) (k : Record) (room room₁ room₂ : List ℕ) → 3 * m ≤ length room →
    room₁ ≡ filled (put k.place_1 k.row_1 (standing m room)) room → room₂ ≡ filled (put k.place_2 k.row_2 (standing (m + 1) room₁)) room₁ →
    room₂ ≡ filled (put_back (placed k) (standing m room)) room
unfolding put_back
both_put m k room room₁ room₂ h e f =
    let T = put k.place_1 k.row_1 (standing m room) in
    let l : length T ≡ m + 1 = let p = put_length k.place_1 k.row_1 (standing m room) in let q = standing_length m room h in omega arith in
    let g : standing (m + 1) room₁ ≡ T = ap (standing (m + 1)) e ∙ standing_filled (m + 1) T room l in
    let n = put_length k.place_2 k.row_2 T in
    f ∙ (λ i. filled (put k.place_2 k.row_2 (g i)) (e i)) ∙ filled_again T (put k.place_2 k.row_2 T) room (omega arith)
