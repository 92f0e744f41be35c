-- The trial ring is closed: a stage over 64 corners, all used, of Euler number 64 - 192 + 128 = 0.
use mathlib.Core.Path.{◌≡◌, sym, ap}
use Prim.Native.Nat.{ℕ, ◌+◌, ◌*◌, ◌<◌}
use native.Mathlib.Omega.{arith}
use lib.Dec.{T as So}
use lib.IntN.{pos, ◌-ℤ◌}
use lib.ListN.{length}
use Rattle.surface.specs.Lists.{Exactly}
use Rattle.surface.specs.Rows.{rows}
use Rattle.surface.specs.Table.{Used, edges}
use Rattle.surface.specs.Stage.{Stage}
use Rattle.surface.specs.Euler.{Euler}
use Rattle.surface.proofs.Round.{upto, every_upto}
use Rattle.surface.proofs.Counted.{two_rows}
use Rattle.surface.proofs.Stepped.{counted, upto_distinct, upto_below, upto_length}
use Rattle.computed.proofs.Passing.{passes_stage}
use Rattle.computed.proofs.Using.{uses_all, uses_sound}
use Rattle.ring.specs.Ring.{number_at}
use Rattle.ring.specs.Inner.{numbers_from, ring}
use Rattle.torus.proofs.Rows.{ring_length}

-- one test over the whole table
pub ring_stage : Stage 64 (rows ring)
unfolding edges rows ring numbers_from number_at
ring_stage = passes_stage 64 (rows ring) tt

all_used : So (uses_all 64 (rows ring))
unfolding edges rows ring numbers_from number_at
all_used = tt

-- every corner is used
pub ring_used : {v : ℕ} → v < 64 → Used (rows ring) v
ring_used h = uses_sound 64 (rows ring) all_used h

corners : Exactly (Used (rows ring)) 64
corners = record {
  list = upto 64;
  distinct = upto_distinct 64;
  all = λ u. every_upto 64 _ (ring_stage.below u.1.1);
  only = λ m. ring_used (upto_below 64 _ m);
  count = upto_length 64;
}

pub ring_euler : Euler (rows ring) (pos 0)
ring_euler =
    let c = counted 64 (rows ring) ring_stage in
    let s = c.2.sides in
    let h : 2 * c.1 ≡ 3 * length (rows ring) = two_rows 64 (rows ring) ring_stage s in
    let l = ring_length in
    let e : c.1 ≡ 192 = omega arith in
    record { v = 64; e = 192; counts = record { corners = corners; sides = rw e at s }; is = ap (λ m. pos (64 + m) -ℤ pos 192) (sym ring_length) }
