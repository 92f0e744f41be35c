-- A coordinate against the range, and all coordinates of a list.
use mathlib.Core.List.{List}
use Prim.Native.Nat.{ℕ, ◌≤◌, ◌<◌}
use lib.IntN.{ℤ, pos, nat_abs}
use lib.ListN.{length, get_or}
use Rattle.surface.proofs.Flat.{at_place, place_of}
use Rattle.corners.specs.Limits.{most_coordinate}
use Rattle.corners.specs.Skin.{InRange}
use Rattle.faults.specs.Words.{OutOfRange}

pub out_at : (xs : List ℤ) (i : ℕ) → i < length xs → most_coordinate < nat_abs (get_or xs i (pos 0)) → OutOfRange xs
out_at xs i h k = record { z = get_or xs i (pos 0); here = at_place xs i (pos 0) h; far = k }

pub all_in : (xs : List ℤ) → ((i : ℕ) → i < length xs → nat_abs (get_or xs i (pos 0)) ≤ most_coordinate) → InRange xs
all_in xs h = record { range = λ m. let r = place_of (pos 0) m in rw r.2 at (h r.0 r.1) }
