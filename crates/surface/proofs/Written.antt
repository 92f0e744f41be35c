-- The record that a step writes.
use mathlib.Core.Path.{◌≡◌, refl}
use mathlib.Core.List.{List}
use Prim.Native.Nat.{ℕ, ◌<◌}
use Rattle.surface.specs.Rows.{Row}
use Rattle.surface.specs.Stage.{Stage}
use Rattle.surface.specs.Link.{Meets}
use Rattle.surface.specs.Contract.{contract}
use Rattle.surface.specs.Record.{Record, Replays}
use Rattle.surface.proofs.TwoPlaces.{two_places}

pub written : (n : ℕ) (T : List Row) (a b : ℕ) → Stage n T → Meets T a b → Record
written n T a b s m =
    let t = two_places n T a b s m in
    record { kept = a; removed = b; place_1 = t.i; row_1 = t.r; place_2 = t.j; row_2 = t.z }

pub written_kept : (n : ℕ) (T : List Row) (a b : ℕ) (s : Stage n T) (m : Meets T a b) → (written n T a b s m).kept ≡ a
unfolding written
written_kept n T a b s m = refl

pub written_removed : (n : ℕ) (T : List Row) (a b : ℕ) (s : Stage n T) (m : Meets T a b) → (written n T a b s m).removed ≡ b
unfolding written
written_removed n T a b s m = refl

pub written_replays : (n : ℕ) (T : List Row) (a b : ℕ) (s : Stage n T) (m : Meets T a b) → a < b → Replays T (written n T a b s m) (contract a b T)
unfolding written
written_replays n T a b s m h = record { lower = h; meets = m; leaves = refl; record_is = (two_places n T a b s m).is }
