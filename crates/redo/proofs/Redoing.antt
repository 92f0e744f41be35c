-- A step on the front of a lent table does the record again.
use mathlib.Core.Path.{◌≡◌, refl}
use mathlib.Core.Bool.{true, false}
use mathlib.Core.List.{List}
use Prim.Native.Nat.{ℕ, ◌*◌, ◌≤◌}
use lib.ListN.{length}
use Rattle.surface.specs.InnerStageTable.{StageTable}
use Rattle.run.proofs.Main.{step_one}
use Rattle.record.specs.declared.Record.{Record}
use Rattle.record.specs.Meant.{meant}
use Rattle.record.specs.Front.{front_rows, standing}
-- a caller's scratch, as it is made
pub use Rattle.neighbours.proofs.Marking.{unmarked_new}
use Rattle.step.specs.Front.{SteppedFront}
use Rattle.step.proofs.Front.{fallen_none, front_replays, fallen_on, fallen_left}
use Rattle.redo.specs.Redo.{Accepts, Redid}

module _ (m : ℕ) (t : List ℕ) (k : Record) where
  pub redo_done : {n : ℕ} → StageTable n (front_rows m t) → 3 * m ≤ length t → Accepts (standing m t) (meant k) → (e : Record) (t' : List ℕ) → SteppedFront t m k.kept.0 k.removed.0 e t' → length t' ≡ length t → Redid m (meant k) t true t'
  unfolding Redid
  redo_done w h a e t' s same =
      let g = fallen_none h w in
      let q = front_replays t m g e t' s same in
      let o = step_one s.stepped.kept_is s.stepped.removed_is q a.1 in
      (_, rw o.0 at q, fallen_left t' _ (fallen_on t m g e t' s same))

  pub redo_not : ¬ Accepts (standing m t) (meant k) → Redid m (meant k) t false t
  unfolding Redid
  redo_not a = (a, refl)
