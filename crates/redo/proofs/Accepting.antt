-- When a record is accepted on a stage, test by test.
use mathlib.Core.List.{List}
use Prim.Native.Nat.{ℕ, ◌≤◌}
use native.Mathlib.Omega.{arith}
use Rattle.surface.specs.Rows.{rows}
use Rattle.surface.specs.InnerStageTable.{StageTable}
use Rattle.record.specs.declared.Record.{Record}
use Rattle.record.specs.Meant.{meant}
use Rattle.redo.specs.Redo.{Accepts}

module _ (t : List ℕ) (r : Record) where
  abbrev a : ℕ
  a = r.kept.0

  abbrev b : ℕ
  b = r.removed.0

  pub not_below_lem : {n : ℕ} → StageTable n t → n ≤ b → ¬ Accepts (rows t) (meant r)
  not_below_lem w h k = let l = w.stage.below (w.stage.both k.1.meets.edge).1 in omega arith
