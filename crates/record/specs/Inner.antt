-- What inner functions are asked on and give: no public contract names it.
use Rattle.std.specs.Prelude.{◌≡◌}
use Rattle.surface.specs.Record as surface
use Rattle.record.specs.declared.Contracted.{Contracted}

-- e has kept and removed of the record k
pub record IsContracted (k : surface.Record) (e : Contracted) : Type 0 where
  pub kept : e.kept.0 ≡ k.kept
  pub removed : e.removed.0 ≡ k.removed
