-- A whole part as the machine has it.
use native.Mathlib.Omega.{arith}
use mir.Syntax.{w64}
use mir.Val.{to_z, of_z}
use Rattle.ints.proofs.Machine.{Is, var, sfits_abs}
use Rattle.wide.specs.declared.Wide.{Wide}
use Rattle.wide.specs.Inner.{most_whole, Fits}
use Rattle.wide.proofs.Laws.{whole_size}

pub part : {w : Wide} → Fits w → Is most_whole w.whole (to_z w64 (of_z w64 w.whole))
part {w} f = let s = whole_size f in var w64 (sfits_abs w64 w.whole (omega arith)) s
