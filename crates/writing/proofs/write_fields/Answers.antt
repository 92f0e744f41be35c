-- `write_fields` meets its contract: what is left of the fields goes on being written.
use mir.Syntax.{w64}
use mir.Val.{SFits}
use mir.ValLaws.{to_z-of_z}
use Rattle.writing.proofs.Writing.{field_written}
use Rattle.writing.proofs.write_fields.Goals as goal

pub loop-z-preserved : goal.loop-z-preserved
loop-z-preserved g c =
    let q : SFits w64 c.widened.result = record { sfits = c.widened.type_inv } in
    field_written g.F.Field.up c.args.zs.now c.loop-z.z-index c.z-item.result c.loop-z-test.true c.z-item.is c.loop-z.invariant (rw (to_z-of_z w64 c.widened.result q, c.widened.ensures) at c.write_signed-k.ensures)
