-- `number_lines` meets its contract: what is left of the lines goes on being written.
use Rattle.std.proofs.Common.{◌≡◌, ◌+◌, ◌-◌, ◌*◌, arith}
use Rattle.writing.proofs.Writing.{line_fits, lining_more}
use Rattle.writing.proofs.number_lines.Goals as goal

pub write_line-k-requires : goal.write_line-k-requires
write_line-k-requires g c =
    let e : c.loop-i.i * c.args.width + c.args.width - c.loop-i.i * c.args.width ≡ c.args.width = omega arith in
    rw e (line_fits c.loop-i.invariant c.loop-i-test.true c.requires.fits)

pub loop-i-preserved : goal.loop-i-preserved
loop-i-preserved g c =
    let e : c.loop-i.i * c.args.width + c.args.width - c.loop-i.i * c.args.width ≡ c.args.width = omega arith in
    lining_more c.loop-i.invariant c.loop-i-test.true (rw e at c.write_line-k.ensures)
