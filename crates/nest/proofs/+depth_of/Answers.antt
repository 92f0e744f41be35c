-- `depth_of` meets its contract.
use Rattle.std.proofs.Common.{arith, rules}
use Rattle.nest.specs.Questions.{top}
use Rattle.nest.proofs.Entries.{here, stands_earlier}
use Rattle.nest.proofs.Asking.{deep_below}
use Rattle.nest.proofs.+depth_of.Goals as goal

pub depth_of-requires : goal.depth_of-requires
depth_of-requires t c =
    let h = stands_earlier c.args.entries.now c.requires.0 c.args.i c.in-Some.j c.requires.1 c.in-Some.is in
    (omega (arith, c.decreases), (c.requires.0, omega (arith, c.requires.1)))

pub overflow_add-result : goal.overflow_add-result
overflow_add-result t c =
    let h = stands_earlier c.args.entries.now c.requires.0 c.args.i c.in-Some.j c.requires.1 c.in-Some.is in
    let g = c.depth_of.ensures.1 in
    let k = c.requires.1 in search rules

pub returns-in-None : goal.returns-in-None
returns-in-None t c = (top _ (here c.args.entries.now c.args.i c.requires.1) c.in-None.is, omega arith)

pub returns-in-Some : goal.returns-in-Some
returns-in-Some t c =
    let h = stands_earlier c.args.entries.now c.requires.0 c.args.i c.in-Some.j c.requires.1 c.in-Some.is in
    (deep_below _ (here c.args.entries.now c.args.i c.requires.1) c.in-Some.is c.depth_of.ensures.0, omega (arith, c.depth_of.ensures.1))
