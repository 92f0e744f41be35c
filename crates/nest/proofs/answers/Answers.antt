-- `answers` meets its contract.
use mathlib.Core.Path.{◌∙◌, ap}
use lib.IntN.{nat_abs}
use mir.Syntax.{w64}
use mir.Val.{SFits}
use mir.ValLaws.{to_z-of_z}
use Rattle.nest.specs.Limits.{most_sum}
use Rattle.nest.specs.Questions.{Marked, Named, Shallow, SumIn}
use Rattle.nest.proofs.Entries.{read, here}
use Rattle.nest.proofs.Asking.{kinds_apart, answered, no_no, at_most, shallow_told}
use borrow.Author.Rules.{rules}
use Rattle.nest.proofs.answers.Goals as goal

pub returns-in-Kind : goal.returns-in-Kind
returns-in-Kind c =
    let es = c.args.entries.now in
    let i = c.args.i in
    rw (c.in-Kind.is, c.ne.ensures, c.kind_of.ensures) (answered Marked es i (read es i) (here es i c.requires.1) _ (no_no (kinds_apart _ _)))

pub returns-in-Name : goal.returns-in-Name
returns-in-Name c =
    let es = c.args.entries.now in
    let i = c.args.i in
    rw c.in-Name.is (answered Named es i (read es i) (here es i c.requires.1) _ c.named.ensures)

pub returns-in-Depth : goal.returns-in-Depth
returns-in-Depth c =
    let es = c.args.entries.now in
    let i = c.args.i in
    rw c.in-Depth.is (answered Shallow es i (read es i) (here es i c.requires.1) _ (shallow_told (read es i) c.depth_of.ensures.0))

pub returns-in-Sum : goal.returns-in-Sum
returns-in-Sum c =
    let es = c.args.entries.now in
    let i = c.args.i in
    let sum = (read es i).sum in
    let fits : SFits w64 sum = search rules in
    let size = c.size.ensures ∙ ap nat_abs (to_z-of_z w64 sum fits) in
    rw (c.in-Sum.is, size) (answered SumIn es i (read es i) (here es i c.requires.1) _ (at_most (nat_abs sum) most_sum))
