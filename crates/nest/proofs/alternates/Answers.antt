-- `alternates` meets its contract.
use Rattle.nest.specs.Questions.{Alternates}
use Rattle.refusal.proofs.Tells.{tells_true}
use Rattle.nest.proofs.Entries.{read, here, stands_earlier}
use Rattle.nest.proofs.Asking.{kinds_apart, answered, alternates_none, alternates_some}
use native.Mathlib.Omega.{arith}
use borrow.Author.Rules.{rules}
use Rattle.nest.proofs.alternates.Goals as goal

pub offset_bounds-entries-j : goal.offset_bounds-entries-j
offset_bounds-entries-j c =
    let h = stands_earlier c.args.entries.now c.requires.0 c.args.i c.in-Some.j c.requires.1 c.in-Some.is in
    let k = c.requires.1 in search rules

pub bounds-entries-j : goal.bounds-entries-j
bounds-entries-j c =
    let h = stands_earlier c.args.entries.now c.requires.0 c.args.i c.in-Some.j c.requires.1 c.in-Some.is in
    omega (arith, c.requires.1)

pub returns-in-None : goal.returns-in-None
returns-in-None c =
    let es = c.args.entries.now in
    let i = c.args.i in
    answered Alternates es i (read es i) (here es i c.requires.1) _ (tells_true (alternates_none es i (read es i) c.in-None.is))

pub returns-in-Some : goal.returns-in-Some
returns-in-Some c =
    let es = c.args.entries.now in
    let i = c.args.i in
    let j = c.in-Some.j in
    let h = stands_earlier es c.requires.0 i j c.requires.1 c.in-Some.is in
    rw (c.ne.ensures, c.kind_of.ensures, c.kind_of-in-Some.ensures) (
    answered Alternates es i (read es i) (here es i c.requires.1) _
    (alternates_some es i (read es i) j c.in-Some.is (read es j) (here es j (omega (arith, c.requires.1))) _ (kinds_apart _ _))
    )
