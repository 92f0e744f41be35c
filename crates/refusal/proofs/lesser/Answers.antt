-- `lesser` meets its contract.
use mathlib.Core.Path.{sym}
use native.Mathlib.Omega.{arith}
use Rattle.refusal.specs.Inner.{lesser_of}
use Rattle.refusal.proofs.Either.{lesser_left, lesser_right}
use Rattle.refusal.proofs.lesser.Goals as goal
use Rattle.refusal.proofs.lesser.Goals.{in_default-via-in-Err-Err+else-from, in_default-via-in-Err+in_default, in_default-via-in_default}

pub returns-in-Err-Err : goal.returns-in-Err-Err
returns-in-Err-Err c = let e = c.in-Err-Err in rw (e.is-0, e.is-1) (sym (lesser_right e.a e.b (omega arith)))

pub returns-in_default : goal.returns-in_default
unfolding lesser_of
returns-in_default c = elim c.in_default.branch [
  | in_default-via-in-Err-Err+else-from w ↦ (let e = w.in-Err-Err in rw (c.and.ensures, e.is-0, e.is-1) (sym (lesser_left e.a e.b (omega arith))))
  | in_default-via-in-Err+in_default w ↦ rw (c.and.ensures, w.in_default.is-0, w.in_default.is-1)
  | in_default-via-in_default w ↦ rw (c.and.ensures, w.in_default.is-0)
]
