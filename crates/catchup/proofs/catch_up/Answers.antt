-- Each answer is one of the four cases; a part of a lent slice stands where it says.
use mathlib.Core.Path.{refl}
use Prim.Native.Nat.{◌<◌}
use native.Mathlib.Omega.{arith}
use lib.ListN.{length}
use Rattle.catchup.specs.CatchUp.{Beginning}
use Rattle.catchup.proofs.Beginnings.{begins, begins_not, rest_of_second, rest_of_first, no_rest_of_either}
use Rattle.catchup.proofs.catch_up.Goals.{else-m-n-via-then-m-n+else-starts_with, else-m-n-via-else-m-n, else-n-m-via-then-n-m+else-starts_with-2, else-n-m-via-else-n-m}
use Rattle.catchup.proofs.catch_up.Goals as goal

pub returns-then-starts_with : goal.returns-then-starts_with
returns-then-starts_with c =
    rest_of_second c.args.first c.args.second _ c.if-m-n.true (begins _ _ _ c.starts_with.ensures.value c.if-starts_with.true) (record { place = refl; holds = refl })

pub returns-then-starts_with-2 : goal.returns-then-starts_with-2
returns-then-starts_with-2 c =
    rest_of_first c.args.first c.args.second _ c.if-n-m.true (begins _ _ _ c.starts_with-then-n-m.ensures.value c.if-starts_with-2.true) (record { place = refl; holds = refl })

pub returns : goal.returns
returns c =
    let f = c.args.first.now in
    let s = c.args.second.now in
    let a : length f < length s → ¬ Beginning f s = elim c.else-m-n.branch [
      | else-m-n-via-then-m-n+else-starts_with w ↦ λ h. begins_not _ _ _ w.starts_with.ensures.value w.if-starts_with.false
      | else-m-n-via-else-m-n w ↦ λ h. absurd (omega (arith, w.if-m-n.false))
    ] in
    let b : length s < length f → ¬ Beginning s f = elim c.else-n-m.branch [
      | else-n-m-via-then-n-m+else-starts_with-2 w ↦ λ h. begins_not _ _ _ w.starts_with-then-n-m.ensures.value w.if-starts_with-2.false
      | else-n-m-via-else-n-m w ↦ λ h. absurd (omega (arith, w.if-n-m.false))
    ] in
    no_rest_of_either c.args.first c.args.second _ a b (record { place = refl; holds = refl })
