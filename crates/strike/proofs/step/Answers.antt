-- Two rows leave, and the other slots of v hold u (`struck`).
use mathlib.Core.Path.{refl}
use Rattle.strike.proofs.Striking.{ring_inside, some_beside, fits_later, fits_earlier, small_later, small_earlier, both_stand, struck}
use native.Mathlib.Omega.{arith}
use Rattle.strike.proofs.step.Goals as goal

pub find-beside-requires : goal.find-beside-requires
find-beside-requires c =
    let pre = c.requires in
    record { inside = ring_inside pre.ready; some_beside = some_beside pre.ready }

pub leaving_of-earlier-requires : goal.leaving_of-earlier-requires
leaving_of-earlier-requires c =
    let ordered = c.ordered-pair in
    let find = c.find-beside in
    let pre = c.requires in
    record { r_in_bounds = (fits_earlier pre.ready find.ensures ordered.ensures, small_earlier pre.ready find.ensures ordered.ensures); counts_some = (record { set = _; counts = pre.ready.tallied }) }

pub leaving_of-later-requires : goal.leaving_of-later-requires
leaving_of-later-requires c =
    let ordered = c.ordered-pair in
    let find = c.find-beside in
    let pre = c.requires in
    record { r_in_bounds = (fits_later pre.ready find.ensures ordered.ensures, small_later pre.ready find.ensures ordered.ensures); counts_some = (record { set = _; counts = pre.ready.tallied }) }

pub rename-requires : goal.rename-requires
rename-requires c =
    let pre = c.requires in
    ring_inside pre.ready

pub kill-requires : goal.kill-requires
kill-requires c =
    let rename = c.rename in
    let ordered = c.ordered-pair in
    let find = c.find-beside in
    let pre = c.requires in
    let e = rename.ensures.size in let m = (ring_inside pre.ready).most in let f = fits_earlier pre.ready find.ensures ordered.ensures in (omega arith, omega arith)

pub kill-requires-2 : goal.kill-requires-2
kill-requires-2 c =
    let kill = c.kill in
    let rename = c.rename in
    let ordered = c.ordered-pair in
    let find = c.find-beside in
    let pre = c.requires in
    let e = rename.ensures.size in let q = kill.ensures.size in let m = (ring_inside pre.ready).most in let f = fits_later pre.ready find.ensures ordered.ensures in (omega arith, omega arith)

pub leave-requires : goal.leave-requires
leave-requires c =
    let ordered = c.ordered-pair in
    let find = c.find-beside in
    let pre = c.requires in
    record { i_lt_most_rows = small_earlier pre.ready find.ensures ordered.ensures; j_lt_most_rows = small_later pre.ready find.ensures ordered.ensures; stairs = pre.stairs; two_stand = both_stand pre.ready find.ensures ordered.ensures }

pub returns : goal.returns
returns c =
    let leave = c.leave in
    let kill2 = c.kill-2 in
    let kill = c.kill in
    let rename = c.rename in
    let leaving-of2 = c.leaving_of-later in
    let leaving-of = c.leaving_of-earlier in
    let ordered = c.ordered-pair in
    let find = c.find-beside in
    let pre = c.requires in
    struck pre.ready find.ensures ordered.ensures rename.ensures kill.ensures kill2.ensures leave.ensures _ _ _ _ refl refl leaving-of.ensures leaving-of2.ensures
