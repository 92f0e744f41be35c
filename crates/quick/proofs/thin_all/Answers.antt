-- The table is laid down, thinned corner by corner, and closed up.
use mathlib.Core.Path.{refl}
use lib.ListN.{length}
use Rattle.slots.proofs.Staged.{table_whole}
use Rattle.slots.proofs.Marks.{no_mark}
use Rattle.surface.specs.Limits.{most_corners}
use Prim.Native.Nat.{◌+◌}
use Rattle.quick.proofs.Closing.{numbers_under, places_of, first_before, thinned}
use native.Mathlib.Omega.{arith}
use Rattle.quick.proofs.thin_all.Goals as goal

pub begin-requires : goal.begin-requires
begin-requires c =
    let pre = c.requires in
    record {
      whole = (table_whole pre.stage_table, numbers_under pre.stage_table);
      t_value = (pre.t_value, omega (arith, (table_whole pre.stage_table).most));
      blank = (record { blank = no_mark (most_corners + 1) }, record { blank = no_mark (most_corners + 1) });
      empty = c.new.ensures;
    }

pub finish_all-k-requires : goal.finish_all-k-requires
finish_all-k-requires c =
    let pre = c.requires in
    first_before pre.stage_table _ c.begin.ensures.held_after (omega (arith, c.begin.auto.held, (places_of pre.stage_table (length c.args.held.now) pre.t_value).0)) c.begin.ensures.begun refl pre.room_for

pub returns : goal.returns
returns c =
    let clear = c.clear in
    let t = c.close_up-j in
    let close_up = c.close_up-j in
    let finish-all = c.finish_all-k in
    let held = c.begin in
    let pre = c.requires in
    let args = c.args in
    thinned pre.stage_table _ c.begin.ensures.held_after (omega (arith, held.auto.held, (places_of pre.stage_table (length args.held.now) pre.t_value).0)) _ _ _ finish-all.ensures close_up.ensures t.auto.t clear.ensures
