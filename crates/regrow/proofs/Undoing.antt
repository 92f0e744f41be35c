-- The records done so far are the last of the log, and the table that they lead to stands in the room.
use mathlib.Core.Path.{◌≡◌, refl, sym, ◌∙◌, ap}
use mathlib.Core.Bool.{true, false}
use mathlib.Core.List.{List, reverse}
use Prim.Native.Nat.{ℕ, ◌+◌, ◌-◌, ◌*◌, ◌≤◌, ◌<◌}
use native.Mathlib.Omega.{arith}
use lib.ListN.{length, drop, length-reverse}
use Rattle.std.specs.Prelude.{Ok, Err}
use Rattle.follow.specs.Leads.{Leads, no_step, one_step}
use Rattle.follow.specs.Inner.{FollowedIn}
use Rattle.follow.proofs.Upto.{Upto, upto_none, upto_all, upto_fails, upto_more}
use Rattle.surface.specs.Rows.{Row}
use Rattle.surface.specs.Stage.{Stage}
use Rattle.surface.specs.InnerStageTable.{StageTable}
use Rattle.surface.specs.Record.{Record}
use Rattle.surface.proofs.Main.{two_fewer}
use Rattle.growth.specs.Accept.{Accepted}
use Rattle.growth.proofs.Recorded.{grown_back_stage}
use Rattle.record.specs.Layout.{width, count, record_at, records}
use Rattle.record.specs.Front.{front_rows, standing, filled}
use Rattle.record.proofs.Places.{records_length, records_back}
use Rattle.refusal.specs.declared.Refusal.TheVariants.{RecordFails}
use Rattle.grow.specs.Room.{GrewBack}
use Rattle.record.proofs.Front.{front_stage, standing_length, standing_filled, filled_standing, filled_length, filled_again}
use Rattle.regrow.specs.declared.Halt.TheVariants.{Stopped}
use Rattle.regrow.specs.Outcome.{growing}
use Rattle.regrow.specs.Inner.{CanGrow}

-- an accepted record makes two rows more
two_more : {n : ℕ} {T' T : List Row} {k : Record} → Accepted n T' k T → length T ≡ 2 + length T'
two_more {n} {T'} {T} {k} g = two_fewer n T g.stage k.kept k.removed g.replays.meets ∙ ap (λ (S : List Row). 2 + length S) g.replays.leaves

pub grown_rows : (n : ℕ) {T' T : List Row} {l : List Record} → Leads (Accepted n) T' l T → length T ≡ length T' + 2 * length l
grown_rows n (no_step e) = let h = ap length e in omega arith
grown_rows n (one_step a w) = let h = two_more a in let i = grown_rows n w in omega arith

-- after so many records
pub record Undone (n m : ℕ) (room log : List ℕ) (done : ℕ) (room' : List ℕ) : Type 0 where
  pub table : List Row
  pub upto : Upto (growing n m room log) done table
  pub many : length table ≡ m + 2 * done
  pub left : room' ≡ filled table room

module _ (n m : ℕ) (room log : List ℕ) (g : CanGrow n m room log) where
  inside : 3 * m ≤ length room
  inside = let h = g.fits in omega arith

  all_of : length (reverse (records log)) ≡ count log
  all_of = length-reverse (records log) ∙ records_length log

  pub undone_none : Undone n m room log 0 room
  undone_none = record {
    table = standing m room;
    upto = upto_none (growing n m room log);
    many = let e = standing_length m room inside in omega arith;
    left = sym (filled_standing m room inside);
  }

  module _ (done : ℕ) (room' : List ℕ) (w : Undone n m room log done room') where
    abbrev here : ℕ
    here = m + 2 * done

    stands : standing here room' ≡ w.table
    stands = ap (standing here) w.left ∙ standing_filled here w.table room w.many

    stage : Stage n w.table
    stage = grown_back_stage n g.table.stage w.upto.led

    pub same : length room' ≡ length room
    same = let u = w.upto.within in let h = g.fits in let k = w.many in let a = all_of in ap length w.left ∙ filled_length w.table room (omega arith)

    pub table_stands : StageTable n (front_rows (m + 2 * done) room')
    table_stands = rw (ap (front_rows here) w.left) (front_stage here w.table (drop (3 * length w.table) room) w.many stage)

    pub done_all : {all : ℕ} → done ≡ all → count log ≤ done → FollowedIn (growing n m room log) (Ok all) room'
    done_all e h = rw (← e) record { state = w.table; reached = upto_all (growing n m room log) w.upto (omega (arith, all_of, h)); left = w.left }

    module _ (more : done < count log) where
      pub room_for_two : 3 * (m + 2 * done + 2) ≤ length room'
      room_for_two = let h = g.fits in let e = same in omega arith

      -- the record before those done
      abbrev pub next : Record
      next = record_at log (width * (count log - 1 - done))

      more_items : done < length (reverse (records log))
      more_items = omega (arith, all_of, more)

      pub next_fails : {room'' : List ℕ} → GrewBack n (m + 2 * done) next room' false room'' → FollowedIn (growing n m room log) (Err (Stopped done)) room''
      unfolding GrewBack
      next_fails f = record {
        state = w.table;
        reached = upto_fails (growing n m room log) w.upto more_items next (records_back log done more next) {r = RecordFails} ((λ T a. f.0 T (rw stands a)), refl);
        left = f.1 ∙ w.left;
      }

      pub next_done : {room'' : List ℕ} → GrewBack n (m + 2 * done) next room' true room'' → Undone n m room log (done + 1) room''
      unfolding GrewBack
      next_done f =
          let a : Accepted n w.table next f.0 = rw stands at f.1 in
          let l = two_more a in
          let k = w.many in record {
            table = f.0;
            upto = upto_more (growing n m room log) w.upto more_items next (records_back log done more next) a;
            many = omega arith;
            left = f.2 ∙ ap (filled f.0) w.left ∙ filled_again w.table f.0 room (omega arith);
          }
