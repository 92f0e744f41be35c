-- The records done so far are the first of the log, and the stage that they lead to stands in front.
use mathlib.Core.Path.{◌≡◌, refl, sym, ◌∙◌, ap}
use mathlib.Core.Bool.{true, false}
use mathlib.Core.List.{List}
use Prim.Native.Nat.{ℕ, ◌+◌, ◌-◌, ◌*◌, ◌/◌, ◌≤◌, ◌<◌}
use native.Mathlib.Omega.{arith}
use lib.ListN.{length, replicate}
use Rattle.std.specs.Prelude.{Ok, Err}
use Rattle.regrow.specs.declared.Halt.TheVariants.{Stopped}
use Rattle.follow.specs.Inner.{FollowedIn}
use Rattle.follow.proofs.Upto.{Upto, upto_none, upto_all, upto_fails, upto_more}
use Rattle.surface.specs.Rows.{Row, rows, flat}
use Rattle.surface.specs.Stage.{Stage}
use Rattle.surface.specs.InnerStageTable.{StageTable}
use Rattle.surface.specs.Record.{Record, Replays}
use Rattle.run.proofs.Main.{replayed_stage, step_rows}
use Rattle.refusal.specs.declared.Refusal.TheVariants.{RecordFails}
use Rattle.record.specs.Layout.{width, count, record_at, records}
use Rattle.record.specs.Front.{front_rows, standing, zeroed, lowered}
use Rattle.record.proofs.Log.{first_at}
use Rattle.record.proofs.Places.{records_length}
use Rattle.record.proofs.Front.{front_stage, standing_front, zeroed_whole, zeroed_length, zeroed_again}
use Rattle.redo.specs.Redo.{Redid}
use Rattle.replay.specs.Outcome.{replaying}

-- after so many records
pub record Redone (n : ℕ) (t log : List ℕ) (done : ℕ) (t' : List ℕ) : Type 0 where
  pub table : List Row
  pub upto : Upto (replaying n t log) done table
  pub many : length table + 2 * done ≡ length t / 3
  pub left : t' ≡ zeroed table t

module _ (n : ℕ) (t log : List ℕ) (g : StageTable n t) where
  whole : length (rows t) ≡ length t / 3
  whole = let e = g.count in omega arith

  pub redone_none : Redone n t log 0 t
  redone_none = record { table = rows t; upto = upto_none (replaying n t log); many = omega (arith, whole); left = sym (zeroed_whole t g.count) }

  module _ (done : ℕ) (t' : List ℕ) (w : Redone n t log done t') where
    abbrev here : ℕ
    here = length t / 3 - 2 * done

    many : length w.table ≡ here
    many = let e = w.many in omega arith

    inside : 3 * length w.table ≤ length t
    inside = let e = w.many in omega arith

    stands : standing here t' ≡ w.table
    stands = ap (standing here) w.left ∙ standing_front here w.table (replicate (length t - length (flat w.table)) 0) many

    stage : Stage n w.table
    stage = replayed_stage g.stage w.upto.led

    pub same : length t' ≡ length t
    same = ap length w.left ∙ zeroed_length w.table t inside

    pub rows_there : 2 * done ≤ length t / 3
    rows_there = let e = w.many in omega arith

    pub rows_inside : 3 * (length t / 3 - 2 * done) ≤ length t'
    rows_inside = omega (arith, same, many, inside)

    pub table_stands : StageTable n (front_rows (length t / 3 - 2 * done) t')
    table_stands = rw (ap (front_rows here) w.left) (front_stage here w.table (replicate (length t - length (flat w.table)) 0) many stage)

    pub done_all : {all : ℕ} → done ≡ all → count log ≤ done → FollowedIn (replaying n t log) (Ok all) t'
    done_all e h = rw (← e) record { state = w.table; reached = upto_all (replaying n t log) w.upto (omega (arith, records_length log, h)); left = w.left }

    module _ (more : done < count log) where
      -- the record after those done
      abbrev pub next : Record
      next = record_at log (width * done)

      more_items : done < length (records log)
      more_items = omega (arith, records_length log, more)

      pub next_fails : {t'' : List ℕ} → Redid (length t / 3 - 2 * done) next t' false t'' → FollowedIn (replaying n t log) (Err (Stopped done)) t''
      unfolding Redid
      next_fails f = record {
        state = w.table;
        reached = upto_fails (replaying n t log) w.upto more_items next (first_at (count log) log done next more) {r = RecordFails} ((λ T r. f.0 (T, rw stands r)), refl);
        left = f.1 ∙ w.left;
      }

      pub next_done : {t'' : List ℕ} → Redid (length t / 3 - 2 * done) next t' true t'' → Redone n t log (done + 1) t''
      unfolding Redid
      next_done f =
          let r : Replays w.table next f.0 = rw stands at f.1 in
          let l = step_rows stage r in
          let k = w.many in record {
            table = f.0;
            upto = upto_more (replaying n t log) w.upto more_items next (first_at (count log) log done next more) r;
            many = omega arith;
            left = f.2 ∙ (λ i. lowered (sym many i) f.0 (w.left i)) ∙ zeroed_again w.table f.0 t (omega arith) inside;
          }
