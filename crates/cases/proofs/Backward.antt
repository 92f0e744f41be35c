-- Slips of growing back and of replay: what each would leave of O is not allowed by the words of the contract.
use mathlib.Core.Path.{◌≡◌, refl, sym, ◌∙◌, ap}
use mathlib.Core.Logic.{◌≢◌}
use mathlib.Core.List.{List, [], ◌∷◌, ◌++◌}
use Prim.Native.Nat.{ℕ}
use native.Mathlib.Omega.{arith}
use lib.IntN.{pos}
use lib.ListN.{get_or, replicate, drop}
use Rattle.std.specs.Prelude.{Ok, Err, Result}
use Rattle.surface.specs.Rows.{rows, flat, row}
use Rattle.surface.specs.Table.{Used}
use Rattle.follow.specs.Leads.{one_step}
use Rattle.follow.specs.Follow.{some, followed}
use Rattle.surface.specs.Record.{Record, Replayed}
use Rattle.growth.specs.Grow.{put}
use Rattle.growth.proofs.Recorded.{replayed_grown}
use Rattle.record.specs.Layout.{width, first_records}
use Rattle.length.specs.declared.Order.TheVariants.{NoLimit}
use Rattle.refusal.specs.declared.Refusal.TheVariants.{RecordFails}
use Rattle.refusal.specs.Told.{Told}
use Rattle.regrow.specs.declared.Halt.{Halt}
use Rattle.regrow.specs.declared.Halt.TheVariants.{Stopped}
use Rattle.regrow.specs.Answer.{told}
use Rattle.growable.specs.Refusals.{GrowFits}
use Rattle.regrow.specs.Outcome.{GrownAs}
use Rattle.regrow.proofs.Main.{grow_passes, grown_one}
use Rattle.replay.specs.Outcome.{ReplayedAs}
use Rattle.promises.proofs.Back.{restored, replayed}
use Rattle.cases.specs.Skins.{O}
use Rattle.cases.specs.Cases.{O_last, O_log, O_one, O_two}
use Rattle.cases.proofs.Starred.{case_O, k₂, second_step, O_one_table, O_two_table}

told_count : {k m : ℕ} → told (Ok k) ≡ told (Ok m) → k ≡ m
told_count {k} {m} e = let f : pos k ∷ [] ≡ pos m ∷ [] = ap (λ (v : Told). v.values) e in cc

stopped_count : {k m : ℕ} → ◌≡◌ {A = Result ℕ Halt} (Err (Stopped k)) (Err (Stopped m)) → k ≡ m
stopped_count e = cc

-- a replay that writes no zeros behind the stage reached
pub replay_no_zeros : (a : Result ℕ Halt) (r : List ℕ) → get_or r 12 0 ≡ get_or O 12 0 → ¬ ReplayedAs 6 O O_log a r
replay_no_zeros a r e h = let k = ap (λ l. get_or l 12 0) (replayed NoLimit case_O.0 h).1 in let f : ◌≡◌ {A = ℕ} 5 0 = sym e ∙ k in omega arith

-- a count of records that is off by one, forward and back
pub replay_miscounts : (k : ℕ) (r : List ℕ) → k ≢ 2 → ¬ ReplayedAs 6 O O_log (Ok k) r
replay_miscounts k r n h = n (told_count (replayed NoLimit case_O.0 h).0)

pub grow_miscounts : (k : ℕ) (r : List ℕ) → k ≢ 2 → ¬ GrownAs 6 4 O_last O_log (Ok k) r
unfolding rows
grow_miscounts k r n h = n (told_count (restored NoLimit case_O.0 h).0)

-- 13 where every record was done
pub grow_stops_where_done : (k : ℕ) (r : List ℕ) → ¬ GrownAs 6 4 O_last O_log (Err (Stopped k)) r
unfolding rows
grow_stops_where_done k r h = let e : ◌≡◌ {A = ℕ} 13 0 = ap (λ (v : Told). v.number) (restored NoLimit case_O.0 h).0 in omega arith

-- O's log grown back with the later row of each record put in first. The second record leaves (5,3,2) before (5,2,0), and not after it; the
-- first then puts 1 on the rows from 4 forward to 2, and (0,4,1) in at place 3 before (0,1,2) at place 0. So the row at place 3, number 9 on,
-- is (5,3,2), where O has (0,4,1)
abbrev pub later_first : List ℕ
later_first = flat (put 0 (row 0 1 2) (put 3 (row 0 4 1) (row 0 2 3 ∷ row 0 3 4 ∷ row 5 3 2 ∷ row 5 2 1 ∷ row 5 4 3 ∷ row 5 1 4 ∷ [])))

pub grow_later_first : (a : Result ℕ Halt) → ¬ GrownAs 6 4 O_last O_log a later_first
unfolding rows flat put
grow_later_first a h = let f : ◌≡◌ {A = ℕ} 5 0 = ap (λ l. get_or l 9 0) (restored NoLimit case_O.0 h).1 in omega arith

-- O's log with a first record whose removed number is used, and its last rows in a room with nines past them
abbrev bad : Record
bad = record { kept = 0; removed = 2; place_1 = 0; row_1 = row 0 1 2; place_2 = 3; row_2 = row 0 4 2 }

abbrev pub spoiled : List ℕ
spoiled = 0 ∷ 2 ∷ 0 ∷ 0 ∷ 1 ∷ 2 ∷ 3 ∷ 0 ∷ 4 ∷ 2 ∷ drop width O_log

abbrev pub nines : List ℕ
nines = O_two ++ replicate 14 9

used_two : Used (rows O_one) 2
used_two = go second_step
  where
    go : Replayed (rows O_one) (k₂ ∷ []) (rows O_two) → Used (rows O_one) 2
    go (one_step r t) = (0, O_one_table.stage.both r.meets.edge)

-- the second record is grown back, the first is not: one done, and past O-one's rows the nines
stops : GrownAs 6 4 nines spoiled (Err (Stopped 1)) (O_one ++ replicate 8 9)
unfolding rows flat first_records
stops =
    let fits : GrowFits 6 4 spoiled = record { rows = record { least = omega arith; most = omega arith }; corners = record { few = omega arith; many = omega arith }; whole = refl; most = omega arith } in
    record {
      outcome = followed (grow_passes 6 4 nines spoiled fits (omega arith) O_two_table.stage, O_two_table.stage)
          (some (k₂ ∷ []) bad [] {r = RecordFails} refl (replayed_grown O_one_table.stage second_step) ((λ T a. a.unused used_two), refl) refl) refl;
    }

-- 13 that leaves scribbles past the rows reached
pub grow_scribbles : (a : Result ℕ Halt) (r : List ℕ) → get_or r 18 0 ≢ 9 → ¬ GrownAs 6 4 nines spoiled a r
grow_scribbles a r n h = n (ap (λ l. get_or l 18 0) (grown_one h stops).1)

-- 13 that counts the failing record too
pub grow_counts_failing : (r : List ℕ) → ¬ GrownAs 6 4 nines spoiled (Err (Stopped 2)) r
grow_counts_failing r h = let e = stopped_count (grown_one h stops).0 in omega arith
