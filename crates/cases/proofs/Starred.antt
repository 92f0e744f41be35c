-- The starred cases hold: for each the listed outcome is allowed, and thinning has no second one.
use mathlib.Core.Path.{◌≡◌, refl, ◌∙◌, ap}
use mathlib.Core.Bool.{Bool, true}
use mathlib.Core.List.Memᴰ
use mathlib.Core.List.{List, [], ◌∷◌, ◌++◌}
use Prim.Native.Nat.{ℕ, ◌*◌, ◌≤◌}
use native.Mathlib.Decide.{ℕ_discrete}
use native.Mathlib.Omega.{arith}
use lib.Dec.{T as So, leb, leb→le, le→leb}
use lib.Ieee.{of_bits}
use lib.IntN.{ℤ, pos, neg_ℤ}
use lib.ListN.{length, take, replicate}
use Rattle.std.specs.Prelude.{Err, Ok, Result, Some, None}
use Rattle.surface.specs.Rows.{Row, row, rows, flat}
use Rattle.surface.specs.Table.{edges}
use Rattle.surface.specs.InnerStageTable.{StageTable}
use Rattle.surface.specs.Contract.{contract, renumber, replace, stays?, holds?}
use Rattle.surface.specs.Record.{at, later, leaving, Record, Replayed}
use Rattle.corners.specs.Skin.{InRange}
use Rattle.refusal.specs.declared.Refusal.{Refusal}
use Rattle.refusal.specs.First.{First}
use Rattle.refusal.proofs.Laws.{verdicts, given_first, none_yet, ◌nor◌}
use Rattle.refusal.specs.declared.Refusal.TheVariants.{EdgeTwice}
use Rattle.faults.specs.Counts.{CountsFitAt, corners}
use Rattle.faults.specs.Words.{Twice, again, later as after}
use Rattle.faults.specs.Order.{refusals_after_counts, row_refusals}
use Rattle.faults.proofs.Opposites.{in_or_out, below_or_not, twice_or_apart}
use Rattle.run.specs.Run.{Run}
use Rattle.distance.specs.Corners.{squared_distance_lem}
use Rattle.figure.specs.Sum.{minor, determinant, sixfold}
use Rattle.wide.specs.Rounding.{figure, change}
use Rattle.volume.specs.Answer.{told}
use Rattle.volume.specs.Report.{VolumeReport, ChangeReport}
use Rattle.volume.proofs.Main.{volume_one, change_one, volume_there, change_there}
use Rattle.length.specs.declared.Order.{Order}
use Rattle.length.specs.declared.Order.TheVariants.{NoLimit}
use Rattle.length.specs.Limit.{capped, reading, limit_of}
use Rattle.least.specs.Limited.{Allowed}
use Rattle.run.proofs.Main.{taken_replayed}
use Rattle.record.specs.Layout.{width, log_of, first_records, records, WholeRecords, room_for}
use Rattle.record.specs.Front.{zeroed}
use Rattle.thin.specs.Thin.{thin_refusals, Thinned, refused, done}
use Rattle.thin.proofs.Main.{thinned_one, thin_passes}
use Rattle.thin.proofs.Judging.{under_usable}
use Rattle.thin.specs.Answer as thinnings
use Rattle.regrow.specs.declared.Halt.{Halt}
use Rattle.regrow.specs.declared.Halt.TheVariants as regrown
use Rattle.regrow.specs.Answer as regrowths
use Rattle.follow.specs.Follow.{all, followed}
use Rattle.replay.specs.Outcome.{ReplayFits, ReplayedAs}
use Rattle.replay.proofs.Main.{replay_passes, replay_one}
use Rattle.surface.proofs.Testing.{every}
use Rattle.computed.proofs.Passing.{row_fits, rows_below, passes_stage}
use Rattle.computed.proofs.Running.{Passing, least, Steps, stays_at, goes_on, steps_taken, run_sound, run_same}
use Rattle.cases.specs.Skins.{T, T_corners, T_turned, O, O_corners, M, M_corners}
use Rattle.cases.specs.Cases.{thins, weighs, changes, replays, CaseHolds, cm_141, cm_142, lent, O_last, O_log, O_one, O_two, AllStarred, all_none, all_more}
use Rattle.cases.proofs.Skinned.{T_skin, O_skin, M_skin}

-- an outcome that is allowed, and the only one
abbrev Thins : Order → List ℤ → List ℕ → List ℕ → Result ℕ Refusal → List ℕ → List ℕ → Type 0
Thins o xs t l a t' l' = Thinned o xs t l a t' l' × ((b : Result ℕ Refusal) (u m : List ℕ) → Thinned o xs t l b u m → (b ≡ a) × (u ≡ t') × (m ≡ l'))

abbrev Weighs : List ℤ → List ℕ → ℤ → ℤ → Type 0
Weighs xs t s f = (sixfold xs (rows t) ≡ s) × VolumeReport xs t (told (Ok f)) × ((b : Result ℤ Refusal) → VolumeReport xs t (told b) → b ≡ Ok f)

abbrev Changes : List ℤ → List ℕ → List ℕ → ℤ → Type 0
Changes xs t u f = ChangeReport xs t u (told (Ok f)) × ((b : Result ℤ Refusal) → ChangeReport xs t u (told b) → b ≡ Ok f)

abbrev Replays : ℕ → List ℕ → List ℕ → ℕ → List ℕ → Type 0
Replays n t l k u = ReplayedAs n t l (Ok k) u × ((b : Result ℕ Halt) (v : List ℕ) → ReplayedAs n t l b v → (b ≡ Ok k) × (v ≡ u))

only : (o : Order) {xs : List ℤ} {t l : List ℕ} {a : Result ℕ Refusal} {t' l' : List ℕ} → Thinned o xs t l a t' l' → Thins o xs t l a t' l'
only o h = (h, λ b u m k. thinned_one k h)

-- so it holds as told
thins_told : (o : Order) {xs : List ℤ} {t l : List ℕ} (a : Result ℕ Refusal) {t' l' : List ℕ} → Thins o xs t l a t' l' → CaseHolds (thins o xs t l (thinnings.told a) t' l')
thins_told o a h = record { answer = a; tells = refl; allowed = h.0; no_other = λ b c k. let e = h.1 b c.0 c.1 k in (ap thinnings.told e.0, λ i. (e.1 i, e.2 i)) }

weighs_told : {xs : List ℤ} {t : List ℕ} {s : ℤ} (f : ℤ) → Weighs xs t s f → CaseHolds (weighs xs t s (told (Ok f)))
weighs_told f h = (h.0, record { answer = Ok f; tells = refl; allowed = h.1; no_other = λ b c k. (ap told (h.2 b k), refl) })

changes_told : {xs : List ℤ} {t u : List ℕ} (f : ℤ) → Changes xs t u f → CaseHolds (changes xs t u (told (Ok f)))
changes_told f h = record { answer = Ok f; tells = refl; allowed = h.0; no_other = λ b c k. (ap told (h.1 b k), refl) }

replays_told : {n : ℕ} {t l : List ℕ} (k : ℕ) {u : List ℕ} → Replays n t l k u → CaseHolds (replays n t l (regrowths.told (Ok k)) u)
replays_told k h = record { answer = Ok k; tells = refl; allowed = h.0; no_other = λ b v w. let e = h.1 b v w in (ap regrowths.told e.0, e.1) }

-- limits as computed tests
abbrev any : ℕ → ℕ → Bool
any a b = true

abbrev pub within : ℕ → List ℤ → ℕ → ℕ → Bool
within L xs a b = leb (squared_distance_lem xs a b) (L * L)

free : (xs : List ℤ) {S S' : List Row} {l : List Record} → Run (Passing any) S l S' → Run (Allowed None xs) S l S'
free xs r = run_same (λ a b k. tt) (λ a b k. tt) r

pub limited : (L : ℕ) (xs : List ℤ) {S S' : List Row} {l : List Record} → Run (Passing (within L xs)) S l S' → Run (Allowed (Some L) xs) S l S'
limited L xs r = run_same (λ a b k. leb→le (squared_distance_lem xs a b) (L * L) k) (λ a b k. le→leb (squared_distance_lem xs a b) (L * L) k) r

-- O's two records
abbrev k₁ : Record
k₁ = record { kept = 0; removed = 1; place_1 = 0; row_1 = row 0 1 2; place_2 = 3; row_2 = row 0 4 1 }

abbrev pub k₂ : Record
k₂ = record { kept = 0; removed = 2; place_1 = 0; row_1 = row 0 2 3; place_2 = 2; row_2 = row 5 2 0 }

abbrev O_end : List Row
O_end = row 0 3 4 ∷ row 5 3 0 ∷ row 5 4 3 ∷ row 5 0 4 ∷ []

pub case_T : Thins NoLimit T_corners T [] (Ok 0) T []
unfolding edges rows flat log_of
case_T = only NoLimit (done {b = None} {log = []} {last = rows T} (thin_passes T (under_usable refl) refl T_skin (omega arith)) T_skin refl (free T_corners (run_sound any (stays_at refl) tt)) refl refl refl)

pub case_M : Thins NoLimit M_corners M (lent (room_for 3)) (Ok 0) M (lent (room_for 3))
unfolding edges rows flat log_of
case_M = only NoLimit (done {b = None} {log = []} {last = rows M} (thin_passes M (under_usable refl) refl M_skin (omega arith)) M_skin refl (free M_corners (run_sound any (stays_at refl) tt)) refl refl refl)

O_steps : (p : ℕ → ℕ → Bool) → So (least p 0 1 (rows O)) → So (least p 0 2 (contract 0 1 (rows O))) → Steps p (rows O) (k₁ ∷ k₂ ∷ []) O_end
unfolding edges rows contract renumber replace stays? holds? ℕ_discrete leaving later
O_steps p h₁ h₂ = goes_on h₁ refl (goes_on h₂ refl (stays_at refl))

pub case_O : Thins NoLimit O_corners O (lent (room_for 2)) (Ok 2) O_last O_log
unfolding edges rows flat log_of contract renumber replace stays? holds? ℕ_discrete leaving later
case_O = only NoLimit (done {b = None} {log = k₁ ∷ k₂ ∷ []} {last = O_end} (thin_passes O (under_usable refl) refl O_skin (omega arith)) O_skin refl (free O_corners (run_sound any (O_steps any tt tt) tt)) refl refl refl)

pub case_141 : Thins cm_141 O_corners O (lent (room_for 2)) (Ok 0) O (lent (room_for 2))
unfolding edges rows flat log_of limit_of reading capped of_bits squared_distance_lem
case_141 = only cm_141 (done {b = Some 141} {log = []} {last = rows O} (thin_passes O (under_usable {b = Some 141} refl) refl O_skin (omega arith)) O_skin refl (limited 141 O_corners (run_sound (within 141 O_corners) (stays_at refl) tt)) refl refl refl)

pub case_142 : Thins cm_142 O_corners O (lent (room_for 2)) (Ok 2) O_last O_log
unfolding edges rows flat log_of contract renumber replace stays? holds? ℕ_discrete leaving later limit_of reading capped of_bits squared_distance_lem
case_142 = only cm_142 (done {b = Some 142} {log = k₁ ∷ k₂ ∷ []} {last = O_end} (thin_passes O (under_usable {b = Some 142} refl) refl O_skin (omega arith)) O_skin refl (limited 142 O_corners (run_sound (within 142 O_corners) (O_steps (within 142 O_corners) tt tt) tt)) refl refl refl)

-- T with a row turned over: the directed edge 0 to 2 is there twice
turned_fit : So (every (row_fits 4) (rows T_turned))
unfolding rows
turned_fit = tt

turned_twice : Twice (edges (rows T_turned))
unfolding edges rows
turned_twice = after (after (again (Memᴰ.head refl)))

turned_counts : CountsFitAt T_corners T_turned
unfolding rows
turned_counts = record {
  table = record { threes = refl; count = record { least = omega arith; most = omega arith } };
  coordinates = record { threes = refl; count = record { few = omega arith; many = omega arith } };
}

turned_first : First (thin_refusals (Ok None) T_corners T_turned 0) (Err EdgeTwice)
unfolding thin_refusals refusals_after_counts row_refusals
turned_first =
    given_first verdicts
    (under_usable refl
    nor (λ k. k turned_counts)
    nor (λ k. omega arith)
    nor in_or_out T_skin.in_range
    nor below_or_not (λ v p q f. (rows_below 4 (rows T_turned) turned_fit f).0)
    nor twice_or_apart (λ v p q f. (rows_below 4 (rows T_turned) turned_fit f).1)
    nor none_yet)
    turned_twice

case_turned : Thins NoLimit T_corners T_turned [] (Err EdgeTwice) T_turned []
case_turned = only NoLimit (refused {e = EdgeTwice} turned_first refl refl refl)

-- the stages of T and O as tables
T_table : StageTable 4 T
unfolding rows
T_table = record { count = refl; stage = T_skin.stage }

O_table : StageTable 6 O
unfolding rows
O_table = record { count = refl; stage = O_skin.stage }

pub O_one_table : StageTable 6 O_one
unfolding rows edges
O_one_table = record { count = refl; stage = passes_stage 6 (rows O_one) tt }

pub O_two_table : StageTable 6 O_two
unfolding rows edges
O_two_table = record { count = refl; stage = passes_stage 6 (rows O_two) tt }

-- the figure of the sum is the only answer
weighed : {n : ℕ} {xs : List ℤ} (t : List ℕ) {f : ℤ} → length xs ≡ 3 * n → InRange xs → StageTable n t → figure (sixfold xs (rows t)) ≡ f →
    VolumeReport xs t (told (Ok f)) × ((b : Result ℤ Refusal) → VolumeReport xs t (told b) → b ≡ Ok f)
weighed t e r s h = let v = volume_there e r s in (rw h at v, λ b p. volume_one b _ p v ∙ ap Ok h)

changed : {n : ℕ} {xs : List ℤ} (t u : List ℕ) {f : ℤ} → length xs ≡ 3 * n → InRange xs → StageTable n t → StageTable n u → change (sixfold xs (rows t)) (sixfold xs (rows u)) ≡ f →
    ChangeReport xs t u (told (Ok f)) × ((b : Result ℤ Refusal) → ChangeReport xs t u (told b) → b ≡ Ok f)
changed t u e r s z h = let v = change_there e r s z in (rw h at v, λ b p. change_one b _ p v ∙ ap Ok h)

weighs_T : Weighs T_corners T (neg_ℤ (pos 27000000)) (neg_ℤ (pos 5))
unfolding rows sixfold determinant minor figure
weighs_T = let w = weighed T T_skin.corners T_skin.in_range T_table refl in (refl, w.0, w.1)

pub weighs_O : Weighs O_corners O (pos 8000000) (pos 1)
unfolding rows sixfold determinant minor figure
weighs_O = let w = weighed O O_skin.corners O_skin.in_range O_table refl in (refl, w.0, w.1)

pub weighs_one : Weighs O_corners O_one (pos 4000000) (pos 1)
unfolding rows sixfold determinant minor figure
weighs_one = let w = weighed O_one O_skin.corners O_skin.in_range O_one_table refl in (refl, w.0, w.1)

weighs_two : Weighs O_corners O_two (pos 2000000) (pos 0)
unfolding rows sixfold determinant minor figure
weighs_two = let w = weighed O_two O_skin.corners O_skin.in_range O_two_table refl in (refl, w.0, w.1)

changes_one : Changes O_corners O O_one (neg_ℤ (pos 1))
unfolding rows sixfold determinant minor figure
changes_one = changed O O_one O_skin.corners O_skin.in_range O_table O_one_table refl

changes_two : Changes O_corners O_one O_two (pos 0)
unfolding rows sixfold determinant minor figure
changes_two = changed O_one O_two O_skin.corners O_skin.in_range O_one_table O_two_table refl

changes_both : Changes O_corners O O_two (neg_ℤ (pos 1))
unfolding rows sixfold determinant minor figure
changes_both = changed O O_two O_skin.corners O_skin.in_range O_table O_two_table refl

-- O's stages
first_step : Replayed (rows O) (k₁ ∷ []) (rows O_one)
unfolding edges rows contract renumber replace stays? holds? ℕ_discrete leaving later
first_step = taken_replayed (steps_taken any (goes_on {k = k₁} tt refl (stays_at refl)))

pub second_step : Replayed (rows O_one) (k₂ ∷ []) (rows O_two)
unfolding edges rows contract renumber replace stays? holds? ℕ_discrete leaving later
second_step = taken_replayed (steps_taken any (goes_on {k = k₂} tt refl (stays_at refl)))

both_steps : Replayed (rows O) (k₁ ∷ k₂ ∷ []) (rows O_two)
unfolding edges rows contract renumber replace stays? holds? ℕ_discrete leaving later
both_steps = taken_replayed (steps_taken any (goes_on {k = k₁} tt refl (goes_on {k = k₂} tt refl (stays_at refl))))

-- a log that leads from O to T is replayed whole, and nothing else is allowed
replayed_only : (l : List ℕ) (k : ℕ) (u : List ℕ) {T : List Row} → ReplayFits 6 O l → Replayed (rows O) (records l) T → k ≡ length (records l) → u ≡ zeroed T O →
    Replays 6 O l k u
replayed_only l k u {T} fits r e f =
    let h : ReplayedAs 6 O l (Ok k) u = record { outcome = followed (replay_passes 6 O l fits O_skin.stage, O_skin.stage) (all r (ap Ok e)) f } in
    (h, λ b v w. replay_one w h)

O_fits : (l : List ℕ) → WholeRecords l → length l ≤ room_for 2 → ReplayFits 6 O l
unfolding rows
O_fits l h m = record {
  counts = record { table = record { threes = refl; count = record { least = omega arith; most = omega arith } }; count = record { few = omega arith; many = omega arith } };
  whole = h;
  least = omega arith;
}

replays_one : Replays 6 O (take width O_log) 1 (O_one ++ replicate 6 0)
unfolding rows flat first_records
replays_one = replayed_only (take width O_log) 1 (O_one ++ replicate 6 0) (O_fits (take width O_log) refl (omega arith)) first_step refl refl

replays_two : Replays 6 O O_log 2 O_last
unfolding rows flat first_records
replays_two = replayed_only O_log 2 O_last (O_fits O_log refl (omega arith)) both_steps refl refl

-- every starred case holds
pub all_starred : AllStarred
all_starred =
    all_more (thins_told NoLimit (Ok 0) case_T)
    (all_more (thins_told NoLimit (Err EdgeTwice) case_turned)
    (all_more (thins_told NoLimit (Ok 2) case_O)
    (all_more (thins_told cm_141 (Ok 0) case_141)
    (all_more (thins_told cm_142 (Ok 2) case_142)
    (all_more (thins_told NoLimit (Ok 0) case_M)
    (all_more (replays_told 1 replays_one)
    (all_more (replays_told 2 replays_two)
    (all_more (weighs_told (neg_ℤ (pos 5)) weighs_T)
    (all_more (weighs_told (pos 1) weighs_O)
    (all_more (weighs_told (pos 1) weighs_one)
    (all_more (weighs_told (pos 0) weighs_two)
    (all_more (changes_told (neg_ℤ (pos 1)) changes_one)
    (all_more (changes_told (pos 0) changes_two)
    (all_more (changes_told (neg_ℤ (pos 1)) changes_both)
    all_none))))))))))))))
