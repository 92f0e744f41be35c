-- Slips of recovery: what each would answer of O's log cut after its first record, or leave of any, is not allowed by the words of the contract.
use mathlib.Core.Path.{◌≡◌, refl, sym, ◌∙◌, ap, subst}
use mathlib.Core.Logic.{◌≢◌}
use mathlib.Core.List.{List, [], ◌∷◌, ◌++◌}
use Prim.Native.Nat.{ℕ, suc, ◌-◌, ◌≤◌}
use native.Mathlib.Omega.{arith}
use lib.IntN.{ℤ}
use lib.ListN.{length, length-append, take, drop}
use lib.Seq.{take_at, drop_at, length-take-le}
use Rattle.std.specs.Prelude.{Ok, Err, None}
use Rattle.follow.specs.Follow.{Followed, all}
use Rattle.follow.proofs.Following.{followed_one}
use Rattle.surface.specs.Lists.{◌∈◌}
use Rattle.surface.specs.Rows.{Row, rows}
use Rattle.surface.specs.Record.{Record, Replayed}
use Rattle.refusal.specs.declared.Refusal.{Refusal}
use Rattle.refusal.specs.declared.Refusal.TheVariants.{RecordFails}
use Rattle.refusal.specs.First.{First}
use Rattle.refusal.proofs.Laws.{verdicts, first_one, refused_passes}
use Rattle.run.specs.Run.{Run}
use Rattle.run.proofs.Main.{taken_allowed, taken_cut, taken_replayed}
use Rattle.faults.specs.Counts.{corners}
use Rattle.record.specs.Layout.{width, count, records, record_at, first_records, log_of, room_for}
use Rattle.record.proofs.Log.{records_log}
use Rattle.record.proofs.Places.{records_length}
use Rattle.length.specs.declared.Order.{Order}
use Rattle.length.specs.declared.Order.TheVariants.{NoLimit}
use Rattle.least.specs.Limited.{Allowed}
use Rattle.thin.specs.Order.{Asked, asked}
use Rattle.thin.specs.Run.{RunOf}
use Rattle.thin.specs.Thin.{thin_refusals}
use Rattle.thin.proofs.Main.{thin_passes, thinned_run, under_one}
use Rattle.thin.proofs.Judging.{under_usable}
use Rattle.regrow.specs.declared.Halt.TheVariants.{Stopped, Refused}
use Rattle.regrow.proofs.Counted.{regrown_apart}
use Rattle.replay.specs.Outcome.{replaying}
use Rattle.replay.proofs.Main.{replaying_plain}
use Rattle.logform.specs.LogSheet.{most_log_bytes, log_text}
use Rattle.logcut.specs.Cut.{newlines, CutOf, NoCut}
use Rattle.logcut.proofs.Ending.{one_cut, cut_passes}
use Rattle.recover.specs.Outcome.{RecoveredBy, refused, stopped, done}
use Rattle.recover.specs.Run.{RecoveryOf}
use Rattle.recover.proofs.Judging.{cut_decides}
use Rattle.recover.proofs.Main.{recovery_run, stopped_run, refused_same, done_refused, done_stopped, stopped_refused}
use Rattle.promises.proofs.Logged.{whole_log}
use Rattle.promises.proofs.Recovering.{in_room}
use Rattle.cases.specs.Skins.{O, O_corners}
use Rattle.cases.specs.Cases.{lent, O_last, O_log}
use Rattle.cases.proofs.Skinned.{O_skin}
use Rattle.cases.proofs.Starred.{case_O}
use Rattle.cases.proofs.Mailed.{O_short, one_digit}

-- the first record of O's log, and bytes that hold its line and the beginning of another: K, a tab, 0
abbrev O_first : List ℕ
O_first = take width O_log

pub cut_there : CutOf (log_text 6 8 O_first ++ (75 ∷ 9 ∷ 48 ∷ [])) 6 8 O_first
unfolding newlines
cut_there = record {
  whole = log_text 6 8 O_first;
  tail = 75 ∷ 9 ∷ 48 ∷ [];
  bytes = refl;
  unfinished = refl;
  sheet = record { text = refl; whole = refl; counts_short = (one_digit 6 (omega arith), (one_digit 8 (omega arith), tt)); short = let s = O_short in (s.0, (s.1.0, (s.1.1.0, (s.1.1.1.0, (s.1.1.1.1.0, (s.1.1.1.1.1.0, (s.1.1.1.1.1.1.0, (s.1.1.1.1.1.1.1.0, (s.1.1.1.1.1.1.1.1.0, (s.1.1.1.1.1.1.1.1.1.0, tt)))))))))) };
}

-- O's own run, and its first record
O_run : (T : List ℕ) × RunOf (asked NoLimit) O_corners O (lent (room_for 2)) 2 T O_log
O_run = (_, thinned_run case_O.0)

O_second : Record
O_second = record_at (drop width O_log) 0

O_begins : O_run.1.log ≡ records O_first ++ (O_second ∷ [])
unfolding O_run O_second first_records
O_begins = sym (records_log O_run.1.log) ∙ ap records (sym (whole_log O_run.1))

-- O after its first record, and the second that leads on
O_rest : (T : List Row) × Replayed (rows O) (records O_first) T × Run (Allowed None O_corners) T (O_second ∷ []) O_run.1.last
O_rest =
    let u = O_run.1 in
    let c = taken_cut (records O_first) (rw O_begins at u.run.taken) in
    let e = under_one (sym u.under) in
    let r : Run (Allowed u.b O_corners) c.0 (O_second ∷ []) u.last = record { taken = c.2; ended = u.run.ended } in
    (c.0, taken_replayed c.1, subst (λ d. Run (Allowed d O_corners) c.0 (O_second ∷ []) u.last) e r)

-- what is right: one record kept, two in all, and the table and log of the unbroken run; nothing else is allowed (`recovered_one`)
pub O_recovered : {b : List ℕ} → CutOf b 6 8 O_first → length b ≤ most_log_bytes → RecoveredBy NoLimit O_corners O (lent (room_for 2)) b (Ok (1, 2)) O_last O_log
unfolding rows log_of O_run O_second first_records
O_recovered {b} cut size =
    done {kept = O_first} {bound = None} {added = O_second ∷ []}
    (cut_decides (asked NoLimit) O_corners O (lent (room_for 2)) b (thin_passes O (under_usable refl) refl O_skin (omega arith)) (Ok tt) (cut_passes cut size (omega arith)))
    O_skin
    cut
    (all O_rest.1 refl)
    refl
    O_rest.2
    refl
    O_run.1.table
    refl

-- any bytes whose whole lines are O's first line and first record
module _ {b : List ℕ} (cut : CutOf b 6 8 O_first) {u m : List ℕ} where
  kept_one : {d : Asked} {k j : ℕ} → RecoveryOf d O_corners O (lent (room_for 2)) b k j u m → k ≡ 1
  kept_one w = w.many ∙ ap count (one_cut w.cut cut).numbers

  -- one that throws the sheet away and thins anew: its table and log may be right, but no record is kept
  pub thins_anew : (o : Order) {j : ℕ} → ¬ RecoveredBy o O_corners O (lent (room_for 2)) b (Ok (0, j)) u m
  thins_anew o h = omega (arith, kept_one (recovery_run h))

  -- one that takes the unfinished line for whole
  pub tail_taken : (o : Order) {j : ℕ} → ¬ RecoveredBy o O_corners O (lent (room_for 2)) b (Ok (2, j)) u m
  tail_taken o h = omega (arith, kept_one (recovery_run h))

  -- one that hands over the stage and does not go on
  pub does_not_go_on : ¬ RecoveredBy NoLimit O_corners O (lent (room_for 2)) b (Ok (1, 1)) u m
  does_not_go_on h =
      let w = recovery_run h in
      let e = (one_cut w.cut cut).numbers in
      omega (arith, (in_room O_run.1 w (O_second ∷ []) (O_begins ∙ ap (λ q. records q ++ (O_second ∷ [])) (sym e))).0)

-- ---- for any skin, order, room and bytes

module _ (o : Order) {xs : List ℤ} {t l b t' l' : List ℕ} where
  -- one that refuses every sheet that was cut: one of the skin's counts, within its size and the records that its corners allow, is not refused where
  -- thinning would not be
  pub refuses_every_cut : {log : List ℕ} → CutOf b (corners xs) (length (rows t)) log → First (thin_refusals (asked o) xs t (length l)) (Ok tt) → length b ≤ most_log_bytes → count log ≤ corners xs - 4 →
      (r : Refusal) → ¬ RecoveredBy o xs t l b (Err (Refused r)) t' l'
  refuses_every_cut cut p size few r (refused f er et el) = refused_passes (first_one verdicts _ f (cut_decides (asked o) xs t l b p (Ok tt) (cut_passes cut size few)))
  refuses_every_cut cut p size few r (stopped f s c w er et el) = stopped_refused (sym er)
  refuses_every_cut cut p size few r (done f s c w eb q er et el) = done_refused (sym er)

  -- one that stops at records that replay, as where it asks of them that they were least or within the limit lent
  pub stops_at_a_good_record : {log : List ℕ} {T : List Row} → CutOf b (corners xs) (length (rows t)) log → Replayed (rows t) (records log) T → {k : ℕ} → ¬ RecoveredBy o xs t l b (Err (Stopped k)) t' l'
  stops_at_a_good_record cut led (refused f er et el) = stopped_refused er
  stops_at_a_good_record cut led (done f s c w eb q er et el) = done_stopped (sym er)
  stops_at_a_good_record {T = T} cut led (stopped {log = log} f s c w er et el) =
      let on : Replayed (rows t) (records log) T = rw (ap records (one_cut c cut).numbers) led in
      let g = followed_one (replaying (corners xs) t log) (replaying_plain (corners xs) t log) w (all on refl) in
      regrown_apart.finished_stopped {r = RecordFails} (sym g.0)

  -- one that drops a record that does not replay, or a whole line in bad form, as it drops the tail, and thins on
  pub bad_record_dropped : {n m k i j : ℕ} {log : List ℕ} {T : List Row} → CutOf b n m log → Followed (replaying (corners xs) t log) (Err (Stopped k)) T → ¬ RecoveredBy o xs t l b (Ok (i, j)) t' l'
  bad_record_dropped cut f (refused g er et el) = done_refused er
  bad_record_dropped cut f (stopped g s c w er et el) = done_stopped er
  bad_record_dropped cut f (done {kept = kept} g s c w eb q er et el) =
      let z = followed_one (replaying (corners xs) t kept) (replaying_plain (corners xs) t kept) (rw (one_cut cut c).numbers at f) w in
      regrown_apart.finished_stopped {r = RecordFails} (sym z.0)

  pub bad_line_dropped : {i j : ℕ} → NoCut b → ¬ RecoveredBy o xs t l b (Ok (i, j)) t' l'
  bad_line_dropped none h = let w = recovery_run h in none (corners xs) (length (rows t)) w.kept w.cut

  -- one that takes the log of a skin with other counts, to its end or to a record that fails
  pub another_skins_log : {n m k j : ℕ} {log : List ℕ} → CutOf b n m log → ¬ ((n ≡ corners xs) × (m ≡ length (rows t))) → ¬ RecoveredBy o xs t l b (Ok (k, j)) t' l'
  another_skins_log c apart h = let e = one_cut c (recovery_run h).cut in apart (e.corners, e.rows)

  pub another_skins_records : {n m k : ℕ} {log : List ℕ} → CutOf b n m log → ¬ ((n ≡ corners xs) × (m ≡ length (rows t))) → ¬ RecoveredBy o xs t l b (Err (Stopped k)) t' l'
  another_skins_records c apart h = let e = one_cut c (stopped_run h).cut in apart (e.corners, e.rows)

  -- one that does not leave the records kept in front of the log, as where it thins anew under another order
  pub kept_not_logged : {n m k j : ℕ} {log : List ℕ} → CutOf b n m log → take (length log) l' ≢ log → ¬ RecoveredBy o xs t l b (Ok (k, j)) t' l'
  kept_not_logged {j = j} {log = log} c apart h =
      let w = recovery_run h in
      let e = (one_cut c w.cut).numbers in
      apart (ap (take (length log)) w.logged ∙ take_at w.kept (log_of w.added ++ drop (room_for j) l) (length log) (ap length (sym e)) ∙ sym e)

  -- one that adds a step of an edge that is longer than the limit lent
  pub longer_than_lent : {k j : ℕ} (h : RecoveredBy o xs t l b (Ok (k, j)) t' l') (e : Record) → e ∈ (recovery_run h).added → ¬ Allowed (recovery_run h).bound xs e.kept e.removed → ⊥
  longer_than_lent h e there long = long (taken_allowed (recovery_run h).run.taken there).0

  -- one that leaves more in the log on 13 than the records done
  pub fails_and_scribbles : {k : ℕ} → drop (room_for k) l' ≢ drop (room_for k) l → ¬ RecoveredBy o xs t l b (Err (Stopped k)) t' l'
  fails_and_scribbles {k} apart h =
      let w = stopped_run h in
      let n = w.many in
      let c = w.cut.sheet.whole in
      let z = ap length w.parts ∙ length-append w.front (w.next ∷ w.rest) in
      let many : room_for k ≤ length w.log = omega (arith, records_length w.log) in
      apart (ap (drop (room_for k)) w.logged ∙ drop_at (take (room_for k) w.log) (drop (room_for k) l) (room_for k) (length-take-le (room_for k) w.log many))

  -- one that counts the record that fails
  pub fails_counts_failing : {n m k : ℕ} {log : List ℕ} {T : List Row} → CutOf b n m log → Followed (replaying (corners xs) t log) (Err (Stopped k)) T → ¬ RecoveredBy o xs t l b (Err (Stopped (suc k))) t' l'
  fails_counts_failing c f (refused g er et el) = stopped_refused er
  fails_counts_failing c f (done g s d w eb q er et el) = done_stopped (sym er)
  fails_counts_failing {k = k} {log = log} c f (stopped {log = log₂} {k = k₂} g s d w er et el) =
      let e = (one_cut c d).numbers in
      let z = followed_one (replaying (corners xs) t log₂) (replaying_plain (corners xs) t log₂) (rw e at f) w in
      let n = regrown_apart.stopped_one {r = RecordFails} {q = RecordFails} z.0 in
      let m : suc k ≡ k₂ = cc in
      omega (arith, n, m)

  -- one that writes in table or log and then refuses
  pub writes_and_refuses : {r : Refusal} → t' ≢ t → ¬ RecoveredBy o xs t l b (Err (Refused r)) t' l'
  writes_and_refuses apart h = apart (refused_same h).0

  pub logs_and_refuses : {r : Refusal} → l' ≢ l → ¬ RecoveredBy o xs t l b (Err (Refused r)) t' l'
  logs_and_refuses apart h = apart (refused_same h).1
