-- Recovery: the stage handed over is the one that the records kept lead to; an honest log, cut after any byte, ends as the unbroken run; and what is
-- left grows back.
use mathlib.Core.Path.{◌≡◌, refl, sym, ◌∙◌, ap}
use mathlib.Core.List.{List, [], ◌∷◌, ◌++◌, append_assoc, append-nil}
use Prim.Native.Nat.{ℕ, suc, ◌+◌, ◌-◌, ◌≤◌, ◌<◌}
use native.Mathlib.Decide.{dec_lt}
use native.Mathlib.Omega.{arith}
use lib.IntN.{ℤ, pos}
use lib.ListN.{length, length-append, take, drop, take-append-drop}
use lib.Seq.{take_at, drop_at, length-take-le}
use Rattle.std.specs.Prelude.{Ok, Err, Result, Some}
use Rattle.follow.specs.Follow.{all}
use Rattle.follow.proofs.Leading.{leads_one, leads_on, leads_cut}
use Rattle.follow.proofs.Following.{followed_one}
use Rattle.surface.specs.Rows.{Row, rows}
use Rattle.surface.specs.Record.{Record, Replayed}
use Rattle.surface.proofs.Main.{left}
use Rattle.refusal.specs.declared.Refusal.{Refusal}
use Rattle.refusal.specs.Told as answers
use Rattle.refusal.specs.First.{First}
use Rattle.refusal.specs.declared.Refusal.TheVariants.{RecordFails, SheetForm}
use Rattle.refusal.proofs.Laws.{verdicts, given_first, first_one, refused_passes, none_yet, ◌nor◌}
use Rattle.faults.specs.Counts.{corners}
use Rattle.run.specs.Run.{Taken}
use Rattle.run.proofs.Main.{run_one, taken_on, taken_cut, taken_replayed, replayed_stage}
use Rattle.record.specs.Layout.{count, records, log_of, room_for, WholeRecords}
use Rattle.record.specs.Front.{zeroed}
use Rattle.record.proofs.Log.{log_length, log_append, log_first, records_log}
use Rattle.record.proofs.Places.{records_length}
use Rattle.length.specs.declared.Order.{Order}
use Rattle.length.specs.declared.Order.TheVariants.{Limit}
use Rattle.length.specs.declared.Length.{Length}
use Rattle.length.specs.Limit.{limit_of}
use Rattle.least.specs.Limited.{Allowed}
use Rattle.thin.specs.Order.{Asked, asked_by, asked}
use Rattle.thin.specs.Thin.{thin_refusals}
use Rattle.thin.specs.Run.{RunOf, KeptAfter}
use Rattle.thin.proofs.Main.{under_one, thinned_run, thinned_kept, replayed_kept}
use Rattle.regrow.specs.declared.Halt.{Halt}
use Rattle.regrow.specs.Answer as regrowths
use Rattle.regrow.proofs.Counted.{regrown_apart}
use Rattle.replay.specs.Outcome.{replaying, ReplayedAs}
use Rattle.replay.proofs.Main.{replaying_plain}
use Rattle.volume.proofs.Main.{log_volume, log_change}
use Rattle.shift.specs.declared.Shifted.{Shifted}
use Rattle.shift.specs.Answer as shifts
use Rattle.shift.specs.Report.{ShiftReport, Bounded}
use Rattle.shift.proofs.Main.{log_shift_bound}
use Rattle.logform.specs.LogSheet.{most_log_bytes}
use Rattle.logsheet.specs.Outcome.{WroteLogSheet}
use Rattle.logcut.specs.Cut.{newlines, CutOf, cut_refusals}
use Rattle.logcut.proofs.Ending.{one_cut, cut_passes}
use Rattle.logcut.proofs.Cutting.{cut_newlines, none_whole, CutAfter, inside_first, after, sheet_cut}
use Rattle.recover.specs.Answer.{told}
use Rattle.recover.specs.Outcome.{RecoveredBy, refused, stopped, done}
use Rattle.recover.specs.Run.{RecoveryOf, StoppedOf}
use Rattle.recover.proofs.Handing.{all_followed}
use Rattle.recover.proofs.Judging.{cut_decides}
use Rattle.recover.proofs.Main.{recovered_one, recovery_run, stopped_run, told_done, told_stopped}
use Rattle.promises.specs.Recovery.{RecoveredWith, StoppedWith, CutShort, AfterSteps, Recovery}
use Rattle.promises.proofs.Back.{Led, led_replayed_to, led_restored_from, led_restored, led_replayed, as_done}
use Rattle.promises.proofs.Logged.{front_of, rest_of, whole_log}
use Rattle.promises.proofs.Figures.{within}
use Rattle.promises.proofs.Mailing.{wrote_told, written_sheet, written_can, written_size, can_write, part_writable}

-- ---- what is told, and what it comes to

pub as_recovery : {o : Order} {xs : List ℤ} {t l b : List ℕ} {k j : ℕ} {t' l' : List ℕ} → RecoveredWith o xs t l b k j t' l' → RecoveryOf (asked o) xs t l b k j t' l'
as_recovery w = recovery_run (rw (told_done w.answer w.tells) at w.recovered)

pub as_stopped : {o : Order} {xs : List ℤ} {t l b : List ℕ} {k : ℕ} {t' l' : List ℕ} → StoppedWith o xs t l b k t' l' → StoppedOf xs t l b k t' l'
as_stopped w = stopped_run (rw (told_stopped w.answer w.tells) at w.recovered)

-- the numbers of a log are those of its records
logged : (log : List ℕ) → WholeRecords log → log ≡ log_of (records log)
logged log w = sym (log_first (count log) log (omega arith))

module _ {a : Asked} {xs : List ℤ} {t l b : List ℕ} {k j : ℕ} {t' l' : List ℕ} (w : RecoveryOf a xs t l b k j t' l') where
  -- all records of the log it leaves
  abbrev pub whole : List Record
  whole = records w.kept ++ w.added

  pub whole_many : length (records w.kept ++ w.added) ≡ j
  whole_many = let a = w.many in let c = w.in_all in length-append (records w.kept) w.added ∙ omega (arith, records_length w.kept)

  pub whole_led : Led (corners xs) t (records w.kept ++ w.added) w.last t'
  whole_led = record { whole = w.whole; first = w.skin.stage; leads = leads_on w.led (taken_replayed w.run.taken); table = w.table }

  pub whole_logged : l' ≡ log_of (records w.kept ++ w.added) ++ drop (room_for j) l
  whole_logged =
      w.logged
      ∙ sym (append_assoc w.kept (log_of w.added) (drop (room_for j) l))
      ∙ ap (λ q. q ++ drop (room_for j) l) (ap (λ q. q ++ log_of w.added) (logged w.kept w.cut.sheet.whole) ∙ sym (log_append (records w.kept) w.added))

  whole_stands : take (room_for j) l' ≡ log_of (records w.kept ++ w.added)
  whole_stands =
      ap (λ (i : ℕ). take (room_for i) l') (sym whole_many)
      ∙ front_of (records w.kept ++ w.added) (drop (room_for j) l) whole_logged (records w.kept ++ w.added) [] (sym (append-nil (records w.kept ++ w.added)))

  -- the part added stands behind the records kept
  added_stands : drop (room_for k) l' ≡ log_of w.added ++ drop (room_for j) l
  added_stands =
      let c = w.cut.sheet.whole in
      let m = w.many in
      ap (drop (room_for k)) w.logged ∙ drop_at w.kept (log_of w.added ++ drop (room_for j) l) (room_for k) (omega arith)

  hands : {a : Result ℕ Halt} {r : List ℕ} → ReplayedAs (corners xs) t w.kept a r → (regrowths.told a ≡ answers.done (pos k ∷ [])) × (r ≡ zeroed w.handed t)
  hands g =
      let o = led_replayed_to whole_led (records w.kept) w.added refl w.led (logged w.kept w.cut.sheet.whole) g in
      (o.0 ∙ ap (λ i. answers.done (pos i ∷ [])) (records_length w.kept ∙ sym w.many), o.1)

  keeps : (p q : List Record) → w.added ≡ p ++ q → (T₁ : List Row) × Taken (Allowed w.bound xs) w.handed p T₁ × KeptAfter (corners xs) (rows t) (records w.kept ++ p) T₁
  keeps p q e = let c = taken_cut p (rw e at w.run.taken) in (c.0, c.1, replayed_kept w.skin.stage (leads_on w.led (taken_replayed c.1)))

added_shifts : (d : Length) {L : ℕ} → limit_of d ≡ Some L → {xs : List ℤ} {t l b : List ℕ} {k j : ℕ} {t' l' : List ℕ} (w : RecoveryOf (asked (Limit d)) xs t l b k j t' l') (p q : List Record) → w.added ≡ p ++ q →
    (v : ℕ) → v < corners xs → (a : Result Shifted Refusal) → ShiftReport xs (take (room_for (length p)) (drop (room_for k) l')) v (shifts.told a) → Bounded L a
added_shifts d {L} read {xs} {l = l} {j = j} w p q e v h a r =
    log_shift_bound L (replayed_stage w.skin.stage w.led) w.skin.corners w.skin.in_range (within xs (sym (ap asked_by read) ∙ w.under)) p q (rw e at w.run.taken) h a
    (rw (front_of w.added (drop (room_for j) l) (added_stands w) p q e) at r)

-- on 13
module _ {xs : List ℤ} {t l b : List ℕ} {k : ℕ} {t' l' : List ℕ} (w : StoppedOf xs t l b k t' l') where
  pub front_led : Led (corners xs) t w.front w.reached t'
  front_led = record { whole = w.whole; first = w.skin.stage; leads = w.led; table = w.table }

  front_stands : take (room_for k) l' ≡ log_of w.front
  front_stands =
      let e : take (room_for k) w.log ≡ log_of w.front =
      ap (λ (i : ℕ). take (room_for i) w.log) (sym w.many) ∙ front_of (records w.log) [] (logged w.log w.cut.sheet.whole ∙ sym (append-nil (log_of (records w.log)))) w.front (w.next ∷ w.rest) w.parts in
      let m = w.many in
      ap (take (room_for k)) (w.logged ∙ ap (λ q. q ++ drop (room_for k) l) e) ∙ take_at (log_of w.front) (drop (room_for k) l) (room_for k) (log_length w.front ∙ (omega arith))

-- ---- a cut inside the first line

-- without a newline it is 12, whatever its size
no_lines : (b : List ℕ) (n m : ℕ) → newlines b ≡ 0 → First (cut_refusals b n m) (Err SheetForm)
unfolding cut_refusals
no_lines b n m h = go (dec_lt most_log_bytes (length b))
  where
    go : Dec (most_log_bytes < length b) → First (cut_refusals b n m) (Err SheetForm)
    go (yes l) = given_first verdicts none_yet l
    go (no l) = given_first verdicts (l nor none_yet) (none_whole h)

first_cut : (o : Order) {xs : List ℤ} {t l b : List ℕ} {a : Result (ℕ × ℕ) Halt} {t' l' : List ℕ} → newlines b ≡ 0 → First (thin_refusals (asked o) xs t (length l)) (Ok tt) → RecoveredBy o xs t l b a t' l' → told a ≡ answers.refused_as 12
first_cut o {xs} {t} {l} {b} h f w =
    ap told (recovered_one w (refused {e = SheetForm} (cut_decides (asked o) xs t l b f (Err SheetForm) (no_lines b (corners xs) (length (rows t)) h)) refl refl refl)).0

-- ---- a log that leads on from the skin, cut

-- i whole lines of records survived, and they hold its first records
record Survived (xs : List ℤ) (t log b : List ℕ) (i : ℕ) : Type 0 where
  cut : CutOf b (corners xs) (length (rows t)) (take (room_for i) log)
  size : length b ≤ most_log_bytes
  many : i ≤ count log
  few : count (take (room_for i) log) ≤ corners xs - 4
  are : records (take (room_for i) log) ≡ take i (records log)

module _ {xs : List ℤ} {t log b : List ℕ} (c : CutShort xs t log b) where
  wrote : WroteLogSheet (corners xs) (length (rows t)) log c.text c.text' (Ok c.bytes)
  wrote = rw (wrote_told c.written c.writes) at c.wrote

  -- what survived is no longer than what was written
  short : length b ≤ most_log_bytes
  short =
      let w = take c.bytes c.text' in
      let e = ap length (sym (take-append-drop c.survived w)) ∙ length-append (take c.survived w) (drop c.survived w) in
      omega (arith, written_size wrote, ap length c.is)

  -- the first i records of the log
  first_records_are : (i : ℕ) → i ≤ count log → records (take (room_for i) log) ≡ take i (records log)
  first_records_are i h =
      let front = take i (records log) in
      let many : length front ≡ i = length-take-le i (records log) (omega (arith, records_length log)) in
      let whole = (written_can wrote).whole in
      let e = ap (λ (j : ℕ). take (room_for j) log) (sym many) ∙ front_of (records log) [] (logged log whole ∙ sym (append-nil (log_of (records log)))) front (drop i (records log)) (sym (take-append-drop i (records log))) in
      ap records e ∙ records_log front

  survived : {i : ℕ} → newlines b ≡ suc i → Survived xs t log b i
  survived {i} h = go (rw (sym c.is) at (sheet_cut (written_sheet wrote) c.survived))
    where
      go : CutAfter (corners xs) (length (rows t)) log b → Survived xs t log b i
      go (inside_first z) = absurd (omega arith)
      go (after i₁ few cut) =
          let w = written_can wrote in
          let whole = w.whole in
          let long = length-take-le (room_for i₁) log (omega arith) in
          let same : i₁ ≡ i = omega (arith, cut_newlines cut) in
          let r : Survived xs t log b i₁ = record { cut = cut; size = short; many = few; few = omega (arith, w.counts.fewer); are = first_records_are i₁ few } in
          rw same at r

  module _ {T : List Row} (led : Replayed (rows t) (records log) T) {i : ℕ} (h : newlines b ≡ suc i) where
    s : Survived xs t log b i
    s = survived h

    -- the stage that they lead to
    to : (T₁ : List Row) × Replayed (rows t) (take i (records log)) T₁
    to = let c = leads_cut (take i (records log)) (rw (sym (take-append-drop i (records log))) at led) in (c.0, c.1)

    kept_are : {kept : List ℕ} → CutOf b (corners xs) (length (rows t)) kept → records kept ≡ take i (records log)
    kept_are cut = ap records (one_cut cut s.cut).numbers ∙ s.are

    -- recovery is done, under any order that thinning takes
    pub taken_up : (o : Order) {l t' l' : List ℕ} {a : Result (ℕ × ℕ) Halt} → First (thin_refusals (asked o) xs t (length l)) (Ok tt) → RecoveredBy o xs t l b a t' l' → (j : ℕ) × (told a ≡ answers.done (pos i ∷ pos j ∷ []))
    taken_up o {l} p (refused f er et el) = refused_passes (first_one verdicts _ f (cut_decides (asked o) xs t l b p (Ok tt) (cut_passes s.cut s.size s.few)))
    taken_up o p (stopped {log = kept} f z c w er et el) =
        let led : Replayed (rows t) (records kept) to.0 = rw (kept_are c) to.1 in
        let g = followed_one (replaying (corners xs) t kept) (replaying_plain (corners xs) t kept) w (all led refl) in
        absurd (regrown_apart.finished_stopped {r = RecordFails} (sym g.0))
    taken_up o p (done {kept = kept} {k = k₁} {added = added} f z c w eb q er et el) =
        let m = (all_followed (corners xs) t kept w).1 in
        let e : k₁ ≡ i = omega (arith, cut_newlines c) in
        (k₁ + length added, ap told er ∙ ap (λ n. answers.done (pos n ∷ pos (k₁ + length added) ∷ [])) e)

    -- and the stage handed over is the one that they lead to
    pub first_ones : {d : Asked} {l : List ℕ} {k j : ℕ} {t' l' : List ℕ} (w : RecoveryOf d xs t l b k j t' l') → (records w.kept ≡ take i (records log)) × Replayed (rows t) (take i (records log)) w.handed
    first_ones w = let e = kept_are w.cut in (e, rw (sym e) w.led)

-- ---- of thinning's log

module _ {d : Asked} {xs : List ℤ} {t l : List ℕ} {k : ℕ} {t' l' : List ℕ} (u : RunOf d xs t l k t' l') {b : List ℕ} (c : CutShort xs t (take (room_for k) l') b) where
  run_records : records (take (room_for k) l') ≡ u.log
  run_records = ap records (whole_log u) ∙ records_log u.log

  run_leads : Replayed (rows t) (records (take (room_for k) l')) u.last
  run_leads = rw run_records (taken_replayed u.run.taken)

  module _ {i : ℕ} (h : newlines b ≡ suc i) where
    pub honest_done : (o₂ : Order) {l₂ t₂ l₂' : List ℕ} {a : Result (ℕ × ℕ) Halt} → First (thin_refusals (asked o₂) xs t (length l₂)) (Ok tt) → RecoveredBy o₂ xs t l₂ b a t₂ l₂' →
        (j : ℕ) × (told a ≡ answers.done (pos i ∷ pos j ∷ []))
    honest_done o₂ p w = taken_up c run_leads h o₂ p w

    -- the stage handed over is the one after as many steps
    pub honest_stage : {d₂ : Asked} {l₂ : List ℕ} {k₂ j₂ : ℕ} {t₂ l₂' : List ℕ} (w : RecoveryOf d₂ xs t l₂ b k₂ j₂ t₂ l₂') → AfterSteps u i (records w.kept) w.handed
    honest_stage w =
        let f = first_ones c run_leads h w in
        let e : records w.kept ≡ take i u.log = f.0 ∙ ap (take i) run_records in
        let parts = sym (take-append-drop i u.log) in
        let g = thinned_kept u (take i u.log) (drop i u.log) parts in
        let z : g.0 ≡ w.handed = leads_one (λ T T₁ T₂ k r q. left r q) (taken_replayed g.1) (rw e at w.led) in
        let m = (survived c h).many in
        let most : i ≤ length u.log = omega (arith, ap length run_records, records_length (take (room_for k) l')) in
        record { rest = drop i u.log; parts = rw e parts; many = rw e (length-take-le i u.log most); taken = rw (sym z, e) g.1 }

-- an order whose run begins with the records kept goes on as the unbroken run did
pub unbroken : {d : Asked} {xs : List ℤ} {t r : List ℕ} {n : ℕ} {t₁ r₁ : List ℕ} (u : RunOf d xs t r n t₁ r₁) {l b : List ℕ} {k j : ℕ} {t' l' : List ℕ} (w : RecoveryOf d xs t l b k j t' l') (rest : List Record) →
    u.log ≡ records w.kept ++ rest → (u.log ≡ records w.kept ++ w.added) × (u.last ≡ w.last)
unbroken u w rest h =
    let c = thinned_kept u (records w.kept) rest h in
    let e = under_one (sym u.under ∙ w.under) in
    let z : c.0 ≡ w.handed = leads_one (λ T T₁ T₂ k r q. left r q) (taken_replayed c.1) w.led in
    run_one u.run (record { taken = taken_on (rw z at c.1) (rw (sym e) at w.run.taken); ended = rw (sym e) at w.run.ended })

pub in_room : {d : Asked} {xs : List ℤ} {t r : List ℕ} {n : ℕ} {t₁ r₁ : List ℕ} (u : RunOf d xs t r n t₁ r₁) {l b : List ℕ} {k j : ℕ} {t' l' : List ℕ} (w : RecoveryOf d xs t l b k j t' l') (rest : List Record) →
    u.log ≡ records w.kept ++ rest → (j ≡ n) × (t' ≡ t₁) × (l' ≡ take (room_for n) r₁ ++ drop (room_for n) l)
in_room {t = t} u {l} w rest h =
    let e = unbroken u w rest h in
    let m = sym (whole_many w) ∙ ap length (sym e.0) ∙ sym u.count in
    (m, w.table ∙ ap (λ T. zeroed T t) (sym e.1) ∙ sym u.table, whole_logged w ∙ (λ i. (ap log_of (sym e.0) ∙ sym (whole_log u)) i ++ drop (room_for (m i)) l))

-- the order that wrote the log
as_written : {d : Asked} {xs : List ℤ} {t r : List ℕ} {n : ℕ} {t₁ r₁ : List ℕ} (u : RunOf d xs t r n t₁ r₁) {b : List ℕ} → CutShort xs t (take (room_for n) r₁) b →
    {l : List ℕ} {k j : ℕ} {t' l' : List ℕ} → RecoveryOf d xs t l b k j t' l' → (j ≡ n) × (t' ≡ t₁) × (l' ≡ take (room_for n) r₁ ++ drop (room_for n) l)
as_written u c w = let a = honest_stage u c (cut_newlines w.cut) w in in_room u w a.rest a.parts

pub recovery : Recovery
recovery = record {
  recovers = λ o w. as_recovery w;
  stops = λ o w. as_stopped w;
  hands_over = λ o w g. hands w g;
  stops_there = λ o w g. let s = as_stopped w in led_replayed (front_led s) s.many (front_stands s) g;
  counts_lines = λ o w. let r = as_recovery w in cut_newlines r.cut ∙ ap suc (sym r.many);
  first_line_cut = λ o h f w. first_cut o h f w;
  takes_up = λ c led h o f w. taken_up c led h o f w;
  first_ones = λ c led h o w. first_ones c led h w;
  honest = λ o u c h o₂ f w. honest_done u c h o₂ f w;
  survives = λ o u c h o₂ w. honest_stage u c h w;
  same_order = λ o {l = l} {n = n} d c w.
      let u = thinned_run (as_done d) in
      let r = as_written u c (as_recovery w) in
      (r.0, r.1, r.2 ∙ (λ i. whole_log u i ++ drop (room_for (u.count i)) l) ∙ sym u.logged);
  any_room = λ o d c w. as_written (thinned_run (as_done d)) c (as_recovery w);
  begun_alike = λ o u w rest h. in_room u w rest h;
  stages_kept = λ s h. replayed_kept s.stage h;
  keeps = λ o w p q e. keeps w p q e;
  shifts_within = λ d read w p q e v h a r. added_shifts d read w p q e v h a r;
  volumes_near = λ s h a r. log_volume s h a r;
  changes_near = λ s h i a r. log_change s h i a r;
  restores = λ o w g. let r = as_recovery w in led_restored (whole_led r) (whole_many r) (whole_stands r) g;
  restores_from = λ o w p q e h g. led_restored_from (whole_led w) p q e h (whole_many w) (rest_of (whole_stands w) p q e) g;
  stops_restores = λ o w g. let s = as_stopped w in led_restored (front_led s) s.many (front_stands s) g;
  replays = λ o w g. let r = as_recovery w in led_replayed (whole_led r) (whole_many r) (whole_stands r) g;
  writes = λ o w h g. let r = as_recovery w in can_write (rw (whole_stands r) (part_writable (whole_led r) _ r.skin.stage (whole_led r).leads (omega arith))) h g;
}
