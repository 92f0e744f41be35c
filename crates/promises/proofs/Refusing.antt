-- Demand 1: a refusal is answered exactly when the list has it, call by call.
use mathlib.Core.Path.{◌≡◌, refl, sym, ◌∙◌, ap, subst}
use mathlib.Core.Logic.{◌⊎◌, inl, inr}
use mathlib.Core.Bool.{false}
use mathlib.Core.List.{List, [], ◌∷◌, ◌++◌}
use Prim.Native.Nat.{ℕ, ◌<◌}
use native.Mathlib.Omega.{arith}
use lib.IntN.{ℤ, pos}
use lib.ListN.{length, take, drop}
use Rattle.std.specs.Prelude.{Result, Ok, Err}
use Rattle.follow.specs.Follow.{Answering, Call, Followed, all, some, Outcome, followed}
use Rattle.follow.proofs.Following.{Apart, Did, all_done, some_done, outcome_did, outcome_passes, outcome_stopped}
use Rattle.surface.specs.Rows.{Row, rows, flat}
use Rattle.surface.specs.Table.{◌⇒◌}
use Rattle.corners.specs.Skin.{Skin}
use Rattle.refusal.specs.declared.Refusal.{Refusal}
use Rattle.refusal.specs.declared.Refusal.TheVariants.{RecordFails}
use Rattle.refusal.specs.First.{Refusals, First}
use Rattle.refusal.specs.Told.{Told, done, refused_as, refused, stopped_as}
use Rattle.refusal.proofs.Laws.{verdicts, first_one, refused_one, refused_passes}
use Rattle.refusal.proofs.Refuses.{exactly_of, exactly, not_refused, by_verdict}
use Rattle.refusal.specs.Refuses.{Refuses}
use Rattle.refusal.specs.Outcome.{outcome}
use Rattle.refusal.proofs.Outcome.{tells_refusal, refused_done}
use Rattle.length.proofs.Laws.{limit_told}
use Rattle.length.specs.declared.Order.{Order}
use Rattle.faults.specs.Counts.{corners}
use Rattle.faults.specs.Order.{refusals_at}
use Rattle.thin.specs.Order.{Asked, asked}
use Rattle.thin.specs.Answer as thinnings
use Rattle.thin.specs.Thin.{thin_refusals, Thinned}
use Rattle.thin.proofs.Main as thins
use Rattle.regrow.specs.declared.Halt.{Halt}
use Rattle.regrow.specs.declared.Halt.TheVariants as regrown
use Rattle.regrow.specs.Answer as regrowths
use Rattle.record.specs.Layout.{room_for}
use Rattle.record.specs.Front.{zeroed}
use Rattle.regrow.specs.Outcome.{growing, GrownAs, regrown as regrown_answers}
use Rattle.regrow.proofs.Main as grows
use Rattle.regrow.proofs.Counted.{regrown_apart, failing_other, stops}
use Rattle.replay.specs.Outcome.{replaying, ReplayedAs}
use Rattle.replay.proofs.Main as replays
use Rattle.volume.specs.Report.{ExactReport, unsummed, summed}
use Rattle.sheet.specs.Answer as sheets
use Rattle.form.specs.Form.{SheetOf, form_refusals}
use Rattle.sheet.specs.Outcome.{skin_refusals, ReadSheet, bad_form, bad_skin, read}
use Rattle.form.proofs.One.{one_skin}
use Rattle.sheet.proofs.Promises.{moved}
use Rattle.reply.proofs.Main.{reply_told}
use Rattle.tell.specs.Answer as replies
use Rattle.logsheet.specs.declared.LogCounts.{LogCounts}
use Rattle.logsheet.specs.Answer as logs
use Rattle.logsheet.specs.Outcome as sheeted
use Rattle.heading.specs.declared.Heading.{Heading}
use Rattle.logrecords.specs.declared.Next.{Next}
use Rattle.logrecords.specs.Answer.{told_opened, told_next}
use Rattle.logrecords.specs.Outcome.{open_refusals, OpenedLog, unopened, opened, LineStands, NextRecord, found, ended, other}
use Rattle.logreader.specs.Outcome as asking
use Rattle.logcut.specs.Cut.{CutOf}
use Rattle.logcut.proofs.Ending.{one_cut}
use Rattle.recover.specs.Answer as recoveries
use Rattle.recover.specs.Outcome as recovering
use Rattle.recover.proofs.Main as recovers
use Rattle.job.specs.declared.JobRefusal.{JobRefusal}
use Rattle.job.specs.Answer as jobs
use Rattle.job.specs.Outcome as jobbed
use Rattle.job.proofs.Judging as judging
use Rattle.job.proofs.Numbers as JobNumbers
use Rattle.laid.specs.Laid.{in_front}
use Rattle.flipped.specs.declared.FlipRefusal.{FlipRefusal}
use Rattle.flipped.specs.declared.FlipRefusal.TheVariants.{EdgeMissing, EdgeBlocked, UndoFails}
use Rattle.flipped.specs.declared.FlipHalt.{FlipHalt}
use Rattle.flipped.specs.declared.FlipHalt.TheVariants as flipped
use Rattle.flipped.specs.Number.{number}
use Rattle.flipped.specs.Answer as FlipAnswer
use Rattle.flipped.proofs.Telling.{flipped_apart, stopping_other, stops as flip_stops}
use Rattle.fliplog.specs.Layout.{flip_log}
use Rattle.flip.specs.Refused.{FlipRefused, missing, blocked}
use Rattle.fliplist.specs.Outcome.{flip_refusals, Reached, TableAndLog, flipping, FlippedAs}
use Rattle.fliplist.proofs.Main as lists
use Rattle.undoflips.specs.Outcome.{undo_refusals, undoing, UndoneAs}
use Rattle.undoflips.proofs.Main as undoes
use Rattle.promises.specs.Refusing.{FailsOf, RefusesJob, DemandOne}

thin_refuses : (o : Order) {xs : List ℤ} {t l : List ℕ} {a : Result ℕ Refusal} {t' l' : List ℕ} → Thinned o xs t l a t' l' → Refuses (thin_refusals (asked o) xs t (length l)) (thinnings.told a)
thin_refuses o w = elim (thins.thin_told w) [ inl x ↦ exactly (inl x) | inr x ↦ exactly (inr (x.0, not_refused x.3)) ]

thin_same : (o : Order) {xs : List ℤ} {t l : List ℕ} {a : Result ℕ Refusal} {t' l' : List ℕ} → Thinned o xs t l a t' l' → (r : Refusal) → thinnings.told a ≡ refused r → (t' ≡ t) × (l' ≡ l)
thin_same o {a = Ok k} w r p = absurd (refused_done r (sym p))
thin_same o {a = Err e} w r p = thins.refused_same w

grow_same : {n m : ℕ} {room log : List ℕ} {a : Result ℕ Halt} {room' : List ℕ} → GrownAs n m room log a room' → (r : Refusal) → regrowths.told a ≡ refused r → room' ≡ room
grow_same {a = Ok k} w r p = absurd (refused_done r (sym p))
grow_same {a = Err (regrown.Stopped k)} w r p = absurd (failing_other k r p)
grow_same {a = Err (regrown.Refused e)} w r p = grows.refused_same w

replay_same : {n : ℕ} {t log : List ℕ} {a : Result ℕ Halt} {t' : List ℕ} → ReplayedAs n t log a t' → (r : Refusal) → regrowths.told a ≡ refused r → t' ≡ t
replay_same {a = Ok k} w r p = absurd (refused_done r (sym p))
replay_same {a = Err (regrown.Stopped k)} w r p = absurd (failing_other k r p)
replay_same {a = Err (regrown.Refused e)} w r p = replays.refused_same w

flip_same : {n : ℕ} {t edges l : List ℕ} {a : Result ℕ FlipHalt} {t' l' : List ℕ} → FlippedAs n t edges l a t' l' → (r : Refusal) → FlipAnswer.told a ≡ refused r → (t' ≡ t) × (l' ≡ l)
flip_same {a = Ok k} w r p = absurd (refused_done r (sym p))
flip_same {a = Err (flipped.Stopped q k)} w r p = absurd (stopping_other q k r p)
flip_same {a = Err (flipped.Refused e)} w r p = lists.refused_same w

undo_same : {n : ℕ} {t log : List ℕ} {a : Result ℕ FlipHalt} {t' : List ℕ} → UndoneAs n t log a t' → (r : Refusal) → FlipAnswer.told a ≡ refused r → t' ≡ t
undo_same {a = Ok k} w r p = absurd (refused_done r (sym p))
undo_same {a = Err (flipped.Stopped q k)} w r p = absurd (stopping_other q k r p)
undo_same {a = Err (flipped.Refused e)} w r p = undoes.refused_same w

-- a call that follows items tells a number with how many were done exactly when they stop there for its reason r: where nothing refuses, what they lead to is an
-- outcome, and it is the only one
stops_exactly : {S I R A B : Type 0} (c : Call S I R Refusal A B) {l : Refusals} → ((e : Refusal) → c.Given e → First l (Err e)) → (c.Else → First l (Ok tt)) → Apart c.answers →
    {a : A} {b : B} → Outcome c a b → ((a₂ : A) (b₂ : B) → Outcome c a₂ b₂ → a ≡ a₂) → (tells : A → Told) (r : R) {i : ℕ} → ((k : ℕ) → tells (c.answers.stopped r k) ≡ stopped_as i k) →
    ((k : ℕ) → tells a ≡ stopped_as i k → a ≡ c.answers.stopped r k) → FailsOf i l (λ k s. Followed c (c.answers.stopped r k) s) (λ s. b ≡ c.left s) (tells a)
stops_exactly c {l} given passing apart o one tells r says is = record {
  when = λ k s f x. ap tells (one _ _ (followed (outcome_passes c o (λ e g. refused_passes (first_one verdicts l (given e g) f))) x refl)) ∙ says k;
  only = λ k p. (let z = outcome_stopped c apart {r = r} (rw (is k p) at o) in (passing z.0, z.1, z.2, z.3));
}

-- and it refuses by its list alone: 13, 30, 31 and 32 carry their count
follows_refuse : {R A : Type 0} (w : Answering R Refusal A) (tells : A → Told) → ((e : Refusal) → tells (w.refused e) ≡ refused e) → ((k : ℕ) → tells (w.finished k) ≡ done (pos k ∷ [])) →
    ((r : R) (k : ℕ) (e : Refusal) → ¬ (tells (w.stopped r k) ≡ refused e)) → {l : Refusals} {P : Type 0} (a : A) →
    ((e : Refusal) × First l (Err e) × (a ≡ w.refused e)) ⊎ ((First l (Ok tt) × P) × (k : ℕ) × Did w k a) → Refuses l (tells a)
follows_refuse w tells refuses finishes counts a (inl x) = exactly (inl (x.0, x.1, ap tells x.2 ∙ refuses x.0))
follows_refuse w tells refuses finishes counts a (inr (x, k, all_done e)) = exactly (inr (x.0, not_refused (ap tells e ∙ finishes k)))
follows_refuse w tells refuses finishes counts a (inr (x, k, some_done {r} e)) = exactly (inr (x.0, λ q p. counts r k q (sym (ap tells e) ∙ p)))

-- an edge stops a list by 30 or 31, a record by 32
refused_by : {T : List Row} {x y : ℕ} {r : FlipRefusal} → FlipRefused T x y r → (r ≡ EdgeMissing) ⊎ (r ≡ EdgeBlocked)
refused_by (missing m e) = inl e
refused_by (blocked j e) = inr e

stopped_at : {r q : FlipRefusal} {j k : ℕ} → ◌≡◌ {A = Result ℕ FlipHalt} (Err (flipped.Stopped r j)) (Err (flipped.Stopped q k)) → q ≡ r
stopped_at e = cc

flip_by : (n : ℕ) (t edges l : List ℕ) {r : FlipRefusal} {k : ℕ} {s : Reached} → Followed (flipping n t edges l) (Err (flipped.Stopped r k)) s → (r ≡ EdgeMissing) ⊎ (r ≡ EdgeBlocked)
flip_by n t edges l (all w e) = absurd (flipped_apart.finished_stopped (sym e))
flip_by n t edges l {s = s} (some done (x ⇒ y) rest q w f e) = refused_by (subst (λ k. FlipRefused s.table x y k) (stopped_at e) f)

undo_by : (n : ℕ) (t log : List ℕ) {r : FlipRefusal} {k : ℕ} {T : List Row} → Followed (undoing n t log) (Err (flipped.Stopped r k)) T → r ≡ UndoFails
undo_by n t log (all w e) = absurd (flipped_apart.finished_stopped (sym e))
undo_by n t log (some done i rest q w f e) = sym (stopped_at e) ∙ f.1

flip_fails : {n : ℕ} {t edges l : List ℕ} {a : Result ℕ FlipHalt} {t' l' : List ℕ} → FlippedAs n t edges l a t' l' → (r : FlipRefusal) →
    FailsOf (number r) (flip_refusals n t edges l) (λ k s. Followed (flipping n t edges l) (Err (flipped.Stopped r k)) s) (λ s. (t' ≡ flat s.table) × (l' ≡ in_front flip_log s.log l)) (FlipAnswer.told a)
flip_fails {n} {t} {edges} {l} {a} w r =
    let f = stops_exactly (flipping n t edges l) (λ e g. g) (λ h. h.0) flipped_apart w.outcome (λ a₂ b x. (lists.flipped_one w (record { outcome = x })).0) FlipAnswer.told r (λ k. refl) (flip_stops a r) in
    record { when = f.when; only = λ k p. (let z = f.only k p in (z.0, z.1, z.2, (ap (λ (b : TableAndLog). b.table) z.3, ap (λ (b : TableAndLog). b.log) z.3))) }

undo_fails : {n : ℕ} {t log : List ℕ} {a : Result ℕ FlipHalt} {t' : List ℕ} → UndoneAs n t log a t' → (r : FlipRefusal) →
    FailsOf (number r) (undo_refusals n t log) (λ k T. Followed (undoing n t log) (Err (flipped.Stopped r k)) T) (λ T. t' ≡ flat T) (FlipAnswer.told a)
undo_fails {n} {t} {log} {a} w r =
    stops_exactly (undoing n t log) (λ e g. g) (λ h. h.0) flipped_apart w.outcome (λ a₂ b x. (undoes.undid_one w (record { outcome = x })).0) FlipAnswer.told r (λ k. refl) (flip_stops a r)

-- an exact sum
exact_refuses : {xs : List ℤ} {t : List ℕ} {a : Told} → ExactReport xs t a → Refuses (refusals_at false xs t) a
exact_refuses (unsummed {r} c e) = exactly (inl (r, c.holds, e))
exact_refuses (summed c x e) = exactly (inr (c.holds, not_refused e))

-- a sheet
module _ {b troom troom' : List ℕ} {croom croom' : List ℤ} where
  sheet_form : {a : Result (ℕ × ℕ) Refusal} → ReadSheet b troom troom' croom croom' a → (r : Refusal) → First (form_refusals b) (Err r) → sheets.told a ≡ refused r
  sheet_form (bad_form f e p q) r g = ap sheets.told e ∙ ap refused (refused_one (first_one verdicts (form_refusals b) f g))
  sheet_form (bad_skin f s k e p q) r g = refused_passes (first_one verdicts (form_refusals b) g f)
  sheet_form (read f s k w e p q) r g = refused_passes (first_one verdicts (form_refusals b) g f)

  sheet_skin : {a : Result (ℕ × ℕ) Refusal} → ReadSheet b troom troom' croom croom' a → First (form_refusals b) (Ok tt) → {n m : ℕ} {xs : List ℤ} {t : List ℕ} → SheetOf b n m xs t →
      Refuses (skin_refusals troom croom xs t) (sheets.told a)
  sheet_skin (bad_form f e p q) g s = refused_passes (first_one verdicts (form_refusals b) f g)
  sheet_skin (bad_skin {r = r} f s k e p q) g s' = exactly (inl (r, moved b troom croom (Err r) (one_skin s s') k, ap sheets.told e))
  sheet_skin (read f s k w e p q) g s' = exactly (inr (moved b troom croom (Ok tt) (one_skin s s') k, not_refused (ap sheets.told e)))

  sheet_only : {a : Result (ℕ × ℕ) Refusal} → ReadSheet b troom troom' croom croom' a → (r : Refusal) → sheets.told a ≡ refused r → First (form_refusals b) (Err r)
      ⊎ (First (form_refusals b) (Ok tt) × (n m : ℕ) × (xs : List ℤ) × (t : List ℕ) × SheetOf b n m xs t × First (skin_refusals troom croom xs t) (Err r))
  sheet_only (bad_form f e p q) r g = inl (subst (λ k. First (form_refusals b) (Err k)) (tells_refusal (sym (ap sheets.told e) ∙ g)) f)
  sheet_only (bad_skin {n = n} {m = m} {xs = xs} {t = t} f s k e p q) r g =
      inr (f, n, m, xs, t, s, subst (λ j. First (skin_refusals troom croom xs t) (Err j)) (tells_refusal (sym (ap sheets.told e) ∙ g)) k)
  sheet_only (read f s k w e p q) r g = absurd (not_refused (ap sheets.told e) r g)

  sheet_same : {a : Result (ℕ × ℕ) Refusal} → ReadSheet b troom troom' croom croom' a → (r : Refusal) → sheets.told a ≡ refused r → (troom' ≡ troom) × (croom' ≡ croom)
  sheet_same (bad_form f e p q) r g = (p, q)
  sheet_same (bad_skin f s k e p q) r g = (p, q)
  sheet_same (read f s k w e p q) r g = absurd (not_refused (ap sheets.told e) r g)

-- log sheets
module _ {n m : ℕ} {log text text' : List ℕ} where
  wrote_refuses : {a : Result ℕ Refusal} → sheeted.WroteLogSheet n m log text text' a → Refuses (sheeted.write_refusals n m log (length text)) (replies.told a)
  wrote_refuses (sheeted.unwritten {r = r} f e p) = exactly (inl (r, f, ap replies.told e))
  wrote_refuses (sheeted.wrote f w e p) = exactly (inr (f, not_refused (ap replies.told e)))

  wrote_same : {a : Result ℕ Refusal} → sheeted.WroteLogSheet n m log text text' a → (r : Refusal) → replies.told a ≡ refused r → text' ≡ text
  wrote_same (sheeted.unwritten f e p) r g = p
  wrote_same (sheeted.wrote f w e p) r g = absurd (not_refused (ap replies.told e) r g)

module _ {b room room' : List ℕ} where
  read_refuses : {a : Result LogCounts Refusal} → sheeted.ReadLogSheet b room room' a → Refuses (sheeted.read_refusals b (length room)) (logs.told a)
  read_refuses (sheeted.refused {r = r} f e p) = exactly (inl (r, f, ap logs.told e))
  read_refuses (sheeted.read f s e p) = exactly (inr (f, not_refused (ap logs.told e)))

  read_same : {a : Result LogCounts Refusal} → sheeted.ReadLogSheet b room room' a → (r : Refusal) → logs.told a ≡ refused r → room' ≡ room
  read_same (sheeted.refused f e p) r g = p
  read_same (sheeted.read f s e p) r g = absurd (not_refused (ap logs.told e) r g)

  each_refuses : {a : Result LogCounts Refusal} → asking.EachRecord b room room' a → Refuses (asking.each_refusals b (length room)) (logs.told a)
  each_refuses (asking.unread {r = r} f e p) = exactly (inl (r, f, ap logs.told e))
  each_refuses (asking.each f s e p) = exactly (inr (f, not_refused (ap logs.told e)))

  each_same : {a : Result LogCounts Refusal} → asking.EachRecord b room room' a → (r : Refusal) → logs.told a ≡ refused r → room' ≡ room
  each_same (asking.unread f e p) r g = p
  each_same (asking.each f s e p) r g = absurd (not_refused (ap logs.told e) r g)

-- recovery
recover_same : (o : Order) {xs : List ℤ} {t l b : List ℕ} {a : Result (ℕ × ℕ) Halt} {t' l' : List ℕ} → recovering.RecoveredBy o xs t l b a t' l' → (r : Refusal) → recoveries.told a ≡ refused r → (t' ≡ t) × (l' ≡ l)
recover_same o {a = Ok c} w r p = absurd (refused_done r (sym p))
recover_same o {a = Err (regrown.Stopped k)} w r p = absurd (recovers.failing_other k r p)
recover_same o {a = Err (regrown.Refused e)} w r p = recovers.refused_same w

-- what recovery passes is a skin
recover_skin : {d : Asked} {xs : List ℤ} {t l b : List ℕ} {a : Result (ℕ × ℕ) Halt} {t' l' : List ℕ} → recovering.RecoveredAs d xs t l b a t' l' → First (recovering.recover_refusals d xs t (length l) b) (Ok tt) → Skin (corners xs) (rows t) xs
recover_skin (recovering.refused f er et el) g = refused_passes (first_one verdicts _ f g)
recover_skin (recovering.stopped f s c w er et el) g = s
recover_skin (recovering.done f s c w eb q er et el) g = s

recover_stopped : {d : Asked} {xs : List ℤ} {t l b : List ℕ} (k : ℕ) {t' l' : List ℕ} → recovering.RecoveredAs d xs t l b (Err (regrown.Stopped k)) t' l' → {log : List ℕ} → CutOf b (corners xs) (length (rows t)) log →
    First (recovering.recover_refusals d xs t (length l) b) (Ok tt) × (T : List Row) × Followed (replaying (corners xs) t log) (Err (regrown.Stopped k)) T × (t' ≡ zeroed T t) × (l' ≡ take (room_for k) log ++ drop (room_for k) l)
recover_stopped k (recovering.refused f er et el) cut = recovers.stopped_refused er
recover_stopped k (recovering.done f s c w eb q er et el) cut = recovers.done_stopped (sym er)
recover_stopped {xs = xs} {t} {l} k (recovering.stopped {k = k₁} {reached = T} f s c w er et el) cut =
    let e : k₁ ≡ k = cc in
    let n = (one_cut c cut).numbers in
    (f, T, rw (n, e) at w, et, el ∙ (λ i. take (room_for (e i)) (n i) ++ drop (room_for (e i)) l))

-- a job
job_refuses : {b : List ℕ} {a : Result ℤ JobRefusal} → jobbed.JobAnswered b a → RefusesJob (jobbed.job_refusals b) (jobs.told a)
job_refuses (jobbed.refused {r} f e) = exactly_of judging.verdicts JobNumbers.tells_refusal (inl (r, f, ap jobs.told e))
job_refuses (jobbed.answered es net f s n e) = exactly_of judging.verdicts JobNumbers.tells_refusal (inr (f, λ r p. JobNumbers.refused_done r (sym p ∙ ap jobs.told e)))

open_refuses : {b : List ℕ} {a : Result Heading Refusal} → OpenedLog b a → Refuses (open_refusals b) (told_opened a)
open_refuses (unopened {r = r} f e) = exactly (inl (r, f, ap told_opened e))
open_refuses (opened f s e) = exactly (inr (f, not_refused (ap told_opened e)))

next_refuses : {b : List ℕ} {at : ℕ} {a : Next} → NextRecord b at a → (at < length b → ((ns : List ℕ) → ¬ LineStands b at ns) → told_next a ≡ refused_as 12)
    × ((r : Refusal) → told_next a ≡ refused r → (at < length b) × ((ns : List ℕ) → ¬ LineStands b at ns))
next_refuses (found {ns = ns} s m e) = ((λ h none. absurd (none ns s)), λ r p. absurd (not_refused (ap told_next e) r p))
next_refuses (ended h e) = ((λ k none. absurd (omega (arith, h, k))), λ r p. absurd (not_refused (ap told_next e) r p))
next_refuses (other h none e) = ((λ k n. ap told_next e), λ r p. (h, none))

pub demand_one : DemandOne
demand_one = record {
  thin = λ o w. thin_refuses o w;
  thin_same = λ o w r p. thin_same o w r p;
  grow_back_lem = λ {n} {m} {room} {log} {a} w. follows_refuse regrown_answers regrowths.told (λ e. refl) (λ k. refl) (λ r k e. failing_other k e) a (outcome_did (growing n m room log) w.outcome);
  grow_same = λ w r p. grow_same w r p;
  grow_fails = λ {n} {m} {room} {log} {a} w.
      stops_exactly (growing n m room log) (λ e g. g) (λ h. h.0) regrown_apart w.outcome (λ a₂ b x. (grows.grown_one w (record { outcome = x })).0) regrowths.told RecordFails (λ k. refl) (stops a);
  replay = λ {n} {t} {log} {a} w. follows_refuse regrown_answers regrowths.told (λ e. refl) (λ k. refl) (λ r k e. failing_other k e) a (outcome_did (replaying n t log) w.outcome);
  replay_same = λ w r p. replay_same w r p;
  replay_fails = λ {n} {t} {log} {a} w.
      stops_exactly (replaying n t log) (λ e g. g) (λ h. h.0) regrown_apart w.outcome (λ a₂ b x. (replays.replay_one w (record { outcome = x })).0) regrowths.told RecordFails (λ k. refl) (stops a);
  volume = λ a w. by_verdict _ w.verdict w.checked.holds w.tells;
  change = λ a w. by_verdict _ w.verdict w.first w.tells;
  exact_sum_lem = λ a w. exact_refuses w;
  shift = λ a w. by_verdict _ w.verdict w.first w.tells;
  limit = λ l. elim (limit_told l) [
    | inl x ↦ ((λ u. x.1), λ r p. x.0)
    | inr x ↦ ((λ u. absurd (x.0 u)), λ r p. absurd (not_refused x.3 r p))
  ];
  sheet_form = λ w r f. sheet_form w r f;
  sheet_skin = λ w f s. sheet_skin w f s;
  sheet_only = λ w r p. sheet_only w r p;
  sheet_same = λ w r p. sheet_same w r p;
  reply = λ w. elim (reply_told w) [
    | inl x ↦ ((λ h. let k = x.0 in absurd (omega arith)), λ r p. absurd (not_refused x.1 r p))
    | inr x ↦ ((λ h. x.1), λ r p. (x.0, x.2))
  ];
  write_log = λ w. wrote_refuses w;
  write_log_same = λ w r p. wrote_same w r p;
  read_log = λ w. read_refuses w;
  read_log_same = λ w r p. read_same w r p;
  each_record_lem = λ w. each_refuses w;
  each_record_same = λ w r p. each_same w r p;
  recover = λ o w. exactly (recovers.recover_told w);
  recover_same = λ o w r p. recover_same o w r p;
  recover_fails = λ o {a = a} w cut. (
    (λ k T f x. ap recoveries.told (recovers.recovered_one w (recovering.stopped f (recover_skin w f) cut x refl refl refl)).0),
    λ k p. recover_stopped k (rw (recovers.told_stopped a p) at w) cut,
  );
  job = λ w. job_refuses w;
  flip_list_lem = λ {n} {t} {edges} {l} {a} w. follows_refuse FlipAnswer.flipped FlipAnswer.told (λ e. refl) (λ k. refl) stopping_other a (outcome_did (flipping n t edges l) w.outcome);
  flip_same = λ w r p. flip_same w r p;
  flip_fails = λ w r. flip_fails w r;
  flip_only = λ {n} {t} {edges} {l} w r k p. flip_by n t edges l ((flip_fails w r).only k p).2;
  undo_flips_lem = λ {n} {t} {log} {a} w. follows_refuse FlipAnswer.flipped FlipAnswer.told (λ e. refl) (λ k. refl) stopping_other a (outcome_did (undoing n t log) w.outcome);
  undo_same = λ w r p. undo_same w r p;
  undo_fails = λ w. undo_fails w UndoFails;
  undo_only = λ {n} {t} {log} w r k p. undo_by n t log ((undo_fails w r).only k p).2;
  thin_plain = λ o w. thin_refuses o w;
  thin_plain_same = λ o w r p. thin_same o w r p;
  open_log = λ w. open_refuses w;
  next_record_lem = λ w. next_refuses w;
  reader = λ w. next_refuses w.answer;
}
