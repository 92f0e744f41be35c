-- Nothing is left to choose where the calls cross: no second struct, and no second number in what was lent.
use mathlib.Core.Path.{◌≡◌, refl, sym, ◌∙◌, ap}
use mathlib.Core.List.{List, ◌++◌}
use Prim.Native.Nat.{ℕ, suc, ◌-◌}
use native.Mathlib.Omega.{arith}
use lib.IntN.{ℤ, pos, nat_abs}
use lib.Ieee.{Float}
use lib.ListN.{length, length-map, get_or, take, drop, replicate}
use lib.Seq.{take-append_seam}
use denote.Ref.{Bor}
use Rattle.refusal.specs.Told.{Told}
use Rattle.thin.proofs.Main.{thinned_one}
use Rattle.thin.specs.Answer as ThinAnswer
use Rattle.regrow.proofs.Main.{grown_one}
use Rattle.regrow.specs.Answer as RegrowAnswer
use Rattle.replay.proofs.Main.{replay_one}
use Rattle.volume.proofs.Main.{volume_one, change_one}
use Rattle.volume.proofs.Sums as sums
use Rattle.volume.specs.Answer as VolumeAnswer
use Rattle.shift.proofs.Main.{shift_one}
use Rattle.shift.specs.Answer as ShiftAnswer
use Rattle.length.specs.Answer as LengthAnswer
use Rattle.sheet.proofs.Promises.{one_outcome}
use Rattle.sheet.specs.Answer as SheetAnswer
use Rattle.job.proofs.Answering.{one_answer}
use Rattle.job.specs.Answer as JobAnswer
use Rattle.flipped.specs.Answer as FlipAnswer
use Rattle.fliplist.proofs.Main.{flipped_one}
use Rattle.undoflips.proofs.Main.{undid_one}
use Rattle.reply.proofs.Main.{replied_one}
use Rattle.tell.specs.Answer as ReplyAnswer
use Rattle.logsheet.proofs.Main.{read_log_one, wrote_log_one}
use Rattle.logsheet.specs.Answer as LogAnswer
use Rattle.logrecords.proofs.Main.{opened_one, next_one}
use Rattle.logreader.proofs.Main.{each_one}
use Rattle.logrecords.specs.Answer.{told_opened, told_next}
use Rattle.recover.proofs.Main.{recovered_one}
use Rattle.recover.specs.Answer as RecoverAnswer
use Rattle.lines.proofs.Plain.{pos_same}
use Rattle.ring.proofs.Rule.{trial_one}
use Rattle.std.specs.Prelude.{Option, Some, None}
use Rattle.link.proofs.Laws.{chosen_one}
use Rattle.catchup.proofs.One.{caught_up_one}
use Rattle.across.specs.declared.Counted.{Counted}
use Rattle.across.specs.declared.Measure.{Measure}
use Rattle.across.specs.declared.Exact.{Exact}
use Rattle.across.specs.declared.StandIn.{StandIn}
use Rattle.across.specs.declared.Centimetres.{Centimetres}
use Rattle.across.specs.declared.Counts.{Counts}
use Rattle.across.specs.declared.Written.{Written}
use Rattle.across.specs.declared.LogRead.{LogRead}
use Rattle.across.specs.declared.Recovery.{Recovery}
use Rattle.across.specs.declared.LogOpened.{LogOpened}
use Rattle.across.specs.declared.Asked.{Asked}
use Rattle.across.specs.declared.Stored.{Stored}
use Rattle.bridge.specs.declared.Part.{Part}
use Rattle.across.specs.Says.{Says}
use Rattle.across.specs.Fields.{of_counted, of_measure, of_exact, of_stand_in, of_centimetres, of_counts, of_written, of_log_read, of_recovery, of_log_opened, of_asked}
use Rattle.bridge.specs.Calls.{ThinShown, GrowShown, ReplayShown, VolumeShown, ChangeShown, ExactShown, ShiftShown, LimitShown, SheetShown, JobShown, FlipShown, UndoShown, ReplyShown, WriteLogShown, ReadLogShown, EachShown, RecoverShown, OpenShown, NextShown}
use Rattle.across.specs.Fields.{Stores}
use Rattle.bridge.specs.Lent.{TrialShown, Which, the_first, the_second, RingShown, Places, nothing, of_second, of_first, PartShown}
use Rattle.across.proofs.Saying.{said}

-- ---- what is said

-- numbers that cross tell the answer: two of as many values that are said alike are alike
pub fields_tell : {a b s : Told} → Says a s → Says b s → length a.values ≡ length b.values → (a.number ≡ b.number) × (a.values ≡ b.values)
fields_tell {a} {b} {s} p q e = (sym p.status ∙ q.status, sym (front p) ∙ ap (λ n. take n s.values) e ∙ front q)
  where
    front : {c : Told} → Says c s → take (length c.values) s.values ≡ c.values
    front {c} h = ap (take (length c.values)) h.values ∙ take-append_seam c.values (replicate (length s.values - length c.values) (pos 0))

-- and an answer is said in one way, by as many numbers
said_once : {a s z : Told} → Says a s → Says a z → length s.values ≡ length z.values → (s.number ≡ z.number) × (s.values ≡ z.values)
said_once {a} p q e = (p.status ∙ sym q.status, p.values ∙ ap (λ n. a.values ++ replicate (n - length a.values) (pos 0)) e ∙ sym q.values)

-- the value at place k
abbrev value : ℕ → List ℤ → ℤ
value k l = get_or l k (pos 0)

module _ {a : Told} where
  counted_once : {r q : Counted} → Says a (of_counted r) → Says a (of_counted q) → r ≡ q
  counted_once h k = let e = said_once h k refl in let n = ap (λ l. nat_abs (value 0 l)) e.1 in λ i. record { status = e.0 i; records = n i }

  measure_once : {r q : Measure} → Says a (of_measure r) → Says a (of_measure q) → r ≡ q
  measure_once h k = let e = said_once h k refl in let n = ap (value 0) e.1 in λ i. record { status = e.0 i; figure = n i }

  exact_once : {r q : Exact} → Says a (of_exact r) → Says a (of_exact q) → r ≡ q
  exact_once h k =
      let e = said_once h k refl in
      let n = ap (value 0) e.1 in
      let m = ap (λ l. nat_abs (value 1 l)) e.1 in
      λ i. record { status = e.0 i; whole = n i; rest = m i }

  stand_in_once : {r q : StandIn} → Says a (of_stand_in r) → Says a (of_stand_in q) → r ≡ q
  stand_in_once h k =
      let e = said_once h k refl in
      let c = ap (λ l. nat_abs (value 0 l)) e.1 in
      let n = ap (λ l. nat_abs (value 1 l)) e.1 in
      let d = ap (λ l. nat_abs (value 2 l)) e.1 in
      λ i. record { status = e.0 i; corner = c i; count = n i; squared = d i }

  centimetres_once : {r q : Centimetres} → Says a (of_centimetres r) → Says a (of_centimetres q) → r ≡ q
  centimetres_once h k = let e = said_once h k refl in let n = ap (λ l. nat_abs (value 0 l)) e.1 in λ i. record { status = e.0 i; whole = n i }

  counts_once : {r q : Counts} → Says a (of_counts r) → Says a (of_counts q) → r ≡ q
  counts_once h k =
      let e = said_once h k refl in
      let n = ap (λ l. nat_abs (value 0 l)) e.1 in
      let m = ap (λ l. nat_abs (value 1 l)) e.1 in
      λ i. record { status = e.0 i; corners = n i; rows = m i }

  written_once : {r q : Written} → Says a (of_written r) → Says a (of_written q) → r ≡ q
  written_once h k = let e = said_once h k refl in let n = ap (λ l. nat_abs (value 0 l)) e.1 in λ i. record { status = e.0 i; bytes = n i }

  log_read_once : {r q : LogRead} → Says a (of_log_read r) → Says a (of_log_read q) → r ≡ q
  log_read_once h k =
      let e = said_once h k refl in
      let n = ap (λ l. nat_abs (value 0 l)) e.1 in
      let m = ap (λ l. nat_abs (value 1 l)) e.1 in
      let d = ap (λ l. nat_abs (value 2 l)) e.1 in
      λ i. record { status = e.0 i; corners = n i; rows = m i; records = d i }

  recovery_once : {r q : Recovery} → Says a (of_recovery r) → Says a (of_recovery q) → r ≡ q
  recovery_once h k =
      let e = said_once h k refl in
      let n = ap (λ l. nat_abs (value 0 l)) e.1 in
      let m = ap (λ l. nat_abs (value 1 l)) e.1 in
      λ i. record { status = e.0 i; kept = n i; records = m i }

  log_opened_once : {r q : LogOpened} → Says a (of_log_opened r) → Says a (of_log_opened q) → r ≡ q
  log_opened_once h k =
      let e = said_once h k refl in
      let n = ap (λ l. nat_abs (value 0 l)) e.1 in
      let m = ap (λ l. nat_abs (value 1 l)) e.1 in
      let d = ap (λ l. nat_abs (value 2 l)) e.1 in
      λ i. record { status = e.0 i; corners = n i; rows = m i; place = d i }

  -- two that have as many numbers
  asked_once : {r q : Asked} → length r.numbers ≡ length q.numbers → Says a (of_asked r) → Says a (of_asked q) → r ≡ q
  asked_once {r} {q} same h k =
      let many = length-map r.numbers pos ∙ same ∙ sym (length-map q.numbers pos) in
      let e = said_once h k (ap (λ n. suc (suc n)) many) in
      let f = ap (λ l. nat_abs (value 0 l)) e.1 in
      let p = ap (λ l. nat_abs (value 1 l)) e.1 in
      let n = pos_same r.numbers q.numbers (ap (drop 2) e.1) in
      λ i. record { status = e.0 i; found = f i; after = p i; numbers = n i }

-- ---- no second outcome

pub thin_crosses : (u : ℕ) (v : Float) {xs : List ℤ} {t l : List ℕ} {r q : Counted} {t₁ t₂ l₁ l₂ : List ℕ} →
    ThinShown u v xs t l r t₁ l₁ → ThinShown u v xs t l q t₂ l₂ → (r ≡ q) × (t₁ ≡ t₂) × (l₁ ≡ l₂)
thin_crosses u v p q = let e = thinned_one p.gives q.gives in (counted_once p.says (said ThinAnswer.told e.0 q.says), e.1, e.2)

pub grow_crosses : {n m : ℕ} {room log : List ℕ} {r q : Counted} {room₁ room₂ : List ℕ} →
    GrowShown n m room log r room₁ → GrowShown n m room log q room₂ → (r ≡ q) × (room₁ ≡ room₂)
grow_crosses p q = let e = grown_one p.gives q.gives in (counted_once p.says (said RegrowAnswer.told e.0 q.says), e.1)

pub replay_crosses : {n : ℕ} {t log : List ℕ} {r q : Counted} {t₁ t₂ : List ℕ} →
    ReplayShown n t log r t₁ → ReplayShown n t log q t₂ → (r ≡ q) × (t₁ ≡ t₂)
replay_crosses p q = let e = replay_one p.gives q.gives in (counted_once p.says (said RegrowAnswer.told e.0 q.says), e.1)

pub volume_crosses : {xs : List ℤ} {t : List ℕ} {r q : Measure} → VolumeShown xs t r → VolumeShown xs t q → r ≡ q
volume_crosses p q = measure_once p.says (said VolumeAnswer.told (volume_one p.answer q.answer p.gives q.gives) q.says)

pub change_crosses : {xs : List ℤ} {t s : List ℕ} {r q : Measure} → ChangeShown xs t s r → ChangeShown xs t s q → r ≡ q
change_crosses p q = measure_once p.says (said VolumeAnswer.told (change_one p.answer q.answer p.gives q.gives) q.says)

pub exact_crosses : {xs : List ℤ} {t : List ℕ} {r q : Exact} → ExactShown xs t r → ExactShown xs t q → r ≡ q
exact_crosses p q = exact_once p.says (said VolumeAnswer.told_exact (sums.exact_sum_one p.answer q.answer p.gives q.gives) q.says)

pub shift_crosses : {xs : List ℤ} {log : List ℕ} {v : ℕ} {r q : StandIn} → ShiftShown xs log v r → ShiftShown xs log v q → r ≡ q
shift_crosses p q = stand_in_once p.says (said ShiftAnswer.told (shift_one p.answer q.answer p.gives q.gives) q.says)

pub limit_crosses : (u : ℕ) (v : Float) {r q : Centimetres} → LimitShown u v r → LimitShown u v q → r ≡ q
limit_crosses u v p q = centimetres_once p.says (said LengthAnswer.told (p.gives ∙ sym q.gives) q.says)

pub sheet_crosses : {b t t₁ t₂ : List ℕ} {xs xs₁ xs₂ : List ℤ} {r q : Counts} →
    SheetShown b t t₁ xs xs₁ r → SheetShown b t t₂ xs xs₂ q → (r ≡ q) × (t₁ ≡ t₂) × (xs₁ ≡ xs₂)
sheet_crosses {b = b} {t = t} {xs = xs} p q = let e = one_outcome b t xs p.gives q.gives in (counts_once p.says (said SheetAnswer.told e.answer q.says), e.table, e.corners)

pub reply_crosses : {b text : List ℕ} {r q : Written} {text₁ text₂ : List ℕ} → ReplyShown b text r text₁ → ReplyShown b text q text₂ → (r ≡ q) × (text₁ ≡ text₂)
reply_crosses p q = let e = replied_one p.gives q.gives in (written_once p.says (said ReplyAnswer.told e.0 q.says), e.1)

pub write_log_crosses : {n m : ℕ} {log text : List ℕ} {r q : Written} {text₁ text₂ : List ℕ} →
    WriteLogShown n m log text r text₁ → WriteLogShown n m log text q text₂ → (r ≡ q) × (text₁ ≡ text₂)
write_log_crosses p q = let e = wrote_log_one p.gives q.gives in (written_once p.says (said ReplyAnswer.told e.0 q.says), e.1)

pub read_log_crosses : {b room room₁ room₂ : List ℕ} {r q : LogRead} → ReadLogShown b room room₁ r → ReadLogShown b room room₂ q → (r ≡ q) × (room₁ ≡ room₂)
read_log_crosses p q = let e = read_log_one p.gives q.gives in (log_read_once p.says (said LogAnswer.told e.0 q.says), e.1)

pub each_crosses : {b room room₁ room₂ : List ℕ} {r q : LogRead} → EachShown b room room₁ r → EachShown b room room₂ q → (r ≡ q) × (room₁ ≡ room₂)
each_crosses p q = let e = each_one p.gives q.gives in (log_read_once p.says (said LogAnswer.told e.0 q.says), e.1)

pub recover_crosses : (u : ℕ) (v : Float) {xs : List ℤ} {t l b : List ℕ} {r q : Recovery} {t₁ t₂ l₁ l₂ : List ℕ} →
    RecoverShown u v xs t l b r t₁ l₁ → RecoverShown u v xs t l b q t₂ l₂ → (r ≡ q) × (t₁ ≡ t₂) × (l₁ ≡ l₂)
recover_crosses u v p q = let e = recovered_one p.gives q.gives in (recovery_once p.says (said RecoverAnswer.told e.0 q.says), e.1, e.2)

pub job_crosses : {b : List ℕ} {r q : Measure} → JobShown b r → JobShown b q → r ≡ q
job_crosses p q = measure_once p.says (said JobAnswer.told (one_answer p.gives q.gives) q.says)

pub flip_crosses : {n : ℕ} {t edges l : List ℕ} {r q : Counted} {t₁ t₂ l₁ l₂ : List ℕ} →
    FlipShown n t edges l r t₁ l₁ → FlipShown n t edges l q t₂ l₂ → (r ≡ q) × (t₁ ≡ t₂) × (l₁ ≡ l₂)
flip_crosses p q = let e = flipped_one p.gives q.gives in (counted_once p.says (said FlipAnswer.told e.0 q.says), e.1, e.2)

pub undo_crosses : {n : ℕ} {t log : List ℕ} {r q : Counted} {t₁ t₂ : List ℕ} →
    UndoShown n t log r t₁ → UndoShown n t log q t₂ → (r ≡ q) × (t₁ ≡ t₂)
undo_crosses p q = let e = undid_one p.gives q.gives in (counted_once p.says (said FlipAnswer.told e.0 q.says), e.1)

pub open_log_crosses : {b : List ℕ} {r q : LogOpened} → OpenShown b r → OpenShown b q → r ≡ q
open_log_crosses p q = log_opened_once p.says (said told_opened (opened_one p.gives q.gives) q.says)

pub next_crosses : {b : List ℕ} {at : ℕ} {r q : Asked} → NextShown b at r → NextShown b at q → r ≡ q
next_crosses p q = asked_once (p.many ∙ sym q.many) p.shown.says (said told_next (next_one p.shown.gives q.shown.gives) q.shown.says)

-- ---- the same of those that refuse nothing

stored_once : (a : Option ℕ) {r q : Stored} → Stores a r → Stores a q → r ≡ q
stored_once (Some v) h k = let e = h.0 ∙ sym k.0 in let n = h.1 ∙ sym k.1 in λ i. record { there = e i; number = n i }
stored_once None h k = let e = h.0 ∙ sym k.0 in let n = h.1 ∙ sym k.1 in λ i. record { there = e i; number = n i }

pub trial_crosses : {k : ℕ} {r q : Stored} → TrialShown k r → TrialShown k q → r ≡ q
trial_crosses {k} {r} {q} p h = stored_once p.answer p.stores (rw (trial_one k p.answer h.answer p.tells h.tells) h.stores)

module _ {first second : Bor (List ℕ)} where
  which_once : {x y : Bor (List ℕ)} {r q : ℕ} → x ≡ y → Which first second x r → Which first second y q → r ≡ q
  which_once e (the_first h k) (the_first h₂ k₂) = k ∙ sym k₂
  which_once e (the_first h k) (the_second h₂ n k₂) = absurd (n (sym e ∙ h))
  which_once e (the_second h n k) (the_first h₂ k₂) = absurd (n (e ∙ h₂))
  which_once e (the_second h n k) (the_second h₂ n₂ k₂) = k ∙ sym k₂

  pub ring_crosses : {r q : ℕ} → RingShown first second r → RingShown first second q → r ≡ q
  ring_crosses p q = which_once (chosen_one p.chosen q.chosen) p.which q.which

  places_once : {x y : Bor (List ℕ)} {r q : Part} → x.now ≡ y.now → Places first second x r → Places first second y q → r ≡ q
  places_once e (nothing h k) (nothing h₂ k₂) = k ∙ sym k₂
  places_once e (nothing h k) (of_second n lt p k₂) = absurd (n (sym e ∙ h))
  places_once e (nothing h k) (of_first n lt p k₂) = absurd (n (sym e ∙ h))
  places_once e (of_second n lt p k) (nothing h k₂) = absurd (n (e ∙ h))
  places_once e (of_second n lt p k) (of_second n₂ lt₂ p₂ k₂) = k ∙ sym k₂
  places_once e (of_second n lt p k) (of_first n₂ lt₂ p₂ k₂) = absurd (omega (arith, lt, lt₂))
  places_once e (of_first n lt p k) (nothing h k₂) = absurd (n (e ∙ h))
  places_once e (of_first n lt p k) (of_second n₂ lt₂ p₂ k₂) = absurd (omega (arith, lt, lt₂))
  places_once e (of_first n lt p k) (of_first n₂ lt₂ p₂ k₂) = k ∙ sym k₂

  pub part_crosses : {r q : Part} → PartShown first second r → PartShown first second q → r ≡ q
  part_crosses p q = places_once (caught_up_one p.caught_up q.caught_up).1 p.places q.places
