-- Recovery has one outcome; what its answer tells; and what it comes to, done or stopped.
use mathlib.Core.Path.{◌≡◌, sym, ◌∙◌, ap}
use mathlib.Core.Logic.{◌⊎◌, inl, inr}
use mathlib.Core.List.{List, [], ◌∷◌, ◌++◌}
use Prim.Native.Nat.{ℕ, ◌+◌, ◌%◌}
use native.Mathlib.Omega.{arith}
use lib.IntN.{ℤ, pos, nat_abs}
use lib.ListN.{length, take, drop, get_or}
use Rattle.std.specs.Prelude.{Ok, Err, Result}
use Rattle.follow.specs.Follow.{Followed, all, some}
use Rattle.follow.proofs.Following.{followed_one}
use Rattle.surface.specs.Rows.{Row}
use Rattle.refusal.specs.declared.Refusal.{Refusal}
use Rattle.refusal.specs.declared.Refusal.TheVariants.{RecordFails}
use Rattle.refusal.specs.First.{First}
use Rattle.refusal.specs.Told as answers
use Rattle.refusal.proofs.Laws.{verdicts, first_one, refused_one, refused_passes, passes_front}
use Rattle.refusal.proofs.Outcome.{refused_done}
use Rattle.faults.specs.Counts.{corners}
use Rattle.run.proofs.Main.{run_one}
use Rattle.record.specs.Layout.{log_of, room_for}
use Rattle.record.specs.Front.{zeroed}
use Rattle.thin.specs.Order.{Asked}
use Rattle.thin.specs.Thin.{thin_refusals}
use Rattle.thin.proofs.Main.{under_one, passes_whole}
use Rattle.regrow.specs.declared.Halt.{Halt}
use Rattle.regrow.specs.declared.Halt.TheVariants.{Stopped, Refused}
use Rattle.regrow.proofs.Counted.{regrown_apart}
use Rattle.replay.specs.Outcome.{replaying}
use Rattle.replay.proofs.Main.{replaying_plain}
use Rattle.logcut.proofs.Ending.{one_cut}
use Rattle.recover.specs.Answer.{told, fails_after}
use Rattle.recover.specs.Outcome.{recover_refusals, RecoveredAs, refused, stopped, done}
use Rattle.recover.specs.Run.{RecoveryOf, StoppedOf}
use Rattle.recover.proofs.Handing.{all_followed}

-- records of the same numbers are followed to one end
same_followed : (n : ℕ) (t : List ℕ) {kept kept₂ : List ℕ} {a a₂ : Result ℕ Halt} {T T₂ : List Row} → kept ≡ kept₂ → Followed (replaying n t kept) a T → Followed (replaying n t kept₂) a₂ T₂ → (a ≡ a₂) × (T ≡ T₂)
same_followed n t {kept} {kept₂} {a} {a₂} {T} {T₂} e f g = followed_one (replaying n t kept₂) (replaying_plain n t kept₂) (rw e at f) g

-- no second outcome satisfies the same words
pub recovered_one : {a : Asked} {xs : List ℤ} {t l b : List ℕ} {r r₂ : Result (ℕ × ℕ) Halt} {t' t₂ l' l₂ : List ℕ} → RecoveredAs a xs t l b r t' l' → RecoveredAs a xs t l b r₂ t₂ l₂ → (r ≡ r₂) × (t' ≡ t₂) × (l' ≡ l₂)
recovered_one (refused f er et el) (refused f₂ er₂ et₂ el₂) = (er ∙ ap (λ (x : Refusal). Err (Refused x)) (refused_one (first_one verdicts _ f f₂)) ∙ sym er₂, et ∙ sym et₂, el ∙ sym el₂)
recovered_one (refused f er et el) (stopped f₂ _ _ _ _ _ _) = refused_passes (first_one verdicts _ f f₂)
recovered_one (refused f er et el) (done f₂ _ _ _ _ _ _ _ _) = refused_passes (first_one verdicts _ f f₂)
recovered_one (stopped f₂ _ _ _ _ _ _) (refused f er et el) = refused_passes (first_one verdicts _ f f₂)
recovered_one (done f₂ _ _ _ _ _ _ _ _) (refused f er et el) = refused_passes (first_one verdicts _ f f₂)
recovered_one {xs = xs} {t = t} {l = l} (stopped f s c w er et el) (stopped f₂ s₂ c₂ w₂ er₂ et₂ el₂) =
    let e = (one_cut c c₂).numbers in
    let z = same_followed (corners xs) t e w w₂ in
    let k = regrown_apart.stopped_one {r = RecordFails} {q = RecordFails} z.0 in
    (er ∙ ap (λ (j : ℕ). Err (Stopped j)) k ∙ sym er₂, et ∙ ap (λ T. zeroed T t) z.1 ∙ sym et₂, el ∙ (λ i. take (room_for (k i)) (e i) ++ drop (room_for (k i)) l) ∙ sym el₂)
recovered_one {xs = xs} {t = t} (stopped f s c w er et el) (done f₂ s₂ c₂ w₂ eb q er₂ et₂ el₂) =
    let z = same_followed (corners xs) t (one_cut c c₂).numbers w w₂ in absurd (regrown_apart.finished_stopped {r = RecordFails} (sym z.0))
recovered_one {xs = xs} {t = t} (done f₂ s₂ c₂ w₂ eb q er₂ et₂ el₂) (stopped f s c w er et el) =
    let z = same_followed (corners xs) t (one_cut c c₂).numbers w w₂ in absurd (regrown_apart.finished_stopped {r = RecordFails} (sym z.0))
recovered_one {xs = xs} {t = t} {l = l} (done f s c w eb q er et el) (done f₂ s₂ c₂ w₂ eb₂ q₂ er₂ et₂ el₂) =
    let e = (one_cut c c₂).numbers in
    let z = same_followed (corners xs) t e w w₂ in
    let k = regrown_apart.finished_one z.0 in
    let u = run_one (rw (under_one (sym eb ∙ eb₂), z.1) at q) q₂ in
    let m = u.0 in (
      er ∙ (λ i. Ok (k i, k i + length (m i))) ∙ sym er₂,
      et ∙ ap (λ T. zeroed T t) u.1 ∙ sym et₂,
      el ∙ (λ i. e i ++ (log_of (m i) ++ drop (room_for (k i + length (m i))) l)) ∙ sym el₂,
    )

-- ---- answers apart, and what they tell

pub done_refused : {X : Type 0} {k j : ℕ} {r : Refusal} → ◌≡◌ {A = Result (ℕ × ℕ) Halt} (Ok (k, j)) (Err (Refused r)) → X
done_refused e = let z : ◌≡◌ {A = ℕ} 0 1 = cc in absurd (omega arith)

pub done_stopped : {X : Type 0} {k j i : ℕ} → ◌≡◌ {A = Result (ℕ × ℕ) Halt} (Ok (k, j)) (Err (Stopped i)) → X
done_stopped e = let z : ◌≡◌ {A = ℕ} 0 1 = cc in absurd (omega arith)

pub stopped_refused : {X : Type 0} {k : ℕ} {r : Refusal} → ◌≡◌ {A = Result (ℕ × ℕ) Halt} (Err (Stopped k)) (Err (Refused r)) → X
stopped_refused e = let z : ◌≡◌ {A = ℕ} 0 1 = cc in absurd (omega arith)

value : ℕ → answers.Told → ℕ
value i v = nat_abs (get_or v.values i (pos 0))

-- 13 carries its counts, so it is no refusal of a list
pub failing_other : (k : ℕ) (r : Refusal) → ¬ (fails_after k ≡ answers.refused r)
failing_other k r p = let e = ap (λ (v : answers.Told). length v.values) p in omega arith

-- 0 and two numbers tell that recovery was done with these
pub told_done : (r : Result (ℕ × ℕ) Halt) {k j : ℕ} → told r ≡ answers.done (pos k ∷ pos j ∷ []) → r ≡ Ok (k, j)
unfolding value
told_done (Ok c) e = λ i. Ok (value 0 (e i), value 1 (e i))
told_done (Err (Stopped x)) e = let h = ap (λ (v : answers.Told). v.number) e in absurd (omega arith)
told_done (Err (Refused r)) e = absurd (refused_done r e)

-- 13 and a number tell that it stopped there
pub told_stopped : (r : Result (ℕ × ℕ) Halt) {k : ℕ} → told r ≡ fails_after k → r ≡ Err (Stopped k)
unfolding value
told_stopped (Ok c) e = let h = ap (λ (v : answers.Told). v.number) e in absurd (omega arith)
told_stopped (Err (Stopped x)) e = ap (λ (j : ℕ). Err (Stopped j)) (ap (value 0) e)
told_stopped (Err (Refused r)) {k} e = absurd (failing_other k r (sym e))

-- ---- what it comes to

-- what passes is a table of whole rows
whole_rows : (a : Asked) (xs : List ℤ) (t l b : List ℕ) → First (recover_refusals a xs t (length l) b) (Ok tt) → length t % 3 ≡ 0
whole_rows a xs t l b f = passes_whole a xs t (length l) (passes_front verdicts (thin_refusals a xs t (length l)) _ f)

module _ {a : Asked} {xs : List ℤ} {t l b : List ℕ} where
  pub recovery_run : {k j : ℕ} {t' l' : List ℕ} → RecoveredAs a xs t l b (Ok (k, j)) t' l' → RecoveryOf a xs t l b k j t' l'
  recovery_run (refused f er et el) = done_refused er
  recovery_run (stopped f s c w er et el) = done_stopped er
  recovery_run {k} {j} (done {kept = kept} {k = k₁} {handed = handed} {bound = bound} {added = added} {last = last} f s c w eb q er et el) =
      let c₁ : ◌≡◌ {A = ℕ × ℕ} (k, j) (k₁, k₁ + length added) = cc in
      let ek : k ≡ k₁ = ap (λ (p : ℕ × ℕ). p.0) c₁ in
      let ej : j ≡ k₁ + length added = ap (λ (p : ℕ × ℕ). p.1) c₁ in
      let m = all_followed (corners xs) t kept w in
      record {
        bound = bound;
        kept = kept;
        handed = handed;
        added = added;
        last = last;
        whole = whole_rows a xs t l b f;
        skin = s;
        under = eb;
        cut = c;
        led = m.0;
        run = q;
        many = ek ∙ m.1;
        in_all = ej ∙ ap (λ i. i + length added) (sym ek);
        table = et;
        logged = el ∙ ap (λ i. kept ++ (log_of added ++ drop (room_for i) l)) (sym ej);
      }

  pub stopped_run : {k : ℕ} {t' l' : List ℕ} → RecoveredAs a xs t l b (Err (Stopped k)) t' l' → StoppedOf xs t l b k t' l'
  stopped_run (refused f er et el) = stopped_refused er
  stopped_run (done f s c w eb q er et el) = done_stopped (sym er)
  stopped_run {k} {t'} {l'} (stopped {log = log} {k = k₁} {reached = reached} f s c w er et el) = go w
    where
      ek : k ≡ k₁
      ek = cc

      go : Followed (replaying (corners xs) t log) (Err (Stopped k₁)) reached → StoppedOf xs t l b k t' l'
      go (all v e) = absurd (regrown_apart.finished_stopped {r = RecordFails} (sym e))
      go (some front next rest {r = r} q v g e) = record {
        log = log;
        front = front;
        next = next;
        rest = rest;
        reached = reached;
        whole = whole_rows a xs t l b f;
        skin = s;
        cut = c;
        parts = q;
        many = sym (ek ∙ regrown_apart.stopped_one {r = r} {q = r} e);
        led = v;
        fails = g.0;
        table = et;
        logged = el ∙ (λ i. take (room_for (sym ek i)) log ++ drop (room_for (sym ek i)) l);
      }

  -- the answer tells the first refusal that holds; else 0 and two counts, or 13 and the records done
  pub recover_told : {r : Result (ℕ × ℕ) Halt} {t' l' : List ℕ} → RecoveredAs a xs t l b r t' l' →
      ((e : Refusal) × First (recover_refusals a xs t (length l) b) (Err e) × (told r ≡ answers.refused e))
      ⊎ (First (recover_refusals a xs t (length l) b) (Ok tt) × ((e : Refusal) → ¬ (told r ≡ answers.refused e)))
  recover_told (refused {e = e} f er et el) = inl (e, f, ap told er)
  recover_told (stopped {k = k} f s c w er et el) = inr (f, λ e p. failing_other k e (sym (ap told er) ∙ p))
  recover_told (done f s c w eb q er et el) = inr (f, λ e p. refused_done e (sym p ∙ ap told er))

  -- a refused recovery changes nothing
  pub refused_same : {r : Refusal} {t' l' : List ℕ} → RecoveredAs a xs t l b (Err (Refused r)) t' l' → (t' ≡ t) × (l' ≡ l)
  refused_same (refused f er et el) = (et, el)
  refused_same (stopped f s c w er et el) = stopped_refused (sym er)
  refused_same (done f s c w eb q er et el) = done_refused (sym er)
