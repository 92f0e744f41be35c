-- Thinning has one outcome, and a skin with room and a usable limit or none is thinned.
use mathlib.Core.Path.{◌≡◌, sym, ◌∙◌, ap}
use mathlib.Core.Logic.{◌⊎◌, inl, inr}
use mathlib.Core.List.{List, [], ◌∷◌, ◌++◌}
use mathlib.Core.Bool.{true}
use Prim.Native.Nat.{ℕ, ◌-◌, ◌*◌, ◌%◌, ◌≤◌}
use native.Mathlib.Decide.{ℕ_discrete}
use native.Mathlib.Omega.{arith}
use lib.IntN.{ℤ, pos, nat_abs}
use lib.ListN.{length, drop, replicate, get_or}
use Rattle.std.specs.Prelude.{Ok, Err, Result, Option}
use Rattle.refusal.specs.declared.Refusal.TheVariants.{LimitUnusable}
use Rattle.surface.specs.Rows.{Row, rows, flat}
use Rattle.surface.specs.Stage.{Stage}
use Rattle.surface.specs.Record.{Record, Replayed}
use Rattle.surface.proofs.Main.{euler_there, corners_there}
use Rattle.corners.specs.Skin.{Skin}
use Rattle.refusal.specs.declared.Refusal.{Refusal}
use Rattle.refusal.specs.First.{First}
use Rattle.refusal.specs.Told as answers
use Rattle.refusal.proofs.Outcome.{refused_done}
use Rattle.refusal.proofs.Laws.{first_one, refused_one, refused_passes, verdicts, rest_decides, passed, none_yet, ◌nor◌}
use Rattle.faults.specs.Counts.{CountsFitAt, corners}
use Rattle.faults.proofs.Opposites.{stage_rows, stage_corners}
use Rattle.faults.proofs.Order.{after_2_at, skin_passes}
use Rattle.run.specs.Run.{Taken}
use Rattle.run.proofs.Main.{run_one, taken_cut, taken_replayed, replayed_stage, replayed_euler, replayed_rows, replayed_corners}
use Rattle.record.specs.Layout.{width, log_of}
use Rattle.least.specs.Limited.{Allowed}
use Rattle.thin.specs.Order.{Asked}
use Rattle.thin.specs.Answer.{told}
use Rattle.thin.specs.Thin.{log_need, thin_refusals, ThinnedAs, refused, done}
use Rattle.thin.specs.Run.{RunOf, KeptAfter}

pub under_one : {b c : Option ℕ} → ◌≡◌ {A = Asked} (Ok b) (Ok c) → b ≡ c
under_one e = cc

-- no second outcome satisfies the same words
pub thinned_one : {k : Asked} {xs : List ℤ} {t l : List ℕ} {a a₂ : Result ℕ Refusal} {t' t₂ l' l₂ : List ℕ} → ThinnedAs k xs t l a t' l' → ThinnedAs k xs t l a₂ t₂ l₂ → (a ≡ a₂) × (t' ≡ t₂) × (l' ≡ l₂)
thinned_one (refused f ea et el) (refused f₂ ea₂ et₂ el₂) = (ea ∙ ap Err (refused_one (first_one verdicts _ f f₂)) ∙ sym ea₂, et ∙ sym et₂, el ∙ sym el₂)
thinned_one (refused f ea et el) (done f₂ _ _ _ _ _ _) = refused_passes (first_one verdicts _ f f₂)
thinned_one (done f _ _ _ _ _ _) (refused f₂ ea et el) = refused_passes (first_one verdicts _ f₂ f)
thinned_one {xs = xs} {t = t} {l = l} (done {b = b} f s eb r ea et el) (done {b = c} f₂ s₂ ec r₂ ea₂ et₂ el₂) =
    let e = under_one (sym eb ∙ ec) in
    let k = run_one (rw e at r) r₂ in
    let w = k.0 in
    let z = k.1 in (
      ea ∙ ap (λ q. Ok (length q)) w ∙ sym ea₂,
      et ∙ ap (λ q. flat q ++ replicate (length t - length (flat q)) 0) z ∙ sym et₂,
      el ∙ ap (λ q. log_of q ++ drop (width * length q) l) w ∙ sym el₂,
    )

-- what is refused is not done
pub done_refused : {X : Type 0} {k : ℕ} {r : Refusal} → ◌≡◌ {A = Result ℕ Refusal} (Ok k) (Err r) → X
done_refused e = refused_passes (sym e)

-- a skin with room and a usable limit or none passes
pub thin_passes : {a : Asked} {xs : List ℤ} (t : List ℕ) {room : ℕ} → ¬ (a ≡ Err LimitUnusable) → length t % 3 ≡ 0 → Skin (corners xs) (rows t) xs → log_need xs ≤ room → First (thin_refusals a xs t room) (Ok tt)
thin_passes {a} {xs} t {room} u threes s h = unfold thin_refusals in
    rest_decides verdicts (u nor (λ k. k fits) nor (λ k. omega arith) nor none_yet) (Ok tt) (after_2_at true xs t (Ok tt) fits (skin_passes t threes (corners xs) xs s))
  where
    fits : CountsFitAt xs t
    fits = record {
      table = record { threes = threes; count = stage_rows s.stage };
      coordinates = record { threes = let e = s.corners in omega arith; count = stage_corners s.stage };
    }

-- with room and a usable limit or none, every skin is accepted
pub accepted : {a : Asked} {xs : List ℤ} {t l : List ℕ} {r : Result ℕ Refusal} {t' l' : List ℕ} → ¬ (a ≡ Err LimitUnusable) → length t % 3 ≡ 0 → Skin (corners xs) (rows t) xs → log_need xs ≤ length l →
    ThinnedAs a xs t l r t' l' → (k : ℕ) × (r ≡ Ok k)
accepted u threes s room (refused f er et el) = refused_passes (first_one verdicts _ f (thin_passes _ u threes s room))
accepted u threes s room (done {log = log} f z eb r er et el) = (length log, er)

-- what passes is made of whole rows
pub passes_whole : (a : Asked) (xs : List ℤ) (t : List ℕ) (room : ℕ) → First (thin_refusals a xs t room) (Ok tt) → length t % 3 ≡ 0
unfolding thin_refusals
passes_whole a xs t room f = go (passed verdicts _ _ (passed verdicts _ _ f).1).0 (ℕ_discrete (length t % 3) 0)
  where
    go : ¬ ¬ CountsFitAt xs t → Dec (length t % 3 ≡ 0) → length t % 3 ≡ 0
    go c (yes e) = e
    go c (no n) = absurd (c (λ k. n k.table.threes))

pub done_count : {k m : ℕ} → ◌≡◌ {A = Result ℕ Refusal} (Ok k) (Ok m) → k ≡ m
done_count e = cc

pub thinned_run : {a : Asked} {xs : List ℤ} {t l : List ℕ} {k : ℕ} {t' l' : List ℕ} → ThinnedAs a xs t l (Ok k) t' l' → RunOf a xs t l k t' l'
thinned_run (refused f er et el) = done_refused er
thinned_run {a} {xs} {t} {l} (done {b = b} {log = log} {last = last} f s eb r er et el) =
    record { b = b; log = log; last = last; whole = passes_whole a xs t (length l) f; skin = s; under = eb; run = r; count = done_count er; table = et; logged = el }

-- the last stage is one
pub last_stage : {a : Asked} {xs : List ℤ} {t l : List ℕ} {k : ℕ} {t' l' : List ℕ} (w : RunOf a xs t l k t' l') → Stage (corners xs) w.last
last_stage w = replayed_stage w.skin.stage (taken_replayed w.run.taken)

-- what steps keep, whoever took them
pub replayed_kept : {n : ℕ} {T T₁ : List Row} {l : List Record} → Stage n T → Replayed T l T₁ → KeptAfter n T l T₁
replayed_kept {n} {T} {T₁} s r =
    let z = replayed_stage s r in
    let x = euler_there n T s in
    let y = euler_there n T₁ z in
    let v = corners_there n T s in
    let u = corners_there n T₁ z in record {
      stage = z;
      χ = x.0;
      euler_before = x.1;
      euler_after = rw (sym (replayed_euler s r x.1 y.1)) at y.1;
      fewer_rows = replayed_rows s r;
      v = u.0;
      used_before = rw (replayed_corners s r v.1 u.1) at v.1;
      used_after = u.1;
    }

pub thinned_kept : {a : Asked} {xs : List ℤ} {t l : List ℕ} {k : ℕ} {t' l' : List ℕ} (w : RunOf a xs t l k t' l') (p q : List Record) → w.log ≡ p ++ q →
    (T₁ : List Row) × Taken (Allowed w.b xs) (rows t) p T₁ × KeptAfter (corners xs) (rows t) p T₁
thinned_kept w p q e = let c = taken_cut p (rw e at w.run.taken) in (c.0, c.1, replayed_kept w.skin.stage (taken_replayed c.1))

-- the answer tells the first refusal that holds, and else 0 and how many records were written
pub thin_told : {a : Asked} {xs : List ℤ} {t l : List ℕ} {r : Result ℕ Refusal} {t' l' : List ℕ} → ThinnedAs a xs t l r t' l' →
    ((e : Refusal) × First (thin_refusals a xs t (length l)) (Err e) × (told r ≡ answers.refused e))
    ⊎ (First (thin_refusals a xs t (length l)) (Ok tt) × (k : ℕ) × (r ≡ Ok k) × (told r ≡ answers.done (pos k ∷ [])))
thin_told (refused {e = e} f er et el) = inl (e, f, ap told er)
thin_told (done {log = log} f s eb r er et el) = inr (f, length log, er, ap told er)

-- 0 and a number tell that so many records were written
pub told_done : (a : Result ℕ Refusal) {k : ℕ} → told a ≡ answers.done (pos k ∷ []) → a ≡ Ok k
told_done (Ok j) e = ap Ok (ap (λ (v : answers.Told). nat_abs (get_or v.values 0 (pos 0))) e)
told_done (Err r) e = absurd (refused_done r e)

-- a refused thinning changes nothing
pub refused_same : {a : Asked} {xs : List ℤ} {t l : List ℕ} {r : Refusal} {t' l' : List ℕ} → ThinnedAs a xs t l (Err r) t' l' → (t' ≡ t) × (l' ≡ l)
refused_same (refused f er et el) = (et, el)
refused_same (done f s eb r er et el) = done_refused (sym er)
