-- No second outcome of reading a sheet, and what the answer tells.
use mathlib.Core.Path.{◌≡◌, sym, ◌∙◌, ap, subst}
use mathlib.Core.Logic.{◌⊎◌, inl, inr}
use mathlib.Core.List.{List, [], ◌∷◌, ◌++◌}
use Prim.Native.Nat.{ℕ}
use lib.IntN.{ℤ, pos}
use lib.ListN.{length, drop}
use Rattle.std.specs.Prelude.{Result, Ok, Err}
use Rattle.refusal.specs.First.{First}
use Rattle.refusal.specs.Told as answers
use Rattle.refusal.specs.declared.Refusal.{Refusal}
use Rattle.refusal.proofs.Laws.{first_one, refused_one, refused_passes, verdicts}
use Rattle.sheet.specs.Answer.{told}
use Rattle.form.specs.Form.{SheetOf, form_refusals}
use Rattle.form.proofs.One.{Same, one_skin}
use Rattle.sheet.specs.Outcome.{skin_refusals, ReadSheet, bad_form, bad_skin, read}

-- ---- no second outcome

pub record SameOutcome (a a' : Result (ℕ × ℕ) Refusal) (troom troom' : List ℕ) (croom croom' : List ℤ) : Type 0 where
  pub answer : a ≡ a'
  pub table : troom ≡ troom'
  pub corners : croom ≡ croom'

module _ (b : List ℕ) (troom : List ℕ) (croom : List ℤ) where
  -- the verdict on what a sheet holds, by another name of that
  pub moved : {n m n' m' : ℕ} {xs xs' : List ℤ} {t t' : List ℕ} (v : Result Unit Refusal) → Same n m n' m' xs xs' t t' → First (skin_refusals troom croom xs t) v → First (skin_refusals troom croom xs' t') v
  moved {xs' = xs'} {t = t} v s f = subst (λ k. First (skin_refusals troom croom xs' k) v) s.numbers (subst (λ k. First (skin_refusals troom croom k t) v) s.coordinates f)

  pub one_outcome : {a a' : Result (ℕ × ℕ) Refusal} {t₁ t₂ : List ℕ} {c₁ c₂ : List ℤ} → ReadSheet b troom t₁ croom c₁ a → ReadSheet b troom t₂ croom c₂ a' → SameOutcome a a' t₁ t₂ c₁ c₂
  one_outcome (bad_form f e p q) (bad_form g d u v) = record { answer = e ∙ ap Err (refused_one (first_one verdicts (form_refusals b) f g)) ∙ sym d; table = p ∙ sym u; corners = q ∙ sym v }
  one_outcome (bad_form f e p q) (bad_skin g s k d u v) = refused_passes (first_one verdicts (form_refusals b) f g)
  one_outcome (bad_form f e p q) (read g s k w d u v) = refused_passes (first_one verdicts (form_refusals b) f g)
  one_outcome (bad_skin g s k d u v) (bad_form f e p q) = refused_passes (first_one verdicts (form_refusals b) f g)
  one_outcome (bad_skin {r = r} f s k e p q) (bad_skin {xs = xs'} {t = t'} g s' k' d u v) = record { answer = e ∙ ap Err (refused_one (first_one verdicts (skin_refusals troom croom xs' t') (moved (Err r) (one_skin s s') k) k')) ∙ sym d; table = p ∙ sym u; corners = q ∙ sym v }
  one_outcome (bad_skin {r = r} f s k e p q) (read {xs = xs'} {t = t'} g s' k' w d u v) = refused_passes (first_one verdicts (skin_refusals troom croom xs' t') (moved (Err r) (one_skin s s') k) k')
  one_outcome (read g s k w d u v) (bad_form f e p q) = refused_passes (first_one verdicts (form_refusals b) f g)
  one_outcome (read f s k w d u v) (bad_skin {xs = xs'} {t = t'} g s' k' e p q) = refused_passes (first_one verdicts (skin_refusals troom croom xs' t') k' (moved (Ok tt) (one_skin s s') k))
  one_outcome (read f s k w d u v) (read g s' k' w' e p q) =
      let o = one_skin s s' in
      record {
        answer = d ∙ (λ i. Ok (o.corners i, o.rows i)) ∙ sym e;
        table = u ∙ (λ i. o.numbers i ++ drop (length (o.numbers i)) troom) ∙ sym p;
        corners = v ∙ (λ i. o.coordinates i ++ drop (length (o.coordinates i)) croom) ∙ sym q;
      }

-- the answer tells the first refusal that holds, of the form or else of what the sheet holds, or 0 and the counts of the skin that it holds
pub sheet_told : {b troom troom' : List ℕ} {croom croom' : List ℤ} {a : Result (ℕ × ℕ) Refusal} → ReadSheet b troom troom' croom croom' a →
    ((r : Refusal) × First (form_refusals b) (Err r) × (told a ≡ answers.refused r))
    ⊎ (First (form_refusals b) (Ok tt) × (n m : ℕ) × (xs : List ℤ) × (t : List ℕ) × SheetOf b n m xs t ×
    (((r : Refusal) × First (skin_refusals troom croom xs t) (Err r) × (told a ≡ answers.refused r))
    ⊎ (First (skin_refusals troom croom xs t) (Ok tt) × (told a ≡ answers.done (pos n ∷ pos m ∷ [])))))
sheet_told (bad_form {r = r} f e p q) = inl (r, f, ap told e)
sheet_told (bad_skin {n = n} {m = m} {xs = xs} {t = t} {r = r} f s k e p q) = inr (f, n, m, xs, t, s, inl (r, k, ap told e))
sheet_told (read {n = n} {m = m} {xs = xs} {t = t} f s k w e p q) = inr (f, n, m, xs, t, s, inr (k, ap told e))
