-- A refusal is told exactly when the list has it: by the refusal that holds, or by a verdict.
use mathlib.Core.Path.{◌≡◌, sym, ◌∙◌, ap, subst}
use mathlib.Core.Logic.{◌⊎◌, inl, inr}
use mathlib.Core.List.{List}
use lib.IntN.{ℤ}
use Rattle.std.specs.Prelude.{Ok, Err, Result}
use Rattle.refusal.specs.declared.Refusal.{Refusal}
use Rattle.refusal.specs.First.{Clause, FirstOf, Refusals, First}
use Rattle.refusal.specs.Told.{Told, done, refused}
use Rattle.refusal.specs.Outcome.{outcome}
use Rattle.refusal.specs.Refuses.{RefusesOf, Refuses}
use Rattle.refusal.proofs.Laws.{Verdicts, verdicts, first_one}
use Rattle.refusal.proofs.Outcome.{tells_refusal, refused_done}

-- by one refusal of the list, or by none of it
module _ {R A : Type 0} {passes : A} {refuses : R → A} (apart : Verdicts passes refuses) {tells : R → Told} (tells_one : (r s : R) → tells r ≡ tells s → r ≡ s) where
  pub exactly_of : {l : List (Clause R)} {v : Told} →
      ((e : R) × FirstOf passes refuses l (refuses e) × (v ≡ tells e)) ⊎ (FirstOf passes refuses l passes × ((r : R) → ¬ (v ≡ tells r))) → RefusesOf passes refuses tells l v
  exactly_of {l} (inl (e, f, p)) = record {
    when = λ r g. p ∙ ap tells (apart.one (first_one apart l f g));
    only = λ r q. subst (λ k. FirstOf passes refuses l (refuses k)) (tells_one e r (sym p ∙ q)) f;
  }
  exactly_of {l} (inr (f, n)) = record { when = λ r g. absurd (apart.none (first_one apart l g f)); only = λ r q. absurd (n r q) }

-- 01's own
pub exactly : {l : Refusals} {v : Told} → ((e : Refusal) × First l (Err e) × (v ≡ refused e)) ⊎ (First l (Ok tt) × ((r : Refusal) → ¬ (v ≡ refused r))) → Refuses l v
exactly h = exactly_of verdicts (λ r s e. tells_refusal e) h

-- what is done is not refused
pub not_refused : {v : Told} {vs : List ℤ} → v ≡ done vs → (r : Refusal) → ¬ (v ≡ refused r)
not_refused p r q = refused_done r (sym q ∙ p)

-- a verdict and what it comes to
pub by_verdict : {l : Refusals} {a : Told} (vs : List ℤ) (v : Result Unit Refusal) → First l v → a ≡ outcome v vs → Refuses l a
by_verdict vs (Ok tt) f p = exactly (inr (f, not_refused p))
by_verdict vs (Err r) f p = exactly (inl (r, f, p))
