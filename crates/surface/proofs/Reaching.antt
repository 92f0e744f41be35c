-- Chains of steps.
use mathlib.Core.Path.{◌≡◌, refl, sym, ◌∙◌, ap}
use mathlib.Core.Logic.{◌≢◌, ◌⊎◌, inl, inr}
use Prim.Native.Nat.{ℕ}
use native.Mathlib.Decide.{ℕ_discrete}
use Rattle.surface.specs.Lists.{Reach, stay, step}

pub join : {R : ℕ → ℕ → Type 0} {p q s : ℕ} → Reach R p q → Reach R q s → Reach R p s
join {R} {p} {q} {s} (stay e) k = rw e k
join (step h c) k = step h (join c k)

pub one_step : {R : ℕ → ℕ → Type 0} {p q : ℕ} → R p q → Reach R p q
one_step h = step h (stay refl)

-- a map that carries each step to a chain carries each chain to a chain
pub carry : {R S : ℕ → ℕ → Type 0} (f : ℕ → ℕ) → ((p q : ℕ) → R p q → Reach S (f p) (f q)) → {p q : ℕ} → Reach R p q → Reach S (f p) (f q)
carry f h (stay e) = stay (ap f e)
carry f h (step r c) = join (h _ _ r) (carry f h c)

pub go_back : {R : ℕ → ℕ → Type 0} → ((p q : ℕ) → R p q → R q p) → {p q : ℕ} → Reach R p q → Reach R q p
go_back h (stay e) = stay (sym e)
go_back h (step r c) = join (go_back h c) (one_step (h _ _ r))

-- what each step hands on, each chain hands on
pub within : {R : ℕ → ℕ → Type 0} (P : ℕ → Type 0) → ((p q : ℕ) → R p q → P p → P q) → {p q : ℕ} → Reach R p q → P p → P q
within P h (stay e) k = rw e at k
within P h (step r c) k = within P h c (h _ _ r k)

-- steps of R that keep away from b
abbrev pub Past : (ℕ → ℕ → Type 0) → ℕ → ℕ → ℕ → Type 0
Past R b p q = R p q × (p ≢ b) × (q ≢ b)

module _ {R : ℕ → ℕ → Type 0} (b : ℕ) where
  -- what follows b for the last time is x, if b is followed by x alone
  pub after : {x : ℕ} → ((t : ℕ) → R b t → t ≡ x) → {s p : ℕ} → p ≢ b → Reach R s p → ((s ≢ b) × Reach (Past R b) s p) ⊎ Reach (Past R b) x p
  after only np (stay e) = inl (λ h. np (sym e ∙ h), stay e)
  after {x} only {p = p} np (step {p = s} {t = t} r c) = go (after only np c) (ℕ_discrete s b)
    where
      go : ((t ≢ b) × Reach (Past R b) t p) ⊎ Reach (Past R b) x p → Dec (s ≡ b) → ((s ≢ b) × Reach (Past R b) s p) ⊎ Reach (Past R b) x p
      go (inr k) d = inr k
      go (inl k) (yes e) = inr (rw (only _ (rw e at r)) at k.1)
      go (inl k) (no ns) = inl (ns, step (r, ns, k.0) k.1)

  -- what comes before b for the first time is y, if b follows y alone
  pub before : {y : ℕ} → ((t : ℕ) → R t b → t ≡ y) → {s p : ℕ} → p ≡ b → s ≢ b → Reach R s p → Reach (Past R b) s y
  before only ep ns (stay e) = absurd (ns (e ∙ ep))
  before {y} only {p = p} ep ns (step {p = s} {t = t} r c) = go (ℕ_discrete t b) (λ nt. before only ep nt c)
    where
      go : Dec (t ≡ b) → (t ≢ b → Reach (Past R b) t y) → Reach (Past R b) s y
      go (yes e) below = stay (only _ (rw e at r))
      go (no nt) below = step (r, ns, nt) (below nt)
