-- The laws of lists, for refusals and verdicts of any type: one verdict is the first that holds, and where none of the first lines is given, the
-- rest decides. Each asks `Verdicts` of the two ways that a verdict is made; 01's own is `verdicts`.
use mathlib.Core.Path.{◌≡◌, refl, sym, ◌∙◌}
use mathlib.Core.Logic.{inl, inr, ◌↔◌}
use mathlib.Core.List.{List, [], ◌∷◌, ◌++◌}
use Prim.Native.Nat.{ℕ}
use native.Mathlib.Omega.{arith}
use Rattle.std.specs.Prelude.{Ok, Err, Result}
use Rattle.refusal.specs.First.{Clause, FirstOf}

-- m ends the list, and none of the lines before it is given
infixr 6 ◌nor◌
pub data NoneBefore {R : Type 0} (m : List (Clause R)) : List (Clause R) → Type 1 where
  none_yet : NoneBefore m m
  ◌nor◌ : {c : Clause R} {l : List (Clause R)} → (¬ c.given) → NoneBefore m l → NoneBefore m (c ∷ l)

-- none of the list is given
abbrev pub NoneGiven : {R : Type 0} → List (Clause R) → Type 1
NoneGiven l = NoneBefore [] l

-- nor of a list in front
pub all_nor : {R : Type 0} {l m k : List (Clause R)} → NoneGiven l → NoneBefore k m → NoneBefore k (l ++ m)
all_nor none_yet h = h
all_nor (n nor g) h = n nor all_nor g h

-- what tells verdicts apart: two refusals are two, and none of them passes
pub record Verdicts {R A : Type 0} (passes : A) (refuses : R → A) : Type 0 where
  pub one : {r s : R} → refuses r ≡ refuses s → r ≡ s
  pub none : {r : R} → ¬ (refuses r ≡ passes)

module _ {R A : Type 0} {passes : A} {refuses : R → A} (apart : Verdicts passes refuses) where
  pub first_one : (l : List (Clause R)) {v w : A} → FirstOf passes refuses l v → FirstOf passes refuses l w → v ≡ w
  unfolding FirstOf
  first_one [] p q = p ∙ sym q
  first_one (c ∷ l) (inl p) (inl q) = p.1 ∙ sym q.1
  first_one (c ∷ l) (inl p) (inr q) = absurd (q.0 p.0)
  first_one (c ∷ l) (inr p) (inl q) = absurd (p.0 q.0)
  first_one (c ∷ l) (inr p) (inr q) = first_one l p.1 q.1

  -- none of the first ones is given: the rest decides, and nothing else does
  pub rest_decides : {m l : List (Clause R)} → NoneBefore m l → (v : A) → FirstOf passes refuses m v → FirstOf passes refuses l v
  unfolding FirstOf
  rest_decides none_yet v f = f
  rest_decides (n nor h) v f = inr (n, rest_decides h v f)

  pub rest_decided : {m l : List (Clause R)} (v : A) → FirstOf passes refuses l v → NoneBefore m l → FirstOf passes refuses m v
  unfolding FirstOf
  rest_decided v f none_yet = f
  rest_decided v (inl p) (n nor h) = absurd (n p.0)
  rest_decided v (inr p) (n nor h) = rest_decided v p.1 h

  -- so a line that is given is the answer where none before it is
  pub given_first : {c : Clause R} {l m : List (Clause R)} → NoneBefore (c ∷ m) l → c.given → FirstOf passes refuses l (refuses c.refusal)
  unfolding FirstOf
  given_first h g = rest_decides h _ (inl (g, refl))

  -- what passes has no line that holds
  pub passed : (c : Clause R) (l : List (Clause R)) → FirstOf passes refuses (c ∷ l) passes → (¬ c.given) × FirstOf passes refuses l passes
  unfolding FirstOf
  passed c l (inl p) = absurd (apart.none (sym p.1))
  passed c l (inr p) = p

  -- so a list passes exactly when none of it is given
  pub passes_none : (l : List (Clause R)) → FirstOf passes refuses l passes ↔ NoneGiven l
  unfolding FirstOf
  passes_none l = (none l, λ h. rest_decides h _ refl)
    where
      none : (l : List (Clause R)) → FirstOf passes refuses l passes → NoneGiven l
      none [] f = none_yet
      none (c ∷ l) f = let p = passed c l f in p.0 nor none l p.1

  -- what the first of two lists refuses, both refuse
  pub refused_before : (l m : List (Clause R)) (r : R) → FirstOf passes refuses l (refuses r) → FirstOf passes refuses (l ++ m) (refuses r)
  unfolding FirstOf
  refused_before [] m r p = absurd (apart.none p)
  refused_before (c ∷ l) m r (inl p) = inl p
  refused_before (c ∷ l) m r (inr p) = inr (p.0, refused_before l m r p.1)

  -- and what both pass, the first passes
  pub passes_front : (l m : List (Clause R)) → FirstOf passes refuses (l ++ m) passes → FirstOf passes refuses l passes
  unfolding FirstOf
  passes_front [] m f = refl
  passes_front (c ∷ l) m f = let p = passed c (l ++ m) f in inr (p.0, passes_front l m p.1)

-- the verdicts of 01: two refusals are two
pub refused_one : {R T : Type 0} {r s : R} → ◌≡◌ {A = Result T R} (Err r) (Err s) → r ≡ s
refused_one e = cc

-- and none of them passes
pub refused_passes : {X R T : Type 0} {r : R} {u : T} → ◌≡◌ {A = Result T R} (Err r) (Ok u) → X
refused_passes e = let z : ◌≡◌ {A = ℕ} 0 1 = cc in absurd (omega arith)

pub verdicts : {R : Type 0} → Verdicts {R = R} {A = Result Unit R} (Ok tt) Err
verdicts = record { one = refused_one; none = refused_passes }
