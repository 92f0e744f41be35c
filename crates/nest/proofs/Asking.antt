-- The questions asked of one entry: why each answer is right.
use mathlib.Core.Path.{◌≡◌, refl, ◌∙◌, ap, subst}
use mathlib.Core.Bool.{Bool, false, not}
use mathlib.Core.List.{List}
use Prim.Native.Nat.{ℕ, suc, ◌+◌, ◌≤◌, ◌<◌}
use native.Mathlib.Omega.{arith}
use native.Mathlib.Decide.{dec_lt}
use borrow.Author.Tests.{eq-eqb, ne_eqb, le-leb, lt-leb}
use denote.Enum.Bare.{sameb}
use lib.Dec.{leb}
use lib.ListN.{length}
use Rattle.std.specs.Prelude.{Some, None}
use Rattle.refusal.specs.InnerTells.{Tells}
use Rattle.refusal.proofs.Tells.{tells_true, tells_false}
use Rattle.jobform.specs.declared.Entry.{Entry}
use Rattle.nest.specs.declared.Kind.{Kind}
use Rattle.nest.specs.contracts.Kind.{the_type}
use Rattle.nest.specs.declared.Kind.TheVariants.{Void, Solid, Other}
use Rattle.nest.specs.Questions.{void_letter, solid_letter, kind_of_lem, kind, At, Every, Alternates, Deep, top, below, Shallow}
use Rattle.nest.specs.Limits.{most_depth}
use Rattle.nest.specs.Inner.{Answered}
use Rattle.nest.proofs.Entries.{at_below, at_one, found}

-- ---- kinds

pub marks_void : (b : ℕ) → b ≡ void_letter → Void ≡ kind_of_lem b
marks_void b e = rw (eq-eqb b void_letter e)

pub marks_solid : (b : ℕ) → (b ≡ void_letter → ⊥) → b ≡ solid_letter → Solid ≡ kind_of_lem b
marks_solid b n e = rw (ne_eqb b void_letter n, eq-eqb b solid_letter e)

pub marks_other : (b : ℕ) → (b ≡ void_letter → ⊥) → (b ≡ solid_letter → ⊥) → Other ≡ kind_of_lem b
marks_other b n m = rw (ne_eqb b void_letter n, ne_eqb b solid_letter m)

pub kinds_apart : (a b : Kind) → Tells (not (sameb the_type a b)) (¬ (a ≡ b)) (a ≡ b)
kinds_apart Void Void = tells_false refl
kinds_apart Void Solid = tells_true (λ e. cc)
kinds_apart Void Other = tells_true (λ e. cc)
kinds_apart Solid Void = tells_true (λ e. cc)
kinds_apart Solid Solid = tells_false refl
kinds_apart Solid Other = tells_true (λ e. cc)
kinds_apart Other Void = tells_true (λ e. cc)
kinds_apart Other Solid = tells_true (λ e. cc)
kinds_apart Other Other = tells_false refl

-- ---- one entry asked

-- what is told of the entry that is read is told of entry i
pub answered : (P : List Entry → ℕ → Entry → Type 0) (es : List Entry) (i : ℕ) (e : Entry) → At es i e → (r : Bool) → Tells r (P es i e) (¬ P es i e) → Answered P i es r
answered P es i e a r told d b = subst (λ x. Tells r (P es i x) (¬ P es i x)) (at_one es i e d a b) told

-- yes and no twice
pub no_no : {r : Bool} {X : Type 0} → Tells r (¬ X) X → Tells r (¬ X) (¬ ¬ X)
no_no told = record { when_true = told.when_true; when_false = λ t n. n (told.when_false t) }

module _ (es : List Entry) (i : ℕ) (e : Entry) where
  pub alternates_none : e.name ≡ None → Alternates es i e
  alternates_none n j f m c = absurd cc

  pub alternates_some : (j : ℕ) → e.name ≡ Some j → (f : Entry) → At es j f → (r : Bool) → Tells r (¬ (kind e ≡ kind f)) (kind e ≡ kind f) → Tells r (Alternates es i e) (¬ Alternates es i e)
  alternates_some j name f there r told = record {
    when_true = λ t k g m c h.
        let other : k ≡ j = cc in
        told.when_true t (h ∙ ap kind (at_one es j g f (subst (λ (x : ℕ). At es x g) other c) there));
    when_false = λ t every. every j f name there (told.when_false t);
  }

-- ---- depth

pub deep_below : {es : List Entry} {i j r : ℕ} (e : Entry) → At es i e → e.name ≡ Some j → Deep es j r → Deep es i (r + 1)
deep_below {es} {i} {j} {r} e a n p = let f : suc r ≡ r + 1 = omega arith in subst (λ (x : ℕ). Deep es i x) f (below e a n p)

-- an entry stands at one depth
pub deep_one : {es : List Entry} {i d d' : ℕ} → Deep es i d → Deep es i d' → d ≡ d'
deep_one (top e a n) (top e' b m) = refl
deep_one {es} {i} (top e a n) (below e' b m q) = let same = at_one es i e e' a b in absurd cc
deep_one {es} {i} (below e a n p) (top e' b m) = let same = at_one es i e e' a b in absurd cc
deep_one {es} {i} (below {j = j} e a n p) (below {j = k} {d = d} e' b m q) =
    let same = at_one es i e e' a b in
    let one : k ≡ j = cc in
    ap suc (deep_one p (subst (λ (x : ℕ). Deep es x d) one q))

-- ---- no more than the most

pub at_most : (n most : ℕ) → Tells (leb n most) (n ≤ most) (¬ (n ≤ most))
at_most n most = go (dec_lt most n)
  where
    go : Dec (most < n) → Tells (leb n most) (n ≤ most) (¬ (n ≤ most))
    go (yes h) = rw (lt-leb n most h) (tells_false (λ k. omega arith))
    go (no h) = rw (le-leb n most (omega arith)) (tells_true (omega arith))

pub shallow_told : {es : List Entry} {i n : ℕ} (e : Entry) → Deep es i n → Tells (leb n most_depth) (Shallow es i e) (¬ Shallow es i e)
shallow_told {n = n} e deep =
    let told = at_most n most_depth in
    record {
      when_true = λ t d q. rw (deep_one q deep) (told.when_true t);
      when_false = λ t every. told.when_false t (every n deep);
    }

-- ---- every entry asked

-- the first i entries answer well
abbrev pub FirstAnswer : (List Entry → ℕ → Entry → Type 0) → List Entry → ℕ → Type 0
FirstAnswer P es i = (j : ℕ) (e : Entry) → j < i → At es j e → P es j e

module _ (P : List Entry → ℕ → Entry → Type 0) {es : List Entry} where
  pub one_fails : {i : ℕ} → i < length es → (r : Bool) → r ≡ false → Answered P i es r → ¬ Every P es
  one_fails {i} inside r not_there told every = let f = found es i inside in (told f.e f.here).when_false not_there (every i f.e f.here)

  pub all_answer : {i : ℕ} → FirstAnswer P es i → length es ≤ i → Every P es
  all_answer {i} first whole j e a = first j e (omega (arith, at_below es j e a)) a
