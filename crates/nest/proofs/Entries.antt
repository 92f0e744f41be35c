-- Entries by their numbers, and what is kept of them.
use mathlib.Core.Path.{◌≡◌, refl, sym, ◌∙◌, ap, subst}
use mathlib.Core.List.{List, [], ◌∷◌, map}
use Prim.Native.Nat.{ℕ, zero, suc, ◌<◌}
use native.Mathlib.Omega.{arith}
use native.Mathlib.Decide.{ℕ_discrete}
use borrow.Author.Tests.{ne_eqb}
use mathlib.Core.Bool.{true}
use lib.IntN.{pos}
use lib.ListN.{length, get_or}
use Rattle.std.specs.Option.{option_eq}
use Rattle.std.specs.Prelude.{Option, Some, None, nat_eq}
use Rattle.jobform.specs.declared.Entry.{Entry}
use Rattle.refusal.proofs.Tells.{true_false}
use Rattle.nest.specs.Questions.{At, Every, NameGood, Named}
use Rattle.nest.specs.Net.{names, told_sum}
use Rattle.nest.specs.Inner.{Earlier, told_name, named_in}

pub at_get : {A : Type 0} (f : Entry → A) (d : A) (es : List Entry) (i : ℕ) (e : Entry) → At es i e → get_or (map f es) i d ≡ f e
at_get f d [] i e a = absurd a
at_get f d (x ∷ es) zero e a = ap f a
at_get f d (x ∷ es) (suc i) e a = at_get f d es i e a

pub at_below : (es : List Entry) (i : ℕ) (e : Entry) → At es i e → i < length es
at_below [] i e a = absurd a
at_below (x ∷ es) zero e a = omega arith
at_below (x ∷ es) (suc i) e a = let h = at_below es i e a in omega arith

pub at_one : (es : List Entry) (i : ℕ) (e d : Entry) → At es i e → At es i d → e ≡ d
at_one [] i e d a b = absurd a
at_one (x ∷ es) zero e d a b = sym a ∙ b
at_one (x ∷ es) (suc i) e d a b = at_one es i e d a b

-- there is one for every number below the count
pub record Found (es : List Entry) (i : ℕ) : Type 0 where
  pub e : Entry
  pub here : At es i e

pub found : (es : List Entry) (i : ℕ) → i < length es → Found es i
found [] i h = absurd (omega arith)
found (x ∷ es) zero h = record { e = x; here = refl }
found (x ∷ es) (suc i) h = let f = found es i (omega arith) in record { e = f.e; here = f.here }

-- what the code reads at a place, and past the end
abbrev pub nobody : Entry
nobody = record { letter = 0; name = None; sum = pos 0 }

abbrev pub read : List Entry → ℕ → Entry
read es i = get_or es i nobody

-- at its place it is the entry
pub here : (es : List Entry) (i : ℕ) → i < length es → At es i (read es i)
here [] i h = absurd (omega arith)
here (x ∷ es) zero h = refl
here (x ∷ es) (suc i) h = here es i (omega arith)

-- and what the lines there tell
read_as : {A : Type 0} (f : Entry → A) (es : List Entry) (i : ℕ) → get_or (map f es) i (f nobody) ≡ f (read es i)
read_as f [] i = refl
read_as f (x ∷ es) zero = refl
read_as f (x ∷ es) (suc i) = read_as f es i

pub sum_read : (es : List Entry) (i : ℕ) → told_sum es i ≡ (read es i).sum
sum_read es i = read_as (λ d. d.sum) es i

-- ---- names

same_test : (i : ℕ) (n : Option ℕ) → names i n ≡ option_eq nat_eq n (Some i)
same_test i None = refl
same_test i (Some j) = refl

-- the test of the code
pub named_read : (es : List Entry) (i k : ℕ) → named_in es i k ≡ option_eq nat_eq (read es k).name (Some i)
named_read es i k = ap (names i) (read_as (λ d. d.name) es k) ∙ same_test i (read es k).name

pub name_at : (es : List Entry) (i : ℕ) (e : Entry) → At es i e → told_name es i ≡ e.name
name_at es i e a = at_get (λ d. d.name) None es i e a

pub names_is : (i : ℕ) (n : Option ℕ) → names i n ≡ true → n ≡ Some i
names_is i None h = absurd (true_false h refl)
names_is i (Some j) h = go (ℕ_discrete j i)
  where
    go : Dec (j ≡ i) → Some j ≡ Some i
    go (yes e) = ap Some e
    go (no n) = absurd (true_false h (ne_eqb j i n))

-- the entry that one stands in, where each names an earlier one or none
pub stands_earlier : (es : List Entry) → Earlier es → (i j : ℕ) → i < length es → (read es i).name ≡ Some j → j < i
stands_earlier es early i j h n = early i j (read es i) (here es i h) n

-- a good name is that of an earlier entry
pub earlier : (es : List Entry) → Every Named es → Earlier es
earlier es named i j e a n = go i (subst (NameGood i) n (named i e a))
  where
    go : (i : ℕ) → NameGood i (Some j) → j < i
    go zero g = absurd g
    go (suc i) g = g
