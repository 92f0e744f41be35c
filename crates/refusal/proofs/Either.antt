-- The lesser of two verdicts is the first that holds of either.
use mathlib.Core.Path.{◌≡◌, refl, sym, ◌∙◌, ap}
use mathlib.Core.Logic.{◌⊎◌, inl, inr}
use mathlib.Core.List.{[], ◌∷◌}
use Prim.Native.Nat.{ℕ, ◌<◌, ◌≤◌}
use native.Mathlib.Decide.{dec_lt}
use native.Mathlib.Omega.{arith}
use borrow.Author.Tests.{lt-ltb, le-ltb}
use Rattle.std.specs.Prelude.{Ok, Err, Result}
use Rattle.refusal.specs.declared.Refusal.{Refusal}
use Rattle.refusal.specs.Number.{number}
use Rattle.refusal.specs.First.{FirstOf, Refusals, First}
use Rattle.refusal.proofs.Laws.{refused_passes}
use Rattle.refusal.specs.Lesser.{either}
use Rattle.refusal.specs.Inner.{lesser_of, Rising}

pub lesser_left : (a b : Refusal) → number a ≤ number b → lesser_of (Err a) (Err b) ≡ Err a
unfolding lesser_of
lesser_left a b h = rw (le-ltb (number b) (number a) h)

pub lesser_right : (a b : Refusal) → number b < number a → lesser_of (Err a) (Err b) ≡ Err b
unfolding lesser_of
lesser_right a b h = rw (lt-ltb (number b) (number a) h)

-- passing both is passing
pub lesser_passes : (v w : Result Unit Refusal) → lesser_of v w ≡ Ok tt → (v ≡ Ok tt) × (w ≡ Ok tt)
unfolding lesser_of
lesser_passes (Ok tt) w e = (refl, e)
lesser_passes (Err a) (Ok tt) e = refused_passes e
lesser_passes (Err a) (Err b) e = go (dec_lt (number b) (number a))
  where
    go : Dec (number b < number a) → (◌≡◌ {A = Result Unit Refusal} (Err a) (Ok tt)) × (◌≡◌ {A = Result Unit Refusal} (Err b) (Ok tt))
    go (yes h) = refused_passes (sym (lesser_right a b h) ∙ e)
    go (no h) = refused_passes (sym (lesser_left a b (omega arith)) ∙ e)

-- v passes, or its number is above k
data Above (k : ℕ) (v : Result Unit Refusal) : Type 0 where
  passes : v ≡ Ok tt → Above k v
  later : {b : Refusal} → v ≡ Err b → k < number b → Above k v

above_less : {j k : ℕ} {v : Result Unit Refusal} → j < k → Above k v → Above j v
above_less h (passes e) = passes e
above_less h (later e l) = later e (omega arith)

above_left : {a : Refusal} {v w : Result Unit Refusal} → v ≡ Err a → Above (number a) w → lesser_of v w ≡ Err a
unfolding lesser_of
above_left e (passes f) = rw (e, f)
above_left {a} e (later {b = b} f l) = rw (e, f) (lesser_left a b (omega arith))

above_right : {a : Refusal} {v w : Result Unit Refusal} → w ≡ Err a → Above (number a) v → lesser_of v w ≡ Err a
unfolding lesser_of
above_right e (passes f) = rw (e, f)
above_right {a} e (later {b = b} f l) = rw (e, f) (lesser_right b a l)

first_above : (k : ℕ) (l m : Refusals) {v : Result Unit Refusal} → Rising k l m → First l v → Above k v
unfolding FirstOf Rising
first_above k [] [] r f = passes f
first_above k [] (d ∷ m) r f = absurd r
first_above k (c ∷ l) [] r f = absurd r
first_above k (c ∷ l) (d ∷ m) r (inl p) = later p.1 r.0
first_above k (c ∷ l) (d ∷ m) r (inr p) = above_less r.0 (first_above (number c.refusal) l m r.2 p.1)

rising_back : (k : ℕ) (l m : Refusals) → Rising k l m → Rising k m l
unfolding Rising
rising_back k [] [] r = r
rising_back k [] (d ∷ m) r = r
rising_back k (c ∷ l) [] r = r
rising_back k (c ∷ l) (d ∷ m) r = (rw (sym r.1) r.0, sym r.1, rw (sym r.1) (rising_back (number c.refusal) l m r.2))

-- of two verdicts the one with the lesser number is the first that holds of either
pub lesser_first : (k : ℕ) (l m : Refusals) → Rising k l m → (v w : Result Unit Refusal) → First l v → First m w → First (either l m) (lesser_of v w)
unfolding FirstOf Rising either lesser_of
lesser_first k [] [] r v w f g = rw (f, g)
lesser_first k [] (d ∷ m) r v w f g = absurd r
lesser_first k (c ∷ l) [] r v w f g = absurd r
lesser_first k (c ∷ l) (d ∷ m) r v w (inl f) (inl g) = inl (inl f.0, rw (f.1, g.1, sym r.1) (lesser_left c.refusal c.refusal (omega arith)))
lesser_first k (c ∷ l) (d ∷ m) r v w (inl f) (inr g) =
    inl (inl f.0, above_left f.1 (first_above (number c.refusal) m l (rising_back (number c.refusal) l m r.2) g.1))
lesser_first k (c ∷ l) (d ∷ m) r v w (inr f) (inl g) = inl (inr g.0, above_right (g.1 ∙ ap Err (sym r.1)) (first_above (number c.refusal) l m r.2 f.1))
lesser_first k (c ∷ l) (d ∷ m) r v w (inr f) (inr g) = inr (λ h. go h, lesser_first (number c.refusal) l m r.2 v w f.1 g.1)
  where
    go : (c.given ⊎ d.given) → ⊥
    go (inl h) = f.0 h
    go (inr h) = g.0 h
