-- Boolean tests on lists, with what they say. They serve decisions and worked cases.
use mathlib.Core.Path.{◌≡◌, refl}
use mathlib.Core.Logic.{◌⊎◌, inl, inr}
use mathlib.Core.Bool.{Bool, true, false, ◌&&◌, ◌||◌, not}
use mathlib.Core.List.Memᴰ
use mathlib.Core.List.{List, [], ◌∷◌}
use lib.Dec.{T as So, eqb, eqb→eq, eqb_refl, T_not}
use Rattle.surface.specs.Lists.{◌∈◌, Distinct, none, more}
use Rattle.surface.specs.Table.{Arrow, ◌⇒◌}

pub and_l : (a b : Bool) → So (a && b) → So a
and_l true b h = tt
and_l false b h = h

pub and_r : (a b : Bool) → So (a && b) → So b
and_r true b h = h
and_r false b h = absurd h

pub and_in : (a b : Bool) → So a → So b → So (a && b)
and_in true b h k = k
and_in false b h k = h

pub or_in : (a b : Bool) → So (a || b) → So a ⊎ So b
or_in true b h = inl tt
or_in false b h = inr h

pub or_l : (a b : Bool) → So a → So (a || b)
or_l true b h = tt
or_l false b h = absurd h

pub or_r : (a b : Bool) → So b → So (a || b)
or_r true b h = tt
or_r false b h = h

module _ {A : Type 0} where
  abbrev pub every : (A → Bool) → List A → Bool
  every f [] = true
  every f (a ∷ l) = f a && every f l

  pub every_in : (f : A → Bool) (l : List A) → ((a : A) → a ∈ l → So (f a)) → So (every f l)
  every_in f [] h = tt
  every_in f (z ∷ l) h = and_in (f z) _ (h z (Memᴰ.head refl)) (every_in f l (λ a m. h a (Memᴰ.tail m)))

  pub every_at : (f : A → Bool) (l : List A) → So (every f l) → {a : A} → a ∈ l → So (f a)
  every_at f [] h m = absurd (Memᴰ.not-nil m)
  every_at f (z ∷ l) h {a} m = go (λ m. every_at f l (and_r (f z) _ h) m) (Memᴰ.cases_cons m)
    where
      go : (a ∈ l → So (f a)) → (a ≡ z) ⊎ (a ∈ l) → So (f a)
      go rec (inl e) = rw e (and_l (f z) _ h)
      go rec (inr m) = rec m

  abbrev pub among : (A → A → Bool) → A → List A → Bool
  among eq a [] = false
  among eq a (z ∷ l) = eq a z || among eq a l

  module _ (eq : A → A → Bool) (sound : (a b : A) → So (eq a b) → a ≡ b) (whole : (a : A) → So (eq a a)) where
    pub among_sound : {a : A} (l : List A) → So (among eq a l) → a ∈ l
    among_sound [] h = absurd h
    among_sound {a} (z ∷ l) h = go (λ h. among_sound l h) (or_in (eq a z) _ h)
      where
        go : (So (among eq a l) → a ∈ l) → So (eq a z) ⊎ So (among eq a l) → a ∈ z ∷ l
        go rec (inl h) = Memᴰ.head (sound a z h)
        go rec (inr h) = Memᴰ.tail (rec h)

    pub among_whole : {a : A} (l : List A) → a ∈ l → So (among eq a l)
    among_whole [] m = absurd (Memᴰ.not-nil m)
    among_whole {a} (z ∷ l) m = go (λ m. among_whole l m) (Memᴰ.cases_cons m)
      where
        go : (a ∈ l → So (among eq a l)) → (a ≡ z) ⊎ (a ∈ l) → So (eq a z || among eq a l)
        go rec (inl e) = or_l (eq a z) _ (rw e (whole z))
        go rec (inr m) = or_r (eq a z) _ (rec m)

  abbrev pub differ : (A → A → Bool) → List A → Bool
  differ eq [] = true
  differ eq (a ∷ l) = not (among eq a l) && differ eq l

  pub differ_sound : (eq : A → A → Bool) (sound : (a b : A) → So (eq a b) → a ≡ b) (whole : (a : A) → So (eq a a)) (l : List A) → So (differ eq l) → Distinct l
  differ_sound eq sound whole [] h = none
  differ_sound eq sound whole (a ∷ l) h =
      more (λ m. T_not (among eq a l) (and_l (not (among eq a l)) _ h) (among_whole eq sound whole l m)) (differ_sound eq sound whole l (and_r (not (among eq a l)) _ h))

abbrev pub arrow_eq : Arrow → Arrow → Bool
arrow_eq (p ⇒ q) (s ⇒ t) = eqb p s && eqb q t

pub arrow_sound : (a b : Arrow) → So (arrow_eq a b) → a ≡ b
arrow_sound (p ⇒ q) (s ⇒ t) h =
    let e = eqb→eq p s (and_l (eqb p s) _ h) in
    let k = eqb→eq q t (and_r (eqb p s) _ h) in
    cc

pub arrow_whole : (a : Arrow) → So (arrow_eq a a)
arrow_whole (p ⇒ q) = and_in (eqb p p) (eqb q q) (eqb_refl p) (eqb_refl q)
