-- Growing back as a function that computes: walk from y forward to x, put the removed number on the rows passed, put the two rows in.
use mathlib.Core.Path.{◌≡◌, refl, sym, ◌∙◌, ap}
use mathlib.Core.Logic.{◌≢◌, ◌⊎◌, inl, inr, ite}
use mathlib.Core.Bool.{Bool, true, false, ◌&&◌, ◌||◌, cond}
use mathlib.Core.List.Memᴰ
use mathlib.Core.List.{List, [], ◌∷◌, map}
use Prim.Native.Nat.{ℕ, zero, suc, ◌≤◌}
use native.Mathlib.Decide.{ℕ_discrete}
use native.Mathlib.Omega.{arith}
use lib.ListN.{length}
use lib.Dec.{T as So, eqb, eqb→eq, eqb_refl}
use Rattle.surface.specs.Lists.{◌∈◌}
use Rattle.surface.specs.Rows.{Row, row, Turned, turn_0, turn_1, turn_2}
use Rattle.surface.specs.Table.{Arrow, ◌⇒◌, Follows, Edge}
use Rattle.surface.specs.Stage.{Stage}
use Rattle.surface.specs.Contract.{renumber}
use Rattle.surface.specs.Record.{Placed}
use Rattle.surface.proofs.Once.{turn, Once, once_of_distinct}
use Rattle.surface.proofs.Following.{follows_same as one}
use Rattle.surface.proofs.Testing.{among, among_sound, among_whole, and_l, and_r, and_in, or_in, or_l, or_r}
use Rattle.surface.proofs.Round.{round, round_sound, round_whole}
use Rattle.growth.specs.Grow.{put_back, Between, RowRegrown, renamed, left_be, Each, each_none, each_more, Grown}
use Rattle.growth.proofs.Fan.{Walks, ends, goes, walks, walks_one, passed, all_passed, walk_length}

-- what follows p, or else d
abbrev pub onward : List Arrow → ℕ → ℕ → ℕ
onward [] p d = d
onward ((s ⇒ t) ∷ l) p d = ite {C = ℕ} (ℕ_discrete s p) t (onward l p d)

abbrev pub walk : ℕ → List Arrow → ℕ → ℕ → List ℕ
walk zero l x p = []
walk (suc k) l x p = ite {C = List ℕ} (ℕ_discrete p x) [] (p ∷ walk k l x (onward l p x))

-- the corners from y forward to x round a, without x
abbrev pub fan : List Row → ℕ → ℕ → ℕ → List ℕ
fan T a x y = walk (length (round a T)) (round a T) x y

-- the corner after a in the row is among l
abbrev pub changes : ℕ → List ℕ → Row → Bool
changes a l (row i j k) = (eqb i a && among eqb j l) || ((eqb j a && among eqb k l) || (eqb k a && among eqb i l))

abbrev pub regrow : ℕ → ℕ → List ℕ → Row → Row
regrow a b l r = cond (changes a l r) (renumber b a r) r

unfoldable pub grow_back_lem : ℕ → ℕ → ℕ → ℕ → List Placed → List Row → List Row
grow_back_lem a b x y l T = put_back l (map (regrow a b (fan T a x y)) T)

onward_is : {p q : ℕ} (d : ℕ) (l : List Arrow) → ((t : ℕ) → (p ⇒ t) ∈ l → t ≡ q) → (p ⇒ q) ∈ l → onward l p d ≡ q
onward_is d [] only m = absurd (Memᴰ.not-nil m)
onward_is {p} {q} d ((s ⇒ t) ∷ l) only m = go (ℕ_discrete s p) (Memᴰ.cases_cons m) (λ m. onward_is d l (λ t m. only t (Memᴰ.tail m)) m)
  where
    go : (e : Dec (s ≡ p)) → ((p ⇒ q) ≡ (s ⇒ t)) ⊎ ((p ⇒ q) ∈ l) → ((p ⇒ q) ∈ l → onward l p d ≡ q) → ite {C = ℕ} e t (onward l p d) ≡ q
    go (yes e) k rec = only t (Memᴰ.head (cc))
    go (no n) (inl k) rec = absurd (n (cc))
    go (no n) (inr k) rec = rec k

pub changes_sound : (a : ℕ) (l : List ℕ) (r : Row) → So (changes a l r) → (p : ℕ) × (q : ℕ) × Turned r a p q × (p ∈ l)
changes_sound a l (row i j k) h = go (or_in (eqb i a && among eqb j l) _ h)
  where
    Out : Type 0
    Out = (p : ℕ) × (q : ℕ) × Turned (row i j k) a p q × (p ∈ l)

    in_l : (p : ℕ) → So (among eqb p l) → p ∈ l
    in_l p h = among_sound eqb eqb→eq eqb_refl l h

    go₂ : So (eqb j a && among eqb k l) ⊎ So (eqb k a && among eqb i l) → Out
    go₂ (inl h) = let e = eqb→eq j a (and_l (eqb j a) _ h) in (k, i, turn_2 (cc), in_l k (and_r (eqb j a) _ h))
    go₂ (inr h) = let e = eqb→eq k a (and_l (eqb k a) _ h) in (i, j, turn_1 (cc), in_l i (and_r (eqb k a) _ h))

    go : So (eqb i a && among eqb j l) ⊎ So ((eqb j a && among eqb k l) || (eqb k a && among eqb i l)) → Out
    go (inl h) = let e = eqb→eq i a (and_l (eqb i a) _ h) in (j, k, turn_0 (cc), in_l j (and_r (eqb i a) _ h))
    go (inr h) = go₂ (or_in (eqb j a && among eqb k l) _ h)

pub changes_whole : (a : ℕ) (l : List ℕ) (r : Row) {p q : ℕ} → Turned r a p q → p ∈ l → So (changes a l r)
changes_whole a l (row i j k) {p} {q} t m = go t
  where
    eq : (i : ℕ) → i ≡ a → So (eqb i a)
    eq i e = rw e (eqb_refl a)

    in_l : (i : ℕ) → i ≡ p → So (among eqb i l)
    in_l i e = rw e (among_whole eqb eqb→eq eqb_refl l m)

    go : Turned (row i j k) a p q → So (changes a l (row i j k))
    go (turn_0 e) = or_l (eqb i a && among eqb j l) _ (and_in (eqb i a) _ (eq i (cc)) (in_l j (cc)))
    go (turn_1 e) = or_r (eqb i a && among eqb j l) _ (or_r (eqb j a && among eqb k l) _ (and_in (eqb k a) _ (eq k (cc)) (in_l i (cc))))
    go (turn_2 e) = or_r (eqb i a && among eqb j l) _ (or_l (eqb j a && among eqb k l) _ (and_in (eqb j a) _ (eq j (cc)) (in_l k (cc))))

module _ (n : ℕ) (T : List Row) (s : Stage n T) (a b x y : ℕ) (at_x : Edge T a x) (at_y : Edge T a y) where
  abbrev o : Once T
  o = once_of_distinct T s.once

  walk_is : {p : ℕ} {l : List ℕ} → Walks T o (λ v p q f. s.apart f) a x p l → (k : ℕ) → length l ≤ k → walk k (round a T) x p ≡ l
  walk_is (ends e) zero h = refl
  walk_is {p} (ends e) (suc k) h = go (ℕ_discrete p x)
    where
      go : (d : Dec (p ≡ x)) → ite {C = List ℕ} d [] (p ∷ walk k (round a T) x (onward (round a T) p x)) ≡ []
      go (yes i) = refl
      go (no m) = absurd (m e)
  walk_is (goes m f w) zero h = absurd (omega arith)
  walk_is (goes {p = p} {q = q} {l = l} m f w) (suc k) h = go (walk_is w k (omega arith)) (ℕ_discrete p x)
    where
      on : onward (round a T) p x ≡ q
      on = onward_is x (round a T) (λ t i. one n T s (round_sound T i) f) (round_whole T f)

      go : walk k (round a T) x q ≡ l → (d : Dec (p ≡ x)) → ite {C = List ℕ} d [] (p ∷ walk k (round a T) x (onward (round a T) p x)) ≡ p ∷ l
      go rec (yes i) = absurd (m i)
      go rec (no i) = ap (λ z. p ∷ z) (ap (walk k (round a T) x) on ∙ rec)

  way : (l : List ℕ) × Walks T o (λ v p q f. s.apart f) a x y l
  way = walks T o (λ v p q f. s.apart f) a x refl (s.ring at_y at_x)

  fan_is : fan T a x y ≡ way.0
  fan_is = walk_is way.1 (length (round a T)) (walk_length T o (λ v p q f. s.apart f) a x way.1)

  -- the fan has just the corners between
  pub fan_sound : {p : ℕ} → p ∈ fan T a x y → Between T a x y p
  fan_sound m = passed T o (λ v p q f. s.apart f) a x way.1 (rw fan_is at m)

  pub fan_whole : {p : ℕ} → Between T a x y p → p ∈ fan T a x y
  fan_whole h = rw fan_is (all_passed T o (λ v p q f. s.apart f) a x h.on h.short way.1)

  regrows : (r : Row) → RowRegrown T a b x y r (regrow a b (fan T a x y) r)
  regrows r = go (changes a (fan T a x y) r) (λ h. changes_sound a (fan T a x y) r h) (λ p q t m. changes_whole a (fan T a x y) r t m)
    where
      go : (c : Bool) → (So c → (p : ℕ) × (q : ℕ) × Turned r a p q × (p ∈ fan T a x y)) → ((p q : ℕ) → Turned r a p q → p ∈ fan T a x y → So c) → RowRegrown T a b x y r (cond c (renumber b a r) r)
      go true f g = let w = f tt in renamed w.2 (fan_sound w.3) refl
      go false f g = left_be (λ p q t k. g p q t (fan_whole k)) refl

  each_row : (W : List Row) → Each (RowRegrown T a b x y) W (map (regrow a b (fan T a x y)) W)
  each_row [] = each_none
  each_row (r ∷ W) = each_more (regrows r) (each_row W)

  -- the function makes what growing back is said to make
  pub grow_back_grown : (l : List Placed) → Grown a b x y l T (grow_back_lem a b x y l T)
  unfolding grow_back_lem
  grow_back_grown l = record { middle = map (regrow a b (fan T a x y)) T; each = each_row T; whole = refl }

-- the fan, a corner at a time: it goes on by what follows
module _ (n : ℕ) (T : List Row) (s : Stage n T) (a b x : ℕ) (at_x : Edge T a x) where
  pub fan_step : {p q : ℕ} → p ≢ x → Follows T a p q → fan T a x p ≡ p ∷ fan T a x q
  fan_step {p} {q} m f =
      fan_is n T s a b x p at_x (q, f)
      ∙ walks_one T (once_of_distinct T s.once) (λ v p q f. s.apart f) a x refl (way n T s a b x p at_x (q, f)).1 (goes m f (way n T s a b x q at_x on).1)
      ∙ ap (λ l. p ∷ l) (sym (fan_is n T s a b x q at_x on))
    where
      on : Edge T a q
      on = s.both (p, turn (turn f))
