-- Rows that stay move up: one turn of the loop, its end, and that it is the contraction of the rows.
use mathlib.Core.Path.{◌≡◌, refl, sym, ◌∙◌, ap}
use mathlib.Core.Logic.{ite}
use mathlib.Core.Bool.{Bool, true, false, cond}
use mathlib.Core.List.{List, [], ◌∷◌, ◌++◌, append_assoc, append-nil, map, filter}
use Prim.Native.Nat.{ℕ, suc, ◌+◌, ◌-◌, ◌*◌, ◌≤◌, ◌<◌}
use native.Mathlib.Decide.{ℕ_discrete}
use native.Mathlib.Omega.{arith}
use lib.Dec.{eqb}
use lib.ListN.{length, take, drop, get_or, set, length-append, length-drop}
use lib.Seq.{sets, sets-eq, drop-set-lt, take_at, length-take-le}
use borrow.Author.Tests.{eq-eqb, ne_eqb}
use Rattle.surface.specs.Rows.{Row, row, rows}
use Rattle.surface.specs.Contract.{Holds, at_0, at_1, at_2, Stays, stays?, replace, renumber, contract}
use Rattle.surface.proofs.Flat.{three}
use Rattle.surface.proofs.Renumber.{replace_at, replace_off}
use Rattle.shrink.specs.Flat.{has, swap, leaves, row_after, row_from, after}

drop_sets : (vs l : List ℕ) (j n : ℕ) → j + length vs ≤ n → drop n (sets l j vs) ≡ drop n l
drop_sets [] l j n h = refl
drop_sets (a ∷ vs) l j n h = drop_sets vs (set l j a) (suc j) n (omega arith) ∙ drop-set-lt n l j a (omega arith)

take_sets : (vs l : List ℕ) (j : ℕ) → j + length vs ≤ length l → take (j + length vs) (sets l j vs) ≡ take j l ++ vs
take_sets vs l j h =
    ap (take (j + length vs)) (sets-eq vs l j h)
    ∙ take_at (take j l ++ vs) (drop (j + length vs) l) (j + length vs) (omega (arith, length-append (take j l) vs, length-take-le j l (omega arith)))

pub row_short : (a b : ℕ) (l : List ℕ) (i : ℕ) → length (row_from a b l i) ≤ 3
unfolding row_after
row_short a b l i = go (leaves a b (get_or l i 0) (get_or l (i + 1) 0) (get_or l (i + 2) 0))
  where
    go : (t : Bool) → length (cond t [] (swap a b (get_or l i 0) ∷ swap a b (get_or l (i + 1) 0) ∷ swap a b (get_or l (i + 2) 0) ∷ [])) ≤ 3
    go true = omega arith
    go false = omega arith

module _ (a b : ℕ) (l : List ℕ) (i j : ℕ) (hj : j ≤ i) (h : i + 3 ≤ length l) where
  pub turn : take (j + length (row_from a b l i)) (sets l j (row_from a b l i)) ++ after a b (drop (i + 3) (sets l j (row_from a b l i))) ≡ take j l ++ after a b (drop i l)
  turn =
      ap (λ (p : List ℕ). p ++ after a b (drop (i + 3) (sets l j (row_from a b l i)))) (take_sets (row_from a b l i) l j (omega (arith, row_short a b l i)))
      ∙ ap (λ (p : List ℕ). take j l ++ row_from a b l i ++ after a b p) (drop_sets (row_from a b l i) l j (i + 3) (omega (arith, row_short a b l i)))
      ∙ append_assoc (take j l) (row_from a b l i) (after a b (drop (i + 3) l))
      ∙ ap (λ (p : List ℕ). take j l ++ p) (sym step)
    where
      step : after a b (drop i l) ≡ row_from a b l i ++ after a b (drop (i + 3) l)
      step = unfold after in (rw (three l i h))

pub ended : (a b : ℕ) (l : List ℕ) (i j : ℕ) → length l - i < 3 → take j l ++ after a b (drop i l) ≡ take j l
ended a b l i j h = ap (λ (p : List ℕ). take j l ++ p) (go (drop i l) (omega (arith, length-drop i l))) ∙ append-nil (take j l)
  where
    go : (s : List ℕ) → length s < 3 → after a b s ≡ []
    go [] g = unfold after in refl
    go (x ∷ []) g = unfold after in refl
    go (x ∷ y ∷ []) g = unfold after in refl
    go (x ∷ y ∷ z ∷ s) g = absurd (omega arith)

module _ (a b : ℕ) (l : List ℕ) (i : ℕ) where
  pub row_gone : true ≡ leaves a b (get_or l i 0) (get_or l (i + 1) 0) (get_or l (i + 2) 0) → row_from a b l i ≡ []
  unfolding row_after
  row_gone e = rw (← e)

  pub row_stays : false ≡ leaves a b (get_or l i 0) (get_or l (i + 1) 0) (get_or l (i + 2) 0) → row_from a b l i ≡ swap a b (get_or l i 0) ∷ swap a b (get_or l (i + 1) 0) ∷ swap a b (get_or l (i + 2) 0) ∷ []
  unfolding row_after
  row_stays e = rw (← e)

-- the tests say what the definitions say
has_holds : (a x y z : ℕ) → has a x y z ≡ true → Holds (row x y z) a
unfolding has
has_holds a x y z e = go (ℕ_discrete x a) (ℕ_discrete y a) (ℕ_discrete z a)
  where
    go : Dec (x ≡ a) → Dec (y ≡ a) → Dec (z ≡ a) → Holds (row x y z) a
    go (yes p) d f = at_0 (sym p)
    go (no n) (yes p) f = at_1 (sym p)
    go (no n) (no m) (yes p) = at_2 (sym p)
    go (no n) (no m) (no q) = let k : ◌≡◌ {A = Bool} false true = rw (ne_eqb _ _ n, ne_eqb _ _ m, ne_eqb _ _ q) at e in let u : ◌≡◌ {A = ℕ} 0 1 = cc in absurd (omega arith)

holds_has : (a x y z : ℕ) → has a x y z ≡ false → ¬ Holds (row x y z) a
unfolding has
holds_has a x y z e h = go (ℕ_discrete x a) (ℕ_discrete y a) (ℕ_discrete z a) h
  where
    true_false : ◌≡◌ {A = Bool} true false → ⊥
    true_false k = let u : ◌≡◌ {A = ℕ} 0 1 = cc in omega arith

    go : Dec (x ≡ a) → Dec (y ≡ a) → Dec (z ≡ a) → Holds (row x y z) a → ⊥
    go (yes p) d f h = true_false (rw (eq-eqb _ _ p) at e)
    go (no n) (yes p) f h = true_false (rw (ne_eqb _ _ n, eq-eqb _ _ p) at e)
    go (no n) (no m) (yes p) h = true_false (rw (ne_eqb _ _ n, ne_eqb _ _ m, eq-eqb _ _ p) at e)
    go (no n) (no m) (no q) (at_0 p) = n (sym p)
    go (no n) (no m) (no q) (at_1 p) = m (sym p)
    go (no n) (no m) (no q) (at_2 p) = q (sym p)

pub leaves_not : (a b x y z : ℕ) → leaves a b x y z ≡ true → ¬ Stays a b (row x y z)
leaves_not a b x y z e k = go (has a x y z) refl (has b x y z) refl
  where
    go : (s : Bool) → has a x y z ≡ s → (t : Bool) → has b x y z ≡ t → ⊥
    go true p true q = k (has_holds a x y z p, has_holds b x y z q)
    go true p false q = let w : ◌≡◌ {A = Bool} false true = rw (p, q) at e in let u : ◌≡◌ {A = ℕ} 0 1 = cc in omega arith
    go false p t q = let w : ◌≡◌ {A = Bool} false true = rw p at e in let u : ◌≡◌ {A = ℕ} 0 1 = cc in omega arith

pub not_leaves : (a b x y z : ℕ) → leaves a b x y z ≡ false → Stays a b (row x y z)
not_leaves a b x y z e h = go (has a x y z) refl (has b x y z) refl
  where
    go : (s : Bool) → has a x y z ≡ s → (t : Bool) → has b x y z ≡ t → ⊥
    go true p true q = let w : ◌≡◌ {A = Bool} true false = rw (p, q) at e in let u : ◌≡◌ {A = ℕ} 0 1 = cc in omega arith
    go true p false q = holds_has b x y z q h.1
    go false p t q = holds_has a x y z p h.0

swap_replace : (a b x : ℕ) → swap a b x ≡ replace a b x
unfolding swap
swap_replace a b x = go (ℕ_discrete x b)
  where
    go : Dec (x ≡ b) → cond (eqb x b) a x ≡ replace a b x
    go (yes e) = rw (eq-eqb _ _ e) (sym (replace_at a b e))
    go (no n) = rw (ne_eqb _ _ n) (sym (replace_off a b n))

-- moving up is the contraction of the rows
pub after_rows : (a b : ℕ) (t : List ℕ) → rows (after a b t) ≡ contract a b (rows t)
unfolding rows after row_after contract renumber
after_rows a b [] = refl
after_rows a b (x ∷ []) = refl
after_rows a b (x ∷ y ∷ []) = refl
after_rows a b (x ∷ y ∷ z ∷ t) = go (leaves a b x y z) refl (stays? a b (row x y z)) (after_rows a b t)
  where
    go : (s : Bool) → leaves a b x y z ≡ s → (d : Dec (Stays a b (row x y z))) → rows (after a b t) ≡ contract a b (rows t) →
        rows (cond s [] (swap a b x ∷ swap a b y ∷ swap a b z ∷ []) ++ after a b t) ≡ map (renumber a b) (ite {C = List Row} d (row x y z ∷ filter (stays? a b) (rows t)) (filter (stays? a b) (rows t)))
    go true e (yes k) rec = absurd (leaves_not a b x y z e k)
    go true e (no k) rec = rec
    go false e (yes k) rec = λ i. row (swap_replace a b x i) (swap_replace a b y i) (swap_replace a b z i) ∷ rec i
    go false e (no k) rec = absurd (k (not_leaves a b x y z e))

-- by threes
pub after_threes : (a b : ℕ) (t : List ℕ) → length (after a b t) ≡ 3 * length (rows (after a b t))
unfolding after rows row_after
after_threes a b [] = refl
after_threes a b (x ∷ []) = refl
after_threes a b (x ∷ y ∷ []) = refl
after_threes a b (x ∷ y ∷ z ∷ t) = go (leaves a b x y z) (after_threes a b t)
  where
    go : (s : Bool) → length (after a b t) ≡ 3 * length (rows (after a b t)) →
        length (cond s [] (swap a b x ∷ swap a b y ∷ swap a b z ∷ []) ++ after a b t) ≡ 3 * length (rows (cond s [] (swap a b x ∷ swap a b y ∷ swap a b z ∷ []) ++ after a b t))
    go true h = h
    go false h = omega arith
