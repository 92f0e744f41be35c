-- Rows put in at their places: what the table then holds, and what a contraction makes of it.
use mathlib.Core.Path.{◌≡◌, refl, sym, ◌∙◌, ap}
use mathlib.Core.Logic.{◌⊎◌, inl, inr, ite}
use mathlib.Core.List.Memᴰ
use mathlib.Core.List.{List, [], ◌∷◌, map}
use Prim.Native.Nat.{ℕ, zero, suc, ◌≤◌, ◌<◌}
use native.Mathlib.Omega.{arith}
use lib.ListN.{length}
use Rattle.surface.specs.Lists.{◌∈◌}
use Rattle.surface.specs.Rows.{Row, Turned}
use Rattle.surface.specs.Table.{Follows, Edge}
use Rattle.surface.specs.Contract.{Stays, stays?, replace, renumber, contract}
use Rattle.surface.specs.Record.{Placed, at, later, leaving}
use Rattle.surface.proofs.Once.{Once, once_none, once_more, follows_head, follows_tail}
use Rattle.surface.proofs.Leaving.{contract_cons_stays, contract_cons_leaves}
use Rattle.growth.specs.Grow.{put}
use Rattle.growth.proofs.Growing.{turned_map}

pub put_in : (i : ℕ) (z : Row) (T : List Row) {r : Row} → r ∈ T → r ∈ put i z T
unfolding put
put_in zero z T m = Memᴰ.tail m
put_in (suc i) z [] m = absurd (Memᴰ.not-nil m)
put_in (suc i) z (t ∷ T) {r} m = go (λ m. put_in i z T m) (Memᴰ.cases_cons m)
  where
    go : (r ∈ T → r ∈ put i z T) → (r ≡ t) ⊎ (r ∈ T) → r ∈ t ∷ put i z T
    go rec (inl e) = Memᴰ.head e
    go rec (inr m) = Memᴰ.tail (rec m)

pub put_new : (i : ℕ) (z : Row) (T : List Row) → z ∈ put i z T
unfolding put
put_new zero z T = Memᴰ.head refl
put_new (suc i) z [] = Memᴰ.head refl
put_new (suc i) z (t ∷ T) = Memᴰ.tail (put_new i z T)

pub put_out : (i : ℕ) (z : Row) (T : List Row) {r : Row} → r ∈ put i z T → (r ≡ z) ⊎ (r ∈ T)
unfolding put
put_out zero z T m = Memᴰ.cases_cons m
put_out (suc i) z [] m = Memᴰ.cases_cons m
put_out (suc i) z (t ∷ T) {r} m = go (λ m. put_out i z T m) (Memᴰ.cases_cons m)
  where
    up : (r ≡ z) ⊎ (r ∈ T) → (r ≡ z) ⊎ (r ∈ t ∷ T)
    up (inl e) = inl e
    up (inr m) = inr (Memᴰ.tail m)

    go : (r ∈ put i z T → (r ≡ z) ⊎ (r ∈ T)) → (r ≡ t) ⊎ (r ∈ put i z T) → (r ≡ z) ⊎ (r ∈ t ∷ T)
    go rec (inl e) = inr (Memᴰ.head e)
    go rec (inr m) = up (rec m)

pub put_length : (i : ℕ) (z : Row) (T : List Row) → length (put i z T) ≡ suc (length T)
unfolding put
put_length zero z T = refl
put_length (suc i) z [] = refl
put_length (suc i) z (t ∷ T) = ap suc (put_length i z T)

pub follows_put : (i : ℕ) (z : Row) (T : List Row) {v p q : ℕ} → Follows (put i z T) v p q → Turned z v p q ⊎ Follows T v p q
follows_put i z T {v} {p} {q} f = go (put_out i z T f.here)
  where
    go : (f.by ≡ z) ⊎ (f.by ∈ T) → Turned z v p q ⊎ Follows T v p q
    go (inl e) = inl (rw e at f.turned)
    go (inr m) = inr (record { by = f.by; here = m; turned = f.turned })

pub once_put : (i : ℕ) (z : Row) (T : List Row) → ((v p q : ℕ) → Turned z v p q → ¬ Edge T v p) → Once T → Once (put i z T)
unfolding put
once_put zero z T new o = once_more new o
once_put (suc i) z [] new o = once_more new o
once_put (suc i) z (t ∷ T) new (once_more new' o) =
    once_more (λ v p q u e. go v p q u e.0 (follows_put i z T e.1))
    (once_put i z T (λ v p q u e. new v p q u (e.0, follows_tail e.1)) o)
  where
    go : (v p q : ℕ) → Turned t v p q → (w : ℕ) → Turned z v p w ⊎ Follows T v p w → ⊥
    go v p q u w (inl k) = new v p w k (q, follows_head u)
    go v p q u w (inr f) = new' v p q u (w, f)

pub once_unmap : (a b : ℕ) (W : List Row) → Once (map (renumber a b) W) → Once W
once_unmap a b [] o = once_none
once_unmap a b (r ∷ W) (once_more new o) = once_more (λ v p q t e. new _ _ _ (turned_map a b t) (replace a b e.0, image e.1)) (once_unmap a b W o)
  where
    image : {v p q : ℕ} → Follows W v p q → Follows (map (renumber a b) W) (replace a b v) (replace a b p) (replace a b q)
    image f = record { by = renumber a b f.by; here = Memᴰ.map (renumber a b) f.here; turned = turned_map a b f.turned }

module _ (a b : ℕ) where
  pub contract_put : (i : ℕ) (z : Row) (T : List Row) → ¬ Stays a b z → contract a b (put i z T) ≡ contract a b T
  unfolding put
  contract_put zero z T n = contract_cons_leaves a b z T n
  contract_put (suc i) z [] n = contract_cons_leaves a b z [] n
  contract_put (suc i) z (t ∷ T) n = go (stays? a b t) (contract_put i z T n)
    where
      go : Dec (Stays a b t) → contract a b (put i z T) ≡ contract a b T → contract a b (t ∷ put i z T) ≡ contract a b (t ∷ T)
      go (yes k) rec = contract_cons_stays a b t (put i z T) k ∙ ap (λ l. renumber a b t ∷ l) rec ∙ sym (contract_cons_stays a b t T k)
      go (no k) rec = contract_cons_leaves a b t (put i z T) k ∙ rec ∙ sym (contract_cons_leaves a b t T k)

  pub contract_all : (T : List Row) → ((r : Row) → r ∈ T → Stays a b r) → contract a b T ≡ map (renumber a b) T
  unfolding contract
  contract_all [] k = refl
  contract_all (t ∷ T) k =
      contract_cons_stays a b t T (k t (Memᴰ.head refl)) ∙ ap (λ l. renumber a b t ∷ l) (contract_all T (λ r m. k r (Memᴰ.tail m)))

  leaving_stays : (r : Row) (T : List Row) → Stays a b r → leaving a b (r ∷ T) ≡ map later (leaving a b T)
  unfolding leaving
  leaving_stays r T k = go (stays? a b r)
    where
      go : (d : Dec (Stays a b r)) → ite {C = List Placed} d (map later (leaving a b T)) (at zero r ∷ map later (leaving a b T)) ≡ map later (leaving a b T)
      go (yes h) = refl
      go (no h) = absurd (h k)

  leaving_leaves : (r : Row) (T : List Row) → ¬ Stays a b r → leaving a b (r ∷ T) ≡ at zero r ∷ map later (leaving a b T)
  unfolding leaving
  leaving_leaves r T k = go (stays? a b r)
    where
      go : (d : Dec (Stays a b r)) → ite {C = List Placed} d (map later (leaving a b T)) (at zero r ∷ map later (leaving a b T)) ≡ at zero r ∷ map later (leaving a b T)
      go (yes h) = absurd (k h)
      go (no h) = refl

  pub leaving_none : (T : List Row) → ((r : Row) → r ∈ T → Stays a b r) → leaving a b T ≡ []
  unfolding leaving
  leaving_none [] k = refl
  leaving_none (t ∷ T) k = leaving_stays t T (k t (Memᴰ.head refl)) ∙ ap (map later) (leaving_none T (λ r m. k r (Memᴰ.tail m)))

  pub leaving_one : (i : ℕ) (z : Row) (T : List Row) → ((r : Row) → r ∈ T → Stays a b r) → ¬ Stays a b z → i ≤ length T → leaving a b (put i z T) ≡ at i z ∷ []
  unfolding put later
  leaving_one zero z T k n h = leaving_leaves z T n ∙ ap (λ l. at zero z ∷ map later l) (leaving_none T k)
  leaving_one (suc i) z [] k n h = absurd (omega arith)
  leaving_one (suc i) z (t ∷ T) k n h =
      leaving_stays t (put i z T) (k t (Memᴰ.head refl)) ∙ ap (map later) (leaving_one i z T (λ r m. k r (Memᴰ.tail m)) n (omega arith))

  -- two rows that leave, put in among rows that stay, are those that leave
  pub leaving_two : (i j : ℕ) (z w : Row) (T : List Row) → ((r : Row) → r ∈ T → Stays a b r) → ¬ Stays a b z → ¬ Stays a b w → i < j → j ≤ suc (length T) →
      leaving a b (put j w (put i z T)) ≡ at i z ∷ at j w ∷ []
  unfolding put later
  leaving_two i zero z w T k n m l h = absurd (omega arith)
  leaving_two zero (suc j) z w T k n m l h = leaving_leaves z (put j w T) n ∙ ap (λ l. at zero z ∷ map later l) (leaving_one j w T k m (omega arith))
  leaving_two (suc i) (suc j) z w [] k n m l h = absurd (omega arith)
  leaving_two (suc i) (suc j) z w (t ∷ T) k n m l h =
      leaving_stays t (put j w (put i z T)) (k t (Memᴰ.head refl)) ∙ ap (map later) (leaving_two i j z w T (λ r m. k r (Memᴰ.tail m)) n m (omega arith) (omega arith))
