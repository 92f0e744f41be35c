-- Past four rows the number of common neighbours decides: an edge meets the condition exactly when there are two.
use mathlib.Core.Path.{◌≡◌, refl, sym}
use mathlib.Core.Logic.{◌⊎◌, inl, inr, ◌↔◌}
use mathlib.Core.List.Memᴰ
use mathlib.Core.List.{List, [], ◌∷◌}
use Prim.Native.Nat.{ℕ, ◌<◌, ◌+◌}
use native.Mathlib.Decide.{ℕ_discrete}
use native.Mathlib.Omega.{arith}
use lib.ListN.{length}
use Rattle.surface.specs.Lists.{◌∈◌, none, more, Exactly}
use Rattle.surface.specs.Rows.{Row}
use Rattle.surface.specs.Table.{Follows, Edge}
use Rattle.surface.specs.Stage.{Stage}
use Rattle.surface.specs.Link.{Meets, Opposite, Common}
use Rattle.surface.specs.Contract.{contract}
use Rattle.surface.proofs.Count.{fits, not_two}
use Rattle.surface.proofs.Once.{turn}
use Rattle.surface.proofs.Following.{re, follows_same}
use Rattle.surface.proofs.Linked.{opposite, not_same}
use Rattle.surface.proofs.Tetrahedron.{tetrahedron}
use Rattle.surface.proofs.Contracted.{two_leave, least'}

-- a row lies on p, q and r
abbrev pub On : List Row → ℕ → ℕ → ℕ → Type 0
On T p q r = Follows T p q r ⊎ Follows T q p r

module _ (n : ℕ) (T : List Row) (s : Stage n T) where
  -- past four rows the common neighbours decide
  pub meets_of_corners : 4 < length T → {p q : ℕ} → Edge T p q → ((w : ℕ) → Edge T p w → Edge T q w → On T p q w) → Meets T p q
  meets_of_corners big {p} {q} e c = record {
    edge = e;
    corner = λ h k. c _ h k;
    no_edge = λ h k. let z : length T ≡ 4 = tetrahedron n T s e.1 (s.both e).1 (λ w i j. which w (c w i j)) h k in omega arith;
  }
    where
      which : (w : ℕ) → On T p q w → (w ≡ e.0) ⊎ (w ≡ (s.both e).0)
      which w (inl f) = inl (follows_same n T s f e.1)
      which w (inr f) = inr (follows_same n T s f (s.both e).1)

module _ (n : ℕ) (T : List Row) (s : Stage n T) {a b : ℕ} where
  pub meets_rows : Meets T a b → 4 < length T
  meets_rows m =
      let o = opposite n T s m in
      let e : length T ≡ 2 + length (contract a b T) = two_leave n T a b o.0 o.1 s o.2 in
      let h = least' n T a b o.0 o.1 s o.2 in
      omega arith

  -- the corner opposite an edge is a common neighbour
  opposite_a : {x : ℕ} → Follows T a b x → Common T a b x
  opposite_a f = (s.both (b, turn (turn f)), (a, turn f))

  opposite_b : {y : ℕ} → Follows T b a y → Common T a b y
  opposite_b f = ((b, turn f), s.both (a, turn (turn f)))

  pub meets_two : Meets T a b → Exactly (Common T a b) 2
  meets_two m = go (opposite n T s m)
    where
      go : ((x : ℕ) × (y : ℕ) × Opposite T a b x y) → Exactly (Common T a b) 2
      go z = record {
        list = z.0 ∷ z.1 ∷ [];
        distinct = more (λ i. z.2.two (Memᴰ.eq_of_singleton i)) (more Memᴰ.not-nil none);
        all = λ c. all _ (z.2.only c.0 c.1);
        only = λ i. only _ (Memᴰ.cases_cons i);
        count = refl;
      }
        where
          all : (w : ℕ) → (w ≡ z.0) ⊎ (w ≡ z.1) → w ∈ z.0 ∷ z.1 ∷ []
          all w (inl e) = Memᴰ.head e
          all w (inr e) = Memᴰ.tail (Memᴰ.head e)

          only : (w : ℕ) → (w ≡ z.0) ⊎ (w ∈ z.1 ∷ []) → Common T a b w
          only w (inl e) = opposite_a (re refl refl (sym e) z.2.left)
          only w (inr i) = opposite_b (re refl refl (sym (Memᴰ.eq_of_singleton i)) z.2.right)

  pub two_meet : 4 < length T → Edge T a b → Exactly (Common T a b) 2 → Meets T a b
  two_meet big e c = meets_of_corners n T s big e (λ w i j. go w i j (ℕ_discrete w x) (ℕ_discrete w y))
    where
      x : ℕ
      x = e.0

      y : ℕ
      y = (s.both e).0

      abx : Follows T a b x
      abx = e.1

      bay : Follows T b a y
      bay = (s.both e).1

      inside : (w : ℕ) → Common T a b w → (u : ℕ) → u ∈ w ∷ x ∷ y ∷ [] → u ∈ c.list
      inside w k u m = at₀ (Memᴰ.cases_cons m)
        where
          at₁ : (u ≡ x) ⊎ (u ∈ y ∷ []) → u ∈ c.list
          at₁ (inl i) = Memᴰ.cast i (c.all (opposite_a abx))
          at₁ (inr i) = Memᴰ.cast (Memᴰ.eq_of_singleton i) (c.all (opposite_b bay))

          at₀ : (u ≡ w) ⊎ (u ∈ x ∷ y ∷ []) → u ∈ c.list
          at₀ (inl i) = Memᴰ.cast i (c.all k)
          at₀ (inr i) = at₁ (Memᴰ.cases_cons i)

      go : (w : ℕ) → Edge T a w → Edge T b w → Dec (w ≡ x) → Dec (w ≡ y) → On T a b w
      go w i j (yes k) d = inl (re refl refl (sym k) abx)
      go w i j (no k) (yes l) = inr (re refl refl (sym l) bay)
      go w i j (no k) (no l) =
          let h = fits (more (not_two k (λ m. l (Memᴰ.eq_of_singleton m))) (more (λ m. not_same n T s abx bay (Memᴰ.eq_of_singleton m)) (more Memᴰ.not-nil none))) c.list (inside w (i, j)) in
          let e = c.count in
          absurd (omega arith)

  pub meets_pairs : Meets T a b ↔ (Edge T a b × (4 < length T) × Exactly (Common T a b) 2)
  meets_pairs = (λ m. (m.edge, meets_rows m, meets_two m), λ t. two_meet t.1 t.0 t.2)
