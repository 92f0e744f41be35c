-- A contraction keeps the Euler number.
use mathlib.Core.Path.{◌≡◌, refl, sym, ◌∙◌, ap}
use mathlib.Core.Logic.{◌≢◌, ◌⊎◌, inl, inr}
use mathlib.Core.List.Memᴰ
use mathlib.Core.List.{List, [], ◌∷◌, ◌++◌, map}
use Prim.Native.Nat.{ℕ, suc, ◌≤◌, ◌<◌, ◌+◌, ◌*◌}
use native.Mathlib.Decide.{ℕ_discrete, dec_lt}
use native.Mathlib.Omega.{arith}
use lib.IntN.{pos, neg_ℤ, ◌+ℤ◌, ◌-ℤ◌, +ℤ_assoc, +ℤ_comm, +ℤ-neg_ℤ_cancel}
use lib.ListN.{length, length-append}
use Rattle.surface.specs.Lists.{◌∈◌, Distinct, none, more, Exactly}
use Rattle.surface.specs.Rows.{Row, row, turn_0}
use Rattle.surface.specs.Table.{Arrow, ◌⇒◌, Follows, Edge, Used, edges}
use Rattle.surface.specs.Stage.{Stage}
use Rattle.surface.specs.Link.{Opposite}
use Rattle.surface.specs.Contract.{replace, contract}
use Rattle.surface.specs.Euler.{Rises, rises, Counts}
use Rattle.surface.proofs.Count.{fits, not_two, length-map}
use Rattle.surface.proofs.Once.{turn, edge_in, in_edge}
use Rattle.surface.proofs.Renumber.{replace_at, replace_off, replace_same, Source, source}
use Rattle.surface.proofs.Contracted.{contracted, two_leave, edge_kept, from_a}
use Rattle.surface.proofs.Following.{re_edge}
use Rattle.surface.proofs.Linked.{not_same}

-- equal differences of whole numbers
pub difference_same : (a b c d : ℕ) → a + d ≡ c + b → pos a -ℤ pos b ≡ pos c -ℤ pos d
difference_same a b c d e =
    ap (λ z. z -ℤ pos b) (sym (+ℤ-neg_ℤ_cancel (pos a) (pos d)) ∙ ap (λ m. pos m -ℤ pos d) e)
    ∙ +ℤ_assoc (pos c +ℤ pos b) (neg_ℤ (pos d)) (neg_ℤ (pos b))
    ∙ ap (λ z. pos c +ℤ pos b +ℤ z) (+ℤ_comm (neg_ℤ (pos d)) (neg_ℤ (pos b)))
    ∙ sym (+ℤ_assoc (pos c +ℤ pos b) (neg_ℤ (pos b)) (neg_ℤ (pos d)))
    ∙ ap (λ z. z -ℤ pos d) (+ℤ-neg_ℤ_cancel (pos c) (pos b))

-- a number of things is one number
pub one_count : {A : Type 0} {P : A → Type 0} {k m : ℕ} → Exactly P k → Exactly P m → k ≡ m
one_count e h =
    let up = fits e.distinct h.list (λ a m. h.all (e.only m)) in
    let down = fits h.distinct e.list (λ a m. e.all (h.only m)) in
    let c = e.count in
    let d = h.count in
    omega arith

pub distinct_append : {A : Type 0} {l m : List A} → Distinct l → Distinct m → ((a : A) → a ∈ l → ¬ (a ∈ m)) → Distinct (l ++ m)
distinct_append none d h = d
distinct_append {m = m} (more {a = a} {l = l} n k) d h =
    more {a = a} {l = l ++ m} (λ i. elim (Memᴰ.append_cases l i) [ inl j ↦ n j | inr j ↦ h a (Memᴰ.head refl) j ])
    (distinct_append k d (λ z i. h z (Memᴰ.tail i)))

pub distinct_map : {A B : Type 0} (f : A → B) → ((a b : A) → f a ≡ f b → a ≡ b) → {l : List A} → Distinct l → Distinct (map f l)
distinct_map f inj none = none
distinct_map f inj (more {a = a} {l = l} n d) =
    more (λ m. let r = Memᴰ.of_map f l m in n (Memᴰ.cast (inj a r.0 (sym r.2)) r.1)) (distinct_map f inj d)

back : Arrow → Arrow
back (p ⇒ q) = q ⇒ p

back_back : (a : Arrow) → back (back a) ≡ a
unfolding back
back_back (p ⇒ q) = refl

length_edges : (T : List Row) → length (edges T) ≡ 3 * length T
unfolding edges
length_edges [] = refl
length_edges (row i j k ∷ T) = let h = length_edges T in omega arith

-- every row has three edges, and every edge two rows
module _ (n : ℕ) (T : List Row) (s : Stage n T) {e : ℕ} (h : Exactly (Rises T) e) where
  pub two_rows : 2 * e ≡ 3 * length T
  unfolding back
  two_rows =
      let up = fits whole (edges T) (λ a m. edge_of a (Memᴰ.append_cases ups m)) in
      let down = fits s.once (ups ++ downs) (λ a m. place a m) in
      let c = length-append ups downs in
      let d = length-map back ups in
      let c₁ = h.count in
      let c₂ = length_edges T in
      omega arith
    where
      ups : List Arrow
      ups = h.list

      downs : List Arrow
      downs = map back ups

      -- the two ways of an edge do not both rise
      steep : (a : Arrow) → Rises T a → ¬ Rises T (back a)
      steep (p ⇒ q) (rises l _) (rises m _) = omega arith

      unback : (a b : Arrow) → back a ≡ back b → a ≡ b
      unback a b k = sym (back_back a) ∙ ap back k ∙ back_back b

      whole : Distinct (ups ++ downs)
      whole = distinct_append h.distinct (distinct_map back unback h.distinct)
          (λ a m k. let r = Memᴰ.of_map back ups k in steep r.0 (h.only r.1) (rw (sym r.2) at (h.only m)))

      edge_up : (a : Arrow) → Rises T a → a ∈ edges T
      edge_up (p ⇒ q) (rises _ k) = edge_in k

      edge_down : (a : Arrow) → Rises T a → back a ∈ edges T
      edge_down (p ⇒ q) (rises _ k) = edge_in (s.both k)

      edge_of : (a : Arrow) → (a ∈ ups) ⊎ (a ∈ downs) → a ∈ edges T
      edge_of a (inl m) = edge_up a (h.only m)
      edge_of a (inr m) = let r = Memᴰ.of_map back ups m in Memᴰ.cast (sym r.2) (edge_down r.0 (h.only r.1))

      place : (a : Arrow) → a ∈ edges T → a ∈ ups ++ downs
      place (p ⇒ q) m = go (dec_lt p q)
        where
          k : Edge T p q
          k = in_edge T m

          go : Dec (p < q) → (p ⇒ q) ∈ ups ++ downs
          go (yes l) = Memᴰ.append_left downs (h.all (rises l k))
          go (no l) =
              let ne : p ≢ q = s.apart k.1 in
              let l₂ : q < p = omega arith in
              Memᴰ.append_right ups (Memᴰ.map back (h.all (rises l₂ (s.both k))))

module _ (n : ℕ) (T : List Row) (a b x y : ℕ) (s : Stage n T) (o : Opposite T a b x y) where
  -- b is not used any more, and every other corner still is
  pub used_old : {v : ℕ} → Used (contract a b T) v → Used T v × (v ≢ b)
  used_old {v} u = go (ℕ_discrete c.v b)
    where
      c : Source a b T v u.0 u.1.0
      c = source a b u.1.1

      go : Dec (c.v ≡ b) → Used T v × (v ≢ b)
      go (yes e) =
          let k : a ≡ v = sym (replace_at a b e) ∙ c.on_v in
          ((b, re_edge k refl (x, o.left)), λ m. s.apart o.left (k ∙ m))
      go (no ne) =
          let k : c.v ≡ v = sym (replace_off a b ne) ∙ c.on_v in
          ((c.p, re_edge k refl (c.q, c.was)), λ m. ne (k ∙ m))

  pub used_new : {v : ℕ} → Used T v → v ≢ b → Used (contract a b T) v
  used_new {v} u nb = go (edge_kept n T a b x y s o u.1)
    where
      still : (v ≡ u.0) ⊎ (((v ≡ a) × (u.0 ≡ b)) ⊎ ((v ≡ b) × (u.0 ≡ a))) → Used (contract a b T) v
      still (inl e) = absurd (s.apart u.1.1 e)
      still (inr (inl e)) = (y, re_edge (sym e.0) refl (from_a n T a b x y s o (b, turn o.right) (s.apart (turn (turn o.right)))))
      still (inr (inr e)) = absurd (nb e.0)

      go : (replace a b v ≡ replace a b u.0) ⊎ Edge (contract a b T) (replace a b v) (replace a b u.0) → Used (contract a b T) v
      go (inl e) = still (replace_same a b e)
      go (inr e) = (replace a b u.0, re_edge (replace_off a b nb) refl e)

  pub one_corner : {v v' : ℕ} → Exactly (Used T) v → Exactly (Used (contract a b T)) v' → v ≡ suc v'
  one_corner e h =
      let up = fits all e.list (λ c m. old c (Memᴰ.cases_cons m)) in
      let down = fits e.distinct (b ∷ h.list) (λ c m. new c (e.only m)) in
      let c₁ = e.count in
      let c₂ = h.count in
      omega arith
    where
      all : Distinct (b ∷ h.list)
      all = more (λ m. (used_old (h.only m)).1 refl) h.distinct

      old : (c : ℕ) → (c ≡ b) ⊎ (c ∈ h.list) → c ∈ e.list
      old c (inl k) = Memᴰ.cast k (e.all (a, (y, o.right)))
      old c (inr m) = e.all (used_old (h.only m)).0

      new : (c : ℕ) → Used T c → c ∈ b ∷ h.list
      new c u = go (ℕ_discrete c b)
        where
          go : Dec (c ≡ b) → c ∈ b ∷ h.list
          go (yes k) = Memᴰ.head k
          go (no k) = Memᴰ.tail (h.all (used_new u k))

  -- one corner, three edges and two rows go: corners - edges + rows is kept
  pub euler : {v e v' e' : ℕ} → Counts T v e → Counts (contract a b T) v' e' →
      (v ≡ v' + 1) × (e ≡ e' + 3) × (length T ≡ length (contract a b T) + 2) × (v + length T + e' ≡ v' + length (contract a b T) + e)
  euler c d =
      let h₁ = one_corner c.corners d.corners in
      let h₂ = two_rows n T s c.sides in
      let h₃ = two_rows n (contract a b T) (contracted n T a b x y s o) d.sides in
      let h₄ : length T ≡ 2 + length (contract a b T) = two_leave n T a b x y s o in
      (omega arith, omega arith, omega arith, omega arith)

-- an edge's two ends and the two corners opposite it are four used corners
pub four : (n : ℕ) (T : List Row) → Stage n T → {v : ℕ} → Exactly (Used T) v → 4 ≤ v
four n T s {v} c = go T refl
  where
    count : (a b x y : ℕ) → Follows T a b x → Follows T b a y → 4 ≤ v
    count a b x y f g =
        let h = fits (more {a = a} {l = b ∷ x ∷ y ∷ []} not_a (more {a = b} {l = x ∷ y ∷ []} not_b (more {a = x} {l = y ∷ []} not_x (more Memᴰ.not-nil none)))) c.list inside in
        let e = c.count in
        omega arith
      where
        not_x : ¬ (x ∈ y ∷ [])
        not_x m = not_same n T s f g (Memᴰ.eq_of_singleton m)

        not_b : ¬ (b ∈ x ∷ y ∷ [])
        not_b = not_two (s.apart (turn f)) (λ m. s.apart (turn (turn g)) (sym (Memᴰ.eq_of_singleton m)))

        not_a : ¬ (a ∈ b ∷ x ∷ y ∷ [])
        not_a = not_two (s.apart f) (not_two (λ e. s.apart (turn (turn f)) (sym e)) (λ m. s.apart (turn g) (Memᴰ.eq_of_singleton m)))

        in₂ : (u : ℕ) → (u ≡ x) ⊎ (u ∈ y ∷ []) → u ∈ c.list
        in₂ u (inl e) = Memᴰ.cast e (c.all (a, (b, turn (turn f))))
        in₂ u (inr m) = Memᴰ.cast (Memᴰ.eq_of_singleton m) (c.all (b, (a, turn (turn g))))

        in₁ : (u : ℕ) → (u ≡ b) ⊎ (u ∈ x ∷ y ∷ []) → u ∈ c.list
        in₁ u (inl e) = Memᴰ.cast e (c.all (a, (y, g)))
        in₁ u (inr m) = in₂ u (Memᴰ.cases_cons m)

        in₀ : (u : ℕ) → (u ≡ a) ⊎ (u ∈ b ∷ x ∷ y ∷ []) → u ∈ c.list
        in₀ u (inl e) = Memᴰ.cast e (c.all (b, (x, f)))
        in₀ u (inr m) = in₁ u (Memᴰ.cases_cons m)

        inside : (u : ℕ) → u ∈ a ∷ b ∷ x ∷ y ∷ [] → u ∈ c.list
        inside u m = in₀ u (Memᴰ.cases_cons m)

    go : (U : List Row) → T ≡ U → 4 ≤ v
    go [] e = let l = s.least in let k = ap length e in absurd (omega arith)
    go (row i j k ∷ U) e =
        let f : Follows T i j k = record { by = row i j k; here = rw e (Memᴰ.head refl); turned = turn_0 refl } in
        let g = s.both (k, f) in
        count i j k g.0 f g.1
