-- The corners between y and x, found by walking.
use mathlib.Core.Path.{◌≡◌, refl, sym, ◌∙◌, ap, ap₂}
use mathlib.Core.Logic.{◌≢◌, ◌⊎◌, inl, inr}
use mathlib.Core.List.Memᴰ
use mathlib.Core.List.{List, [], ◌∷◌, map}
use Prim.Native.Nat.{ℕ, suc, ◌≤◌}
use native.Mathlib.Decide.{ℕ_discrete}
use native.Mathlib.Omega.{arith}
use lib.ListN.{length}
use Rattle.surface.specs.Lists.{◌∈◌, Distinct, none, more, Reach, stay, step}
use Rattle.surface.specs.Rows.{Row}
use Rattle.surface.specs.Table.{Follows, Edge}
use Rattle.surface.proofs.Once.{Once, Apart, follows_one}
use Rattle.surface.proofs.Count.{fits, length-map}
use Rattle.surface.proofs.Round.{round, round_whole, source_of}
use Rattle.growth.specs.Grow.{Between}

module _ (T : List Row) (o : Once T) (d : Apart T) (a x : ℕ) where
  -- the walk from p ends at x, and passes l on the way
  pub data Walks : ℕ → List ℕ → Type 0 where
    ends : {p : ℕ} → p ≡ x → Walks p []
    goes : {p q : ℕ} {l : List ℕ} → p ≢ x → Follows T a p q → Walks q l → Walks p (p ∷ l)

  -- where x is reached, there is a walk
  pub walks : {p q : ℕ} → q ≡ x → Reach (Follows T a) p q → (l : List ℕ) × Walks p l
  walks eq (stay e) = ([], ends (e ∙ eq))
  walks eq (step {p = p} {t = t} r c) = go (ℕ_discrete p x) (walks eq c)
    where
      go : Dec (p ≡ x) → (l : List ℕ) × Walks t l → (l : List ℕ) × Walks p l
      go (yes e) w = ([], ends e)
      go (no n) w = (p ∷ w.0, goes n r w.1)

  pub walks_one : {p p' : ℕ} {l m : List ℕ} → p ≡ p' → Walks p l → Walks p' m → l ≡ m
  walks_one e (ends h) (ends k) = refl
  walks_one e (ends h) (goes n f w) = absurd (n (sym e ∙ h))
  walks_one e (goes n f w) (ends k) = absurd (n (e ∙ k))
  walks_one e (goes n f w) (goes n' f' w') = ap₂ (λ z l. z ∷ l) e (walks_one (follows_one o d (rw e at f) f') w w')

  -- what is passed is what lies between
  pub passed : {y : ℕ} {l : List ℕ} → Walks y l → {p : ℕ} → p ∈ l → Between T a x y p
  passed (ends e) m = absurd (Memᴰ.not-nil m)
  passed (goes {p = y} {q = q} {l = l} n f w) {p} m = go (Memᴰ.cases_cons m) (λ m. passed w m)
    where
      go : (p ≡ y) ⊎ (p ∈ l) → (p ∈ l → Between T a x q p) → Between T a x y p
      go (inl e) rec = record { on = stay (sym e); short = λ k. n (sym e ∙ k) }
      go (inr m) rec = let b = rec m in record { on = step (f, n) b.on; short = b.short }

  abbrev pub On : ℕ → ℕ → Type 0
  On s t = Follows T a s t × (s ≢ x)

  pub all_passed : {y : ℕ} {l : List ℕ} {p : ℕ} → Reach On y p → p ≢ x → Walks y l → p ∈ l
  all_passed (stay e) np (ends h) = absurd (np (sym e ∙ h))
  all_passed (stay e) np (goes n f w) = Memᴰ.head (sym e)
  all_passed (step r c) np (ends h) = absurd (r.1 h)
  all_passed (step r c) np (goes n f w) = Memᴰ.tail (all_passed (rw (follows_one o d r.0 f) at c) np w)

  -- no corner is passed twice, so that the walk is no longer than the ring
  rest : {y : ℕ} {l : List ℕ} → Walks y l → {p : ℕ} → p ∈ l → (m : List ℕ) × Walks p m × (length m ≤ length l)
  rest (ends e) m = absurd (Memᴰ.not-nil m)
  rest (goes {p = y} {l = l} n f w) {p} m = go (Memᴰ.cases_cons m) (λ m. rest w m)
    where
      go : (p ≡ y) ⊎ (p ∈ l) → (p ∈ l → (m : List ℕ) × Walks p m × (length m ≤ length l)) → (m : List ℕ) × Walks p m × (length m ≤ suc (length l))
      go (inl e) rec = (y ∷ l, rw e (goes n f w), omega arith)
      go (inr m) rec = let r = rec m in let h = r.2 in (r.0, r.1, omega arith)

  pub no_repeat : {y : ℕ} {l : List ℕ} → Walks y l → Distinct l
  no_repeat (ends e) = none
  no_repeat (goes {p = y} {l = l} n f w) = more (λ m. again (rest w m)) (no_repeat w)
    where
      again : (m : List ℕ) × Walks y m × (length m ≤ length l) → ⊥
      again r =
          let e = walks_one refl (goes n f w) r.1 in
          let k : suc (length l) ≡ length r.0 = ap length e in
          let h = r.2 in
          omega arith

  w_edge : {y : ℕ} {l : List ℕ} → Walks y l → {p : ℕ} → p ∈ l → Edge T a p
  w_edge (ends e) m = absurd (Memᴰ.not-nil m)
  w_edge (goes {p = y} {q = q} {l = l} n f w) {p} m = go (Memᴰ.cases_cons m) (λ m. w_edge w m)
    where
      go : (p ≡ y) ⊎ (p ∈ l) → (p ∈ l → Edge T a p) → Edge T a p
      go (inl e) rec = (q, rw (sym e) at f)
      go (inr m) rec = rec m

  pub walk_length : {y : ℕ} {l : List ℕ} → Walks y l → length l ≤ length (round a T)
  walk_length {y} {l} w =
      let h = fits (no_repeat w) (map source_of (round a T)) (λ p m. near p (w_edge w m)) in
      let k = length-map source_of (round a T) in
      omega arith
    where
      near : (p : ℕ) → Edge T a p → p ∈ map source_of (round a T)
      near p e = Memᴰ.map source_of (round_whole T e.1)
