-- What a contraction does to one row, and to the rows of a table.
use mathlib.Core.Path.{◌≡◌, refl, sym, ap}
use mathlib.Core.Logic.{◌≢◌, ◌⊎◌, inl, inr, ite}
use mathlib.Core.List.Memᴰ
use mathlib.Core.List.{List, [], ◌∷◌, filter}
use Prim.Native.Nat.{ℕ}
use native.Mathlib.Decide.{ℕ_discrete}
use Rattle.surface.specs.Lists.{◌∈◌}
use Rattle.surface.specs.Rows.{Row, row, Turned, turn_0, turn_1, turn_2}
use Rattle.surface.specs.Table.{Follows}
use Rattle.surface.specs.Contract.{Holds, at_0, at_1, at_2, Stays, stays?, replace, renumber, contract}

-- a sieve keeps what passes
module _ {A : Type 0} {p : A → Type 0} (d : (a : A) → Dec (p a)) where
  pub filter_in : {r : A} (l : List A) → r ∈ l → p r → r ∈ filter d l
  filter_in [] m h = absurd (Memᴰ.not-nil m)
  filter_in {r} (z ∷ l) m h = go (d z) (λ m. filter_in l m h) (Memᴰ.cases_cons m)
    where
      go : (e : Dec (p z)) → (r ∈ l → r ∈ filter d l) → (r ≡ z) ⊎ (r ∈ l) → r ∈ ite {C = List A} e (z ∷ filter d l) (filter d l)
      go (yes k) rec (inl e) = Memᴰ.head e
      go (yes k) rec (inr m) = Memᴰ.tail (rec m)
      go (no k) rec (inl e) = absurd (k (rw e at h))
      go (no k) rec (inr m) = rec m

  pub filter_out : {r : A} (l : List A) → r ∈ filter d l → (r ∈ l) × p r
  filter_out [] m = absurd (Memᴰ.not-nil m)
  filter_out {r} (z ∷ l) m = go (d z) (λ m. filter_out l m) m
    where
      up : (r ∈ l) × p r → (r ∈ z ∷ l) × p r
      up t = (Memᴰ.tail t.0, t.1)

      first : p z → (r ∈ filter d l → (r ∈ l) × p r) → (r ≡ z) ⊎ (r ∈ filter d l) → (r ∈ z ∷ l) × p r
      first k rec (inl e) = (Memᴰ.head e, rw e k)
      first k rec (inr m) = up (rec m)

      go : (e : Dec (p z)) → (r ∈ filter d l → (r ∈ l) × p r) → r ∈ ite {C = List A} e (z ∷ filter d l) (filter d l) → (r ∈ z ∷ l) × p r
      go (yes k) rec m = first k rec (Memᴰ.cases_cons m)
      go (no k) rec m = up (rec m)

pub turn_row : {i j k c : ℕ} → Holds (row i j k) c → Holds (row k i j) c
turn_row (at_0 e) = at_1 e
turn_row (at_1 e) = at_2 e
turn_row (at_2 e) = at_0 e

pub holds_turned : {r : Row} {v p q c : ℕ} → Turned r v p q → Holds r c → Holds (row v p q) c
holds_turned (turn_0 e) h = rw e at h
holds_turned (turn_1 e) h = turn_row (rw e at h)
holds_turned (turn_2 e) h = turn_row (turn_row (rw e at h))

pub turned_holds : {r : Row} {v p q c : ℕ} → Turned r v p q → Holds (row v p q) c → Holds r c
turned_holds (turn_0 e) h = rw e h
turned_holds (turn_1 e) h = rw e (turn_row (turn_row h))
turned_holds (turn_2 e) h = rw e (turn_row h)

module _ (a b : ℕ) where
  pub replace_at : {c : ℕ} → c ≡ b → replace a b c ≡ a
  unfolding replace
  replace_at {c} h = go (ℕ_discrete c b)
    where
      go : (d : Dec (c ≡ b)) → ite {C = ℕ} d a c ≡ a
      go (yes e) = refl
      go (no n) = absurd (n h)

  pub replace_off : {c : ℕ} → c ≢ b → replace a b c ≡ c
  unfolding replace
  replace_off {c} h = go (ℕ_discrete c b)
    where
      go : (d : Dec (c ≡ b)) → ite {C = ℕ} d a c ≡ c
      go (yes e) = absurd (h e)
      go (no n) = refl

  -- two numbers with one image are the same, or a and b
  pub replace_same : {c d : ℕ} → replace a b c ≡ replace a b d → (c ≡ d) ⊎ (((c ≡ a) × (d ≡ b)) ⊎ ((c ≡ b) × (d ≡ a)))
  replace_same {c} {d} h = go (ℕ_discrete c b) (ℕ_discrete d b)
    where
      go : Dec (c ≡ b) → Dec (d ≡ b) → (c ≡ d) ⊎ (((c ≡ a) × (d ≡ b)) ⊎ ((c ≡ b) × (d ≡ a)))
      go (yes e) (yes k) = inl (cc)
      go (yes e) (no k) = inr (inr (e, cc (replace_at e, replace_off k)))
      go (no e) (yes k) = inr (inl (cc (replace_off e, replace_at k), k))
      go (no e) (no k) = inl (cc (replace_off e, replace_off k))

  -- a row that stays has its image in the contracted table
  pub keep : {T : List Row} {v p q : ℕ} → Follows T v p q → Stays a b (row v p q) → Follows (contract a b T) (replace a b v) (replace a b p) (replace a b q)
  unfolding contract renumber
  keep {T} {v} {p} {q} f k = record {
    by = renumber a b f.by;
    here = Memᴰ.map (renumber a b) (filter_in (stays? a b) T f.here (λ h. k (holds_turned f.turned h.0, holds_turned f.turned h.1)));
    turned = go f.turned;
  }
    where
      go : Turned f.by v p q → Turned (renumber a b f.by) (replace a b v) (replace a b p) (replace a b q)
      go (turn_0 e) = turn_0 (ap (renumber a b) e)
      go (turn_1 e) = turn_1 (ap (renumber a b) e)
      go (turn_2 e) = turn_2 (ap (renumber a b) e)

  -- where a row of the contracted table came from
  pub record Came (r : Row) (v' p' q' : ℕ) : Type 0 where
    pub v : ℕ
    pub p : ℕ
    pub q : ℕ
    pub was : Turned r v p q
    pub on_v : replace a b v ≡ v'
    pub on_p : replace a b p ≡ p'
    pub on_q : replace a b q ≡ q'

  pub came : (r : Row) {v p q : ℕ} → Turned (renumber a b r) v p q → Came r v p q
  unfolding renumber
  came (row i j k) (turn_0 e) = record { v = i; p = j; q = k; was = turn_0 refl; on_v = cc; on_p = cc; on_q = cc }
  came (row i j k) (turn_1 e) = record { v = k; p = i; q = j; was = turn_1 refl; on_v = cc; on_p = cc; on_q = cc }
  came (row i j k) (turn_2 e) = record { v = j; p = k; q = i; was = turn_2 refl; on_v = cc; on_p = cc; on_q = cc }

  pub record Source (T : List Row) (v' p' q' : ℕ) : Type 0 where
    pub v : ℕ
    pub p : ℕ
    pub q : ℕ
    pub was : Follows T v p q
    pub stays : Stays a b (row v p q)
    pub on_v : replace a b v ≡ v'
    pub on_p : replace a b p ≡ p'
    pub on_q : replace a b q ≡ q'

  pub stays_turned : {r : Row} {v p q : ℕ} → Turned r v p q → Stays a b r → Stays a b (row v p q)
  stays_turned t k h = k (turned_holds t h.0, turned_holds t h.1)

  pub source : {T : List Row} {v p q : ℕ} → Follows (contract a b T) v p q → Source T v p q
  unfolding contract
  source {T} {v} {p} {q} f =
      let m = Memᴰ.of_map (renumber a b) (filter (stays? a b) T) f.here in
      let k = filter_out (stays? a b) T m.1 in
      let c = came m.0 (rw (sym m.2) at f.turned) in
      record {
        v = c.v;
        p = c.p;
        q = c.q;
        was = record { by = m.0; here = k.0; turned = c.was };
        stays = stays_turned c.was k.1;
        on_v = c.on_v;
        on_p = c.on_p;
        on_q = c.on_q;
      }
