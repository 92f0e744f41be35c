-- Growing back undoes a contraction.
use mathlib.Core.Path.{◌≡◌, refl, sym, ◌∙◌, ap, ap₂}
use mathlib.Core.Logic.{◌≢◌, ◌⊎◌, inl, inr, ite}
use mathlib.Core.List.Memᴰ
use mathlib.Core.List.{List, [], ◌∷◌, map, filter}
use Prim.Native.Nat.{ℕ, zero}
use native.Mathlib.Decide.{ℕ_discrete}
use Rattle.surface.specs.Lists.{◌∈◌, Reach}
use Rattle.surface.specs.Rows.{Row, row, Turned, turn_0, turn_1, turn_2}
use Rattle.surface.specs.Table.{Follows, Edge}
use Rattle.surface.specs.Stage.{Stage}
use Rattle.surface.specs.Link.{Meets, Opposite}
use Rattle.surface.specs.Contract.{Holds, at_0, at_1, at_2, holds?, Stays, stays?, replace, renumber, contract}
use Rattle.surface.specs.Record.{Placed, at, later, leaving}
use Rattle.surface.proofs.Reaching.{one_step, carry, within, Past, after}
use Rattle.surface.proofs.Once.{turn}
use Rattle.surface.proofs.Renumber.{filter_out, replace_at, replace_off, stays_turned}
use Rattle.surface.proofs.Contracted.{one, on_b, Whence, whence, round_a, round_b}
use Rattle.surface.proofs.Following.{re}
use Rattle.surface.proofs.Linked.{opposite}
use Rattle.surface.proofs.Leaving.{leaving_in, leaving_out}
use Rattle.growth.specs.Grow.{put, put_back, Between, RowRegrown, renamed, left_be, Each, each_none, each_more, Grown}

put_later : (l : List Placed) (z : Row) (S : List Row) → put_back (map later l) (z ∷ S) ≡ z ∷ put_back l S
unfolding put_back later put
put_later [] z S = refl
put_later (at i r ∷ l) z S = put_later l z (put i r S)

-- the rows that leave, put back at their places among those that stay, are the table
pub put_all : (a b : ℕ) (T : List Row) → put_back (leaving a b T) (filter (stays? a b) T) ≡ T
unfolding put_back leaving put
put_all a b [] = refl
put_all a b (r ∷ T) = go (stays? a b r) (put_all a b T)
  where
    go : (d : Dec (Stays a b r)) → put_back (leaving a b T) (filter (stays? a b) T) ≡ T →
        put_back (ite {C = List Placed} d (map later (leaving a b T)) (at zero r ∷ map later (leaving a b T)))
        (ite {C = List Row} d (r ∷ filter (stays? a b) T) (filter (stays? a b) T)) ≡ r ∷ T
    go (yes k) rec = put_later (leaving a b T) r (filter (stays? a b) T) ∙ ap (λ l. r ∷ l) rec
    go (no k) rec = put_later (leaving a b T) r (filter (stays? a b) T) ∙ ap (λ l. r ∷ l) rec

-- a row that holds c can be turned to begin with it
pub turn_to : {r : Row} {c : ℕ} → Holds r c → (p : ℕ) × (q : ℕ) × Turned r c p q
turn_to (at_0 {i = i} {j = j} {k = k} e) = (j, k, turn_0 (cc))
turn_to (at_1 {i = i} {j = j} {k = k} e) = (k, i, turn_2 (cc))
turn_to (at_2 {i = i} {j = j} {k = k} e) = (i, j, turn_1 (cc))

pub renumber_off : (a b : ℕ) (r : Row) → ¬ Holds r b → renumber a b r ≡ r
unfolding renumber
renumber_off a b (row i j k) n =
    cc (replace_off a b {c = i} (λ e. n (at_0 (sym e))), replace_off a b {c = j} (λ e. n (at_1 (sym e))), replace_off a b {c = k} (λ e. n (at_2 (sym e))))

replace_back : (a b c : ℕ) → c ≢ a → replace b a (replace a b c) ≡ c
replace_back a b c n = go (ℕ_discrete c b)
  where
    go : Dec (c ≡ b) → replace b a (replace a b c) ≡ c
    go (yes e) = replace_at b a (replace_at a b e) ∙ sym e
    go (no k) = rw (replace_off a b k) (replace_off b a n)

pub renumber_back : (a b : ℕ) (r : Row) → ¬ Holds r a → renumber b a (renumber a b r) ≡ r
unfolding renumber
renumber_back a b (row i j k) n =
    cc (replace_back a b i (λ e. n (at_0 (sym e))), replace_back a b j (λ e. n (at_1 (sym e))), replace_back a b k (λ e. n (at_2 (sym e))))

pub re_turned : {r : Row} {v p q v' p' q' : ℕ} → v ≡ v' → p ≡ p' → q ≡ q' → Turned r v p q → Turned r v' p' q'
re_turned ev ep eq t = rw eq at (rw ep at (rw ev at t))

pub turned_map : (a b : ℕ) {r : Row} {v p q : ℕ} → Turned r v p q → Turned (renumber a b r) (replace a b v) (replace a b p) (replace a b q)
unfolding renumber
turned_map a b (turn_0 e) = turn_0 (ap (renumber a b) e)
turned_map a b (turn_1 e) = turn_1 (ap (renumber a b) e)
turned_map a b (turn_2 e) = turn_2 (ap (renumber a b) e)

module _ (n : ℕ) (T : List Row) (a b x y : ℕ) (s : Stage n T) (o : Opposite T a b x y) where
  the : {v p q q' : ℕ} → Follows T v p q → Follows T v p q' → q ≡ q'
  the f g = one n T a b x y s o f g

  -- a row of the contracted table, read round a, came from b exactly where it lies between y and x
  of_b : {p q : ℕ} → Follows T b p q → Stays a b (row b p q) → Between (contract a b T) a x y p
  of_b {p} {q} f k = record { on = go (after a {x = y} (λ t g. the g o.right) p≢a (s.ring (y, o.right) (q, f))); short = λ e. k (at_2 (the (turn o.left) (re refl e refl f)), at_0 refl) }
    where
      p≢a : p ≢ a
      p≢a e = k (at_1 (sym e), at_0 refl)

      S : ℕ → ℕ → Type 0
      S = λ s t. Follows (contract a b T) a s t × (s ≢ x)

      one_on : (i j : ℕ) → Past (Follows T b) a i j → Reach S i j
      one_on i j g = one_step (on_b n T a b x y s o g, λ e. g.2 (the (re refl e refl g.0) (turn o.left)))

      go : ((a ≢ a) × Reach (Past (Follows T b) a) a p) ⊎ Reach (Past (Follows T b) a) y p → Reach S y p
      go (inl h) = absurd (h.0 refl)
      go (inr c) = carry (λ i. i) one_on c

  -- a neighbour of both, other than x, is y, and there the row round a leaves
  shared : {p q : ℕ} → Edge T b p → p ≢ x → Follows T a p q → Stays a b (row a p q) → ⊥
  shared {p} {q} e nx f k = go (o.only (q, f) e)
    where
      go : (p ≡ x) ⊎ (p ≡ y) → ⊥
      go (inl h) = nx h
      go (inr h) = k (at_0 refl, at_2 (the (turn o.right) (re refl h refl f)))

  on_side : {p : ℕ} → Between (contract a b T) a x y p → Edge T b p
  on_side {p} h = within (λ t. Edge T b t) next h.on (s.both (a, turn (turn o.right)))
    where
      next : (i j : ℕ) → Follows (contract a b T) a i j × (i ≢ x) → Edge T b i → Edge T b j
      next i j g e = go (whence n T a b x y s o g.0)
        where
          go : Whence n T a b x y s o i j → Edge T b j
          go (round_a f k) = absurd (shared e g.1 f k)
          go (round_b f k) = s.both (i, turn (turn f))

  -- what growing back makes of a row that stayed is the row
  pub regrown : (r : Row) → r ∈ T → Stays a b r → RowRegrown (contract a b T) a b x y (renumber a b r) r
  regrown r m k = go (holds? r b)
    where
      with_b : (p q : ℕ) → Turned r b p q → Holds r b → RowRegrown (contract a b T) a b x y (renumber a b r) r
      with_b p q t h =
          let f : Follows T b p q = record { by = r; here = m; turned = t } in
          let ep : replace a b p ≡ p = replace_off a b (λ e. s.apart f (sym e)) in
          let eq : replace a b q ≡ q = replace_off a b (λ e. s.apart (turn (turn f)) e) in
          let eb : replace a b b ≡ a = replace_at a b refl in
          renamed (re_turned eb ep eq (turned_map a b t)) (of_b f (stays_turned a b t k))
          (sym (renumber_back a b r (λ ha. k (ha, h))))

      without_b : ¬ Holds r b → (p q : ℕ) → Turned (renumber a b r) a p q → ¬ Between (contract a b T) a x y p
      without_b nb p q t h =
          let u : Turned r a p q = rw (renumber_off a b r nb) at t in
          shared (on_side h) h.short (record { by = r; here = m; turned = u }) (stays_turned a b u k)

      go : Dec (Holds r b) → RowRegrown (contract a b T) a b x y (renumber a b r) r
      go (yes h) = let w = turn_to h in with_b w.0 w.1 w.2 h
      go (no nb) = left_be (without_b nb) (sym (renumber_off a b r nb))

  regrown_all : (S : List Row) → ((r : Row) → r ∈ S → (r ∈ T) × Stays a b r) → Each (RowRegrown (contract a b T) a b x y) (map (renumber a b) S) S
  regrown_all [] h = each_none
  regrown_all (r ∷ S) h =
      let k = h r (Memᴰ.head refl) in
      each_more (regrown r k.0 k.1) (regrown_all S (λ r m. h r (Memᴰ.tail m)))

  -- growing back the contracted table gives the table
  pub grown : Grown a b x y (leaving a b T) (contract a b T) T
  unfolding contract
  grown = record {
    middle = filter (stays? a b) T;
    each = regrown_all (filter (stays? a b) T) (λ r m. filter_out (stays? a b) T m);
    whole = sym (put_all a b T);
  }

-- growing back makes one table
regrown_one : {T : List Row} {a b x y : ℕ} {r' r₁ r₂ : Row} → RowRegrown T a b x y r' r₁ → RowRegrown T a b x y r' r₂ → r₁ ≡ r₂
regrown_one (renamed _ _ e) (renamed _ _ k) = e ∙ sym k
regrown_one (renamed t h e) (left_be n k) = absurd (n _ _ t h)
regrown_one (left_be n e) (renamed t h k) = absurd (n _ _ t h)
regrown_one (left_be _ e) (left_be _ k) = e ∙ sym k

each_one : {R : Row → Row → Type 0} → ((r r₁ r₂ : Row) → R r r₁ → R r r₂ → r₁ ≡ r₂) → {T S₁ S₂ : List Row} → Each R T S₁ → Each R T S₂ → S₁ ≡ S₂
each_one one each_none each_none = refl
each_one one (each_more h e) (each_more k f) = ap₂ (λ r l. r ∷ l) (one _ _ _ h k) (each_one one e f)

pub grown_one : {a b x y : ℕ} {l : List Placed} {T' T₁ T₂ : List Row} → Grown a b x y l T' T₁ → Grown a b x y l T' T₂ → T₁ ≡ T₂
grown_one {l = l} g h = g.whole ∙ ap (put_back l) (each_one (λ r r₁ r₂ p q. regrown_one p q) g.each h.each) ∙ sym h.whole

-- the contracted table and the rows that left tell the table: no second one grows back
module _ (a b n₁ n₂ : ℕ) (T₁ T₂ : List Row) (x₁ y₁ x₂ y₂ : ℕ) (s₁ : Stage n₁ T₁) (s₂ : Stage n₂ T₂)
    (o₁ : Opposite T₁ a b x₁ y₁) (o₂ : Opposite T₂ a b x₂ y₂) where
  pub told : contract a b T₁ ≡ contract a b T₂ → leaving a b T₁ ≡ leaving a b T₂ → T₁ ≡ T₂
  told et el = grown_one g₁ (grown n₂ T₂ a b x₂ y₂ s₂ o₂)
    where
      moved : {v p q : ℕ} (f : Follows T₁ v p q) → ¬ Stays a b f.by → Follows T₂ v p q
      moved f k =
          let i = leaving_in a b T₁ f.here k in
          record { by = f.by; here = (leaving_out a b T₂ (rw el at i.1)).0; turned = f.turned }

      ex : x₁ ≡ x₂
      ex = one n₂ T₂ a b x₂ y₂ s₂ o₂ (moved o₁.left (λ k. stays_turned a b o₁.left.turned k (at_0 refl, at_1 refl))) o₂.left

      ey : y₁ ≡ y₂
      ey = one n₂ T₂ a b x₂ y₂ s₂ o₂ (moved o₁.right (λ k. stays_turned a b o₁.right.turned k (at_1 refl, at_0 refl))) o₂.right

      g₁ : Grown a b x₂ y₂ (leaving a b T₂) (contract a b T₂) T₁
      g₁ = rw (sym ex, sym ey, sym el, sym et) (grown n₁ T₁ a b x₁ y₁ s₁ o₁)

-- the contracted table and the record tell the table
pub no_second : (n₁ n₂ a b : ℕ) (T₁ T₂ : List Row) → Stage n₁ T₁ → Stage n₂ T₂ → Meets T₁ a b → Meets T₂ a b →
    contract a b T₁ ≡ contract a b T₂ → leaving a b T₁ ≡ leaving a b T₂ → T₁ ≡ T₂
no_second n₁ n₂ a b T₁ T₂ s₁ s₂ m₁ m₂ et el =
    let o₁ = opposite n₁ T₁ s₁ m₁ in
    let o₂ = opposite n₂ T₂ s₂ m₂ in
    told a b n₁ n₂ T₁ T₂ o₁.0 o₁.1 o₂.0 o₂.1 s₁ s₂ o₁.2 o₂.2 et el
