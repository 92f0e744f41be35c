-- A corner with no edge that meets the link condition stays so: source 000, Lemma 5, and source 004, Lemma 3.1. Both cite it and prove nothing. Here: an edge that meets the condition after
-- a step did so before it, but in the one case of source 000, Proposition 7.
use mathlib.Core.Path.{◌≡◌, refl, sym, ◌∙◌, ap}
use mathlib.Core.Logic.{◌≢◌, ◌⊎◌, inl, inr}
use mathlib.Core.List.{List}
use Prim.Native.Nat.{ℕ, ◌<◌}
use lib.ListN.{length}
use native.Mathlib.Decide.{ℕ_discrete}
use native.Mathlib.Omega.{arith}
use Rattle.surface.specs.Rows.{Row}
use Rattle.surface.specs.Table.{Follows, Edge, Used}
use Rattle.surface.specs.Stage.{Stage}
use Rattle.surface.specs.Link.{Meets, Opposite}
use Rattle.surface.specs.Contract.{replace, contract}
use Rattle.surface.proofs.Once.{turn}
use Rattle.surface.proofs.Following.{re, re_edge, follows_same as one}
use Rattle.surface.proofs.Renumber.{replace_at, replace_off, replace_same, Source, source}
use Rattle.surface.proofs.Contracted.{edge_kept, apart', two_leave, least'}
use Rattle.surface.proofs.Linked.{opposite}
use Rattle.surface.proofs.Tetrahedron.{Of₃, is_a, is_b, is_c, round}
use Rattle.surface.proofs.Common.{On, meets_of_corners}
use Rattle.trapped.specs.Trapped.{Trapped}

on_turn : {T : List Row} {p q r : ℕ} → On T p q r → On T q r p
on_turn (inl f) = inl (turn f)
on_turn (inr f) = inr (turn (turn f))

on_swap : {T : List Row} {p q r : ℕ} → On T p q r → On T q p r
on_swap (inl f) = inr f
on_swap (inr f) = inl f

re_on : {T : List Row} {p q r p' q' r' : ℕ} → p ≡ p' → q ≡ q' → r ≡ r' → On T p q r → On T p' q' r'
re_on ep eq er (inl f) = inl (re ep eq er f)
re_on ep eq er (inr f) = inr (re eq ep er f)

pub re_meets : {T : List Row} {p q p' q' : ℕ} → p ≡ p' → q ≡ q' → Meets T p q → Meets T p' q'
re_meets ep eq m = rw eq at (rw ep at m)

module _ (n : ℕ) (T : List Row) (s : Stage n T) where
  pub meets_back : {a b : ℕ} → Meets T a b → Meets T b a
  meets_back m = record { edge = s.both m.edge; corner = λ e k. on_swap (m.corner k e); no_edge = λ l k. m.no_edge k l }

  -- 000, Proposition 6, and 004, Proposition 3.1: "every edge of K incident on v is a contractible edge in K", where v has three neighbours p, q, r and there are more than four rows
  pub three_meet : 4 < length T → {v p q r : ℕ} → Follows T v p q → Follows T v q r → Follows T v r p → Meets T v p
  three_meet big {v} {p} {q} {r} f g h = meets_of_corners n T s big (q, f) (λ w e k. go w k (round n T s f g h e))
    where
      go : (w : ℕ) → Edge T p w → Of₃ p q r w → On T v p w
      go w k (is_a e) = absurd (s.apart k.1 (sym e))
      go w k (is_b e) = inl (re refl refl (sym e) f)
      go w k (is_c e) = inr (re refl refl (sym e) (turn (turn h)))

module _ (n : ℕ) (T : List Row) (a b x y : ℕ) (s : Stage n T) (o : Opposite T a b x y) where
  abbrev T' : List Row
  T' = contract a b T

  abbrev f : ℕ → ℕ
  f = replace a b

  big : 4 < length T
  big = let e = two_leave n T a b x y s o in let h = least' n T a b x y s o in omega arith

  abx : Follows T a b x
  abx = o.left

  bay : Follows T b a y
  bay = o.right

  common : {c : ℕ} → Edge T a c → Edge T b c → On T a b c
  common {c} e k = go (o.only e k)
    where
      go : (c ≡ x) ⊎ (c ≡ y) → On T a b c
      go (inl h) = inl (re refl refl (sym h) abx)
      go (inr h) = inr (re refl refl (sym h) bay)

  -- two corners are one of a and b, the other the other
  abbrev Moved : ℕ → ℕ → Type 0
  Moved c p = ((c ≡ a) × (p ≡ b)) ⊎ ((c ≡ b) × (p ≡ a))

  f_moved : {c p : ℕ} → Moved c p → f p ≡ a
  f_moved (inl m) = replace_at a b m.1
  f_moved (inr m) = ap f m.1 ∙ replace_off a b (s.apart abx)

  -- the one way in which a row comes upon three neighbours. 000, section 4.3: "vertex z must be v, vertex u must belong to C, and C must consist of the edges in lk(v, K)". That is one_a,
  -- u = a and v = b; one_b is missing there, where the corner kept is the one with three neighbours (`kept_has_three` in Slips)
  data One (p q r : ℕ) : Type 0 where
    one_a : p ≡ a → q ≡ y → r ≡ x → Follows T b y x → One p q r
    one_b : p ≡ b → q ≡ x → r ≡ y → Follows T a x y → One p q r

  moved_one : {c p q r : ℕ} → Moved c p → Follows T c q r → Edge T p q → Edge T p r → One p q r
  moved_one {c} {p} {q} {r} (inl m) g eq er = go (o.only (r, h) eq') (o.only (s.both (q, turn (turn h))) er')
    where
      h : Follows T a q r
      h = re m.0 refl refl g

      eq' : Edge T b q
      eq' = re_edge m.1 refl eq

      er' : Edge T b r
      er' = re_edge m.1 refl er

      go : (q ≡ x) ⊎ (q ≡ y) → (r ≡ x) ⊎ (r ≡ y) → One p q r
      go (inl i) (inl j) = absurd (s.apart (turn h) (i ∙ sym j))
      go (inl i) (inr j) = one_b m.1 i j (re refl i j h)
      go (inr i) j = absurd (s.apart er'.1 (sym (one n T s (re refl i refl h) (turn bay))))
  moved_one {c} {p} {q} {r} (inr m) g eq er = go (o.only eq' (r, h)) (o.only er' (s.both (q, turn (turn h))))
    where
      h : Follows T b q r
      h = re m.0 refl refl g

      eq' : Edge T a q
      eq' = re_edge m.1 refl eq

      er' : Edge T a r
      er' = re_edge m.1 refl er

      go : (q ≡ x) ⊎ (q ≡ y) → (r ≡ x) ⊎ (r ≡ y) → One p q r
      go (inr i) (inr j) = absurd (s.apart (turn h) (i ∙ sym j))
      go (inr i) (inl j) = one_a m.1 i j (re refl i j h)
      go (inl i) j = absurd (s.apart er'.1 (sym (one n T s (re refl i refl h) (turn abx))))

  data Odd (p q r : ℕ) : Type 0 where
    odd_0 : One p q r → Odd p q r
    odd_1 : One q r p → Odd p q r
    odd_2 : One r p q → Odd p q r

  -- 000, section 4.3: a critical cycle that is none after the step "must bound a face in K - uv". So a row on the images of three neighbours was on the three, but for the odd case
  row_back : {p q r : ℕ} → Edge T p q → Edge T q r → Edge T r p → f p ≢ f q → f q ≢ f r → f r ≢ f p → Follows T' (f p) (f q) (f r) → Follows T p q r ⊎ Odd p q r
  row_back {p} {q} {r} epq eqr erp pq qr rp g = go (replace_same a b c.on_v) (replace_same a b c.on_p) (replace_same a b c.on_q)
    where
      c : Source a b T (f p) (f q) (f r)
      c = source a b g

      go : (c.v ≡ p) ⊎ Moved c.v p → (c.p ≡ q) ⊎ Moved c.p q → (c.q ≡ r) ⊎ Moved c.q r → Follows T p q r ⊎ Odd p q r
      go (inl i) (inl j) (inl k) = inl (re i j k c.was)
      go (inr i) (inl j) (inl k) = inr (odd_0 (moved_one i (re refl j k c.was) epq (s.both erp)))
      go (inl i) (inr j) (inl k) = inr (odd_1 (moved_one j (turn (re i refl k c.was)) eqr (s.both epq)))
      go (inl i) (inl j) (inr k) = inr (odd_2 (moved_one k (turn (turn (re i j refl c.was))) erp (s.both eqr)))
      go (inr i) (inr j) k = absurd (pq (f_moved i ∙ sym (f_moved j)))
      go (inl i) (inr j) (inr k) = absurd (qr (f_moved j ∙ sym (f_moved k)))
      go (inr i) (inl j) (inr k) = absurd (rp (f_moved k ∙ sym (f_moved i)))

  -- three neighbours, two of which become one corner, lie on a row
  both_in : {p q r : ℕ} → Edge T p q → Edge T q r → Edge T p r → f p ≡ f r → On T p q r
  both_in {p} {q} {r} epq eqr epr e = go (replace_same a b e)
    where
      go : (p ≡ r) ⊎ Moved p r → On T p q r
      go (inl e) = absurd (s.apart epr.1 e)
      go (inr (inl h)) = on_turn (on_swap (re_on (sym h.0) (sym h.1) refl (common (re_edge h.0 refl epq) (re_edge h.1 refl (s.both eqr)))))
      go (inr (inr h)) = on_turn (re_on (sym h.1) (sym h.0) refl (common (re_edge h.1 refl (s.both eqr)) (re_edge h.0 refl epq)))

  kept : {i j : ℕ} → f i ≢ f j → Edge T i j → Edge T' (f i) (f j)
  kept {i} {j} d e = elim (edge_kept n T a b x y s o e) [ inl k ↦ absurd (d k) | inr k ↦ k ]

  -- a common neighbour is opposite an edge whose image meets the condition, but for the odd case
  corner_back : {p q r : ℕ} → Edge T p q → f p ≢ f q → Meets T' (f p) (f q) → Edge T p r → Edge T q r → On T p q r ⊎ (Odd p q r ⊎ Odd q p r)
  corner_back {p} {q} {r} epq pq m epr eqr = go (ℕ_discrete (f p) (f r)) (ℕ_discrete (f q) (f r))
    where
      lies : f p ≢ f r → f q ≢ f r → On T' (f p) (f q) (f r) → On T p q r ⊎ (Odd p q r ⊎ Odd q p r)
      lies pr qr (inl g) = elim (row_back epq eqr (s.both epr) pq qr (λ k. pr (sym k)) g) [ inl k ↦ inl (inl k) | inr k ↦ inr (inl k) ]
      lies pr qr (inr g) = elim (row_back (s.both epq) epr (s.both eqr) (λ k. pq (sym k)) pr (λ k. qr (sym k)) g) [ inl k ↦ inl (inr k) | inr k ↦ inr (inr k) ]

      go : Dec (f p ≡ f r) → Dec (f q ≡ f r) → On T p q r ⊎ (Odd p q r ⊎ Odd q p r)
      go (yes e) d = inl (both_in epq eqr epr e)
      go (no pr) (yes e) = inl (on_swap (both_in (s.both epq) epr eqr e))
      go (no pr) (no qr) = lies pr qr (m.corner (kept pr epr) (kept qr eqr))

  -- in the odd case an edge meets the condition at each of the three
  ab_meets : Meets T a b
  ab_meets = record { edge = (x, abx); corner = λ e k. common e k; no_edge = λ l k. o.no_edge l k }

  one_0 : {p q r : ℕ} → Trapped T p → ¬ One p q r
  one_0 t (one_a i j k g) = t b (re_meets (sym i) refl ab_meets)
  one_0 t (one_b i j k g) = t a (re_meets (sym i) refl (meets_back n T s ab_meets))

  one_1 : {p q r : ℕ} → Trapped T q → ¬ One p q r
  one_1 t (one_a i j k g) = t b (meets_back n T s (re_meets refl (sym j) (three_meet n T s big g (turn abx) bay)))
  one_1 t (one_b i j k g) = t a (meets_back n T s (re_meets refl (sym j) (three_meet n T s big g (turn bay) abx)))

  one_2 : {p q r : ℕ} → Trapped T r → ¬ One p q r
  one_2 t (one_a i j k g) = t b (meets_back n T s (re_meets refl (sym k) (three_meet n T s big (turn abx) bay g)))
  one_2 t (one_b i j k g) = t a (meets_back n T s (re_meets refl (sym k) (three_meet n T s big (turn bay) abx g)))

  odd_first : {p q r : ℕ} → Trapped T p → ¬ Odd p q r
  odd_first t (odd_0 h) = one_0 t h
  odd_first t (odd_1 h) = one_2 t h
  odd_first t (odd_2 h) = one_1 t h

  odd_second : {p q r : ℕ} → Trapped T q → ¬ Odd p q r
  odd_second t (odd_0 h) = one_1 t h
  odd_second t (odd_1 h) = one_0 t h
  odd_second t (odd_2 h) = one_2 t h

  -- a corner that is not a keeps its rows
  was : {c v : ℕ} → v ≢ a → f c ≡ v → c ≡ v
  was {c} {v} na e = go (ℕ_discrete c b)
    where
      go : Dec (c ≡ b) → c ≡ v
      go (yes k) = absurd (na (sym e ∙ replace_at a b k))
      go (no k) = sym (replace_off a b k) ∙ e

  trapped' : {v : ℕ} → Trapped T v → Trapped T' v
  trapped' {v} t w m = t c.p (meets_of_corners n T s big e (λ r i j. go r (corner_back e apart (re_meets (sym fv) (sym c.on_p) m) i j)))
    where
      na : v ≢ a
      na k = t b (re_meets (sym k) refl ab_meets)

      nb : v ≢ b
      nb k = t a (re_meets (sym k) refl (meets_back n T s ab_meets))

      c : Source a b T v w m.edge.0
      c = source a b m.edge.1

      fv : f v ≡ v
      fv = replace_off a b nb

      e : Edge T v c.p
      e = (c.q, re (was na c.on_v) refl refl c.was)

      apart : f v ≢ f c.p
      apart k = apart' n T a b x y s o m.edge.1 (sym fv ∙ k ∙ c.on_p)

      go : (r : ℕ) → On T v c.p r ⊎ (Odd v c.p r ⊎ Odd c.p v r) → On T v c.p r
      go r (inl k) = k
      go r (inr (inl k)) = absurd (odd_first t k)
      go r (inr (inr k)) = absurd (odd_second t k)

  used' : {v : ℕ} → v ≢ a → v ≢ b → ((p : ℕ) × Edge T v p) → (p : ℕ) × Edge T' v p
  used' {v} na nb u = go (edge_kept n T a b x y s o u.1)
    where
      no_move : (v ≡ u.0) ⊎ Moved v u.0 → ⊥
      no_move (inl e) = s.apart u.1.1 e
      no_move (inr (inl m)) = na m.0
      no_move (inr (inr m)) = nb m.0

      go : (f v ≡ f u.0) ⊎ Edge T' (f v) (f u.0) → (p : ℕ) × Edge T' v p
      go (inl e) = absurd (no_move (replace_same a b e))
      go (inr e) = (f u.0, re_edge (replace_off a b nb) refl e)

  -- an edge of a that fails fails after the step too, unless b has three neighbours and the edge ends at x or y
  pub blocked' : {h : ℕ} → Edge T a h → h ≢ b → ¬ (Follows T b y x × ((h ≡ x) ⊎ (h ≡ y))) → ¬ Meets T a h → ¬ Meets T' a h
  blocked' {h} e nb spared t m = t (meets_of_corners n T s big e (λ r i j. go r (corner_back e apart (re_meets (sym fa) (sym fh) m) i j)))
    where
      fa : f a ≡ a
      fa = replace_off a b (s.apart abx)

      fh : f h ≡ h
      fh = replace_off a b nb

      na : h ≢ a
      na k = s.apart e.1 (sym k)

      apart : f a ≢ f h
      apart k = na (sym fh ∙ sym k ∙ fa)

      a≢b : a ≢ b
      a≢b = s.apart abx

      a≢x : a ≢ x
      a≢x k = s.apart (turn (turn abx)) (sym k)

      a≢y : a ≢ y
      a≢y = s.apart (turn bay)

      no_h : {q r : ℕ} → ¬ One h q r
      no_h (one_a i j k g) = na i
      no_h (one_b i j k g) = nb i

      second : {p r : ℕ} → ¬ One p a r
      second (one_a i j k g) = a≢y j
      second (one_b i j k g) = a≢x j

      third : {p q : ℕ} → ¬ One p q a
      third (one_a i j k g) = a≢x k
      third (one_b i j k g) = a≢y k

      to_y : {r : ℕ} → ¬ One a h r
      to_y (one_a i j k g) = spared (g, inr j)
      to_y (one_b i j k g) = a≢b i

      to_x : {q : ℕ} → ¬ One a q h
      to_x (one_a i j k g) = spared (g, inl k)
      to_x (one_b i j k g) = a≢b i

      go : (r : ℕ) → On T a h r ⊎ (Odd a h r ⊎ Odd h a r) → On T a h r
      go r (inl k) = k
      go r (inr (inl (odd_0 k))) = absurd (to_y k)
      go r (inr (inl (odd_1 k))) = absurd (no_h k)
      go r (inr (inl (odd_2 k))) = absurd (second k)
      go r (inr (inr (odd_0 k))) = absurd (no_h k)
      go r (inr (inr (odd_1 k))) = absurd (to_x k)
      go r (inr (inr (odd_2 k))) = absurd (third k)

-- 004, Lemma 3.1 (000, Lemma 5): "If e is contracted in T, then v remains a trapped vertex in the triangulation obtained by contracting e". Any e; nothing is asked of which end is kept
pub trap : (n : ℕ) (T : List Row) (a b : ℕ) → Stage n T → Meets T a b → {v : ℕ} → Trapped T v → Trapped (contract a b T) v
trap n T a b s m t = let o = opposite n T s m in trapped' n T a b o.0 o.1 s o.2 t

-- and it stays there. 004, section 3.3.1: "A vertex u of T belongs to T' if and only if u has been processed by the contraction step"; of this, that what is finished stays
pub trap_used : (n : ℕ) (T : List Row) (a b : ℕ) → Stage n T → Meets T a b → {v : ℕ} → Trapped T v → Used T v → Used (contract a b T) v
trap_used n T a b s m t u =
    let o = opposite n T s m in
    used' n T a b o.0 o.1 s o.2 (λ k. t b (re_meets (sym k) refl m)) (λ k. t a (re_meets (sym k) refl (meets_back n T s m))) u

-- 000, Proposition 7: "If a non-contractible edge e of K becomes contractible in K-f, then f must be incident on a degree-3 vertex v of K and e must belong to lk(v, K)", for the edges e at
-- the corner kept. What else it says, that e lies in a single critical cycle, is not needed
pub flag : (n : ℕ) (T : List Row) (a b : ℕ) → Stage n T → (m : Meets T a b) → {h : ℕ} → Edge T a h → h ≢ b →
    ((p q : ℕ) → Follows T b a p → Follows T b p q → Follows T b q a → (h ≢ p) × (h ≢ q)) → ¬ Meets T a h → ¬ Meets (contract a b T) a h
flag n T a b s m {h} e nb far t =
    let o = opposite n T s m in
    blocked' n T a b o.0 o.1 s o.2 e nb (λ k. go o.0 o.1 (far o.1 o.0 o.2.right k.0 (turn o.2.left)) k.1) t
  where
    go : (x y : ℕ) → (h ≢ y) × (h ≢ x) → (h ≡ x) ⊎ (h ≡ y) → ⊥
    go x y d (inl e) = d.1 e
    go x y d (inr e) = d.0 e
