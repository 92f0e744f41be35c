-- A table grown back by the local rule forks the corner, is a stage, and contracts to where it came from.
use mathlib.Core.Path.{◌≡◌, refl, sym, ◌∙◌, ap, ap₂}
use mathlib.Core.Logic.{◌≢◌, ◌⊎◌, inl, inr}
use mathlib.Core.List.Memᴰ
use mathlib.Core.List.{List, [], ◌∷◌, map}
use Prim.Native.Nat.{ℕ, ◌≤◌, ◌<◌, ◌+◌}
use native.Mathlib.Decide.{ℕ_discrete}
use native.Mathlib.Omega.{arith}
use lib.ListN.{length}
use Rattle.surface.specs.Limits.{most_rows}
use Rattle.surface.specs.Lists.{◌∈◌}
use Rattle.surface.specs.Rows.{Row, row, Turned, turn_0, turn_1, turn_2}
use Rattle.surface.specs.Table.{Follows, Edge, Used}
use Rattle.surface.specs.Stage.{Stage}
use Rattle.surface.specs.Link.{Opposite}
use Rattle.surface.specs.Contract.{Holds, at_0, at_1, at_2, Stays, replace, renumber, contract}
use Rattle.surface.specs.Record.{at, leaving}
use Rattle.surface.proofs.Count.{length-map}
use Rattle.surface.proofs.Once.{turn, turn_it, Once, once_of_distinct, same_second}
use Rattle.surface.proofs.Renumber.{holds_turned, turned_holds, replace_at, replace_off, Came, came, stays_turned}
use Rattle.surface.proofs.Following.{re, re_edge, Gone, left_0, left_1, left_2, right_0, right_1, right_2}
use Rattle.growth.specs.Grow.{put, Between, RowRegrown, renamed, left_be, Each, each_none, each_more, Ends, in_order, crossed}
use Rattle.growth.proofs.Growing.{turn_to, renumber_off, renumber_back, re_turned, turned_map}
use Rattle.growth.proofs.Arcs.{Arc, first, arc_of, arc_between, re_arc, split, not_both, ends_at}
use Rattle.growth.proofs.Fork.{Was, plain, a_0, a_1, a_2, b_0, b_1, b_2, new, Forked, Hub, forked_stage, forked_opposite}
use Rattle.growth.proofs.Put.{put_in, put_new, put_length, follows_put, once_put, once_unmap, contract_put, contract_all, leaving_two}

-- a row that turns to (a, b, x) turns to nothing else
pub data Third (a b x v p q : ℕ) : Type 0 where
  third_0 : v ≡ a → p ≡ b → q ≡ x → Third a b x v p q
  third_1 : v ≡ b → p ≡ x → q ≡ a → Third a b x v p q
  third_2 : v ≡ x → p ≡ a → q ≡ b → Third a b x v p q

pub third : {r : Row} {a b x v p q : ℕ} → Turned r a b x → Turned r v p q → Third a b x v p q
third (turn_0 e) (turn_0 k) = third_0 (cc) (cc) (cc)
third (turn_0 e) (turn_1 k) = third_2 (cc) (cc) (cc)
third (turn_0 e) (turn_2 k) = third_1 (cc) (cc) (cc)
third (turn_1 e) (turn_0 k) = third_1 (cc) (cc) (cc)
third (turn_1 e) (turn_1 k) = third_0 (cc) (cc) (cc)
third (turn_1 e) (turn_2 k) = third_2 (cc) (cc) (cc)
third (turn_2 e) (turn_0 k) = third_2 (cc) (cc) (cc)
third (turn_2 e) (turn_1 k) = third_1 (cc) (cc) (cc)
third (turn_2 e) (turn_2 k) = third_0 (cc) (cc) (cc)

pub gone_left : {a b x y v p q : ℕ} → Third a b x v p q → Gone a b x y v p q
gone_left (third_0 e f g) = left_0 e f g
gone_left (third_1 e f g) = left_1 e f g
gone_left (third_2 e f g) = left_2 e f g

pub gone_right : {a b x y v p q : ℕ} → Third b a y v p q → Gone a b x y v p q
gone_right (third_0 e f g) = right_0 e f g
gone_right (third_1 e f g) = right_1 e f g
gone_right (third_2 e f g) = right_2 e f g

-- the two rows have no directed edge in common
no_common : {a b x y v p q w : ℕ} → a ≢ b → x ≢ a → x ≢ b → y ≢ a → y ≢ b → x ≢ y → Third a b x v p q → Third b a y v p w → ⊥
no_common ab xa xb ya yb xy (third_0 e f g) (third_0 i j k) = ab (sym e ∙ i)
no_common ab xa xb ya yb xy (third_0 e f g) (third_1 i j k) = yb (sym j ∙ f)
no_common ab xa xb ya yb xy (third_0 e f g) (third_2 i j k) = ya (sym i ∙ e)
no_common ab xa xb ya yb xy (third_1 e f g) (third_0 i j k) = xa (sym f ∙ j)
no_common ab xa xb ya yb xy (third_1 e f g) (third_1 i j k) = ab (sym i ∙ e)
no_common ab xa xb ya yb xy (third_1 e f g) (third_2 i j k) = xb (sym f ∙ j)
no_common ab xa xb ya yb xy (third_2 e f g) (third_0 i j k) = xb (sym e ∙ i)
no_common ab xa xb ya yb xy (third_2 e f g) (third_1 i j k) = xa (sym e ∙ i)
no_common ab xa xb ya yb xy (third_2 e f g) (third_2 i j k) = ab (sym f ∙ j)

-- turnings compose
turn_back : {i j k v p q : ℕ} → Turned (row i j k) v p q → Turned (row j k i) v p q
turn_back (turn_0 e) = turn_1 (cc)
turn_back (turn_1 e) = turn_2 (cc)
turn_back (turn_2 e) = turn_0 (cc)

again : {r : Row} {v p q a i j : ℕ} → Turned r v p q → Turned r a i j → Turned (row v p q) a i j
again (turn_0 e) t = rw e at t
again (turn_1 e) t = turn_back (turn_back (rw e at t))
again (turn_2 e) t = turn_back (rw e at t)

undo : {r : Row} {v p q a i j : ℕ} → Turned r v p q → Turned (row v p q) a i j → Turned r a i j
undo (turn_0 e) t = rw e t
undo (turn_1 e) t = rw e (turn_back t)
undo (turn_2 e) t = rw e (turn_back (turn_back t))

-- row by row: where a row came from, and what became of it
pub each_out : {R : Row → Row → Type 0} {T U : List Row} → Each R T U → {r : Row} → r ∈ U → (r' : Row) × (r' ∈ T) × R r' r
each_out each_none m = absurd (Memᴰ.not-nil m)
each_out {R} (each_more {r' = z'} {r = z} {T' = T} {T = U} h e) {r} m = go (Memᴰ.cases_cons m) (λ m. each_out e m)
  where
    go : (r ≡ z) ⊎ (r ∈ U) → (r ∈ U → (r' : Row) × (r' ∈ T) × R r' r) → (r' : Row) × (r' ∈ z' ∷ T) × R r' r
    go (inl i) rec = (z', Memᴰ.head refl, rw i h)
    go (inr m) rec = let w = rec m in (w.0, Memᴰ.tail w.1, w.2)

pub each_in : {R : Row → Row → Type 0} {T U : List Row} → Each R T U → {r' : Row} → r' ∈ T → (r : Row) × (r ∈ U) × R r' r
each_in each_none m = absurd (Memᴰ.not-nil m)
each_in {R} (each_more {r' = z'} {r = z} {T' = T} {T = U} h e) {r'} m = go (Memᴰ.cases_cons m) (λ m. each_in e m)
  where
    go : (r' ≡ z') ⊎ (r' ∈ T) → (r' ∈ T → (r : Row) × (r ∈ U) × R r' r) → (r : Row) × (r ∈ z ∷ U) × R r' r
    go (inl i) rec = (z, Memᴰ.head refl, rw i h)
    go (inr m) rec = let w = rec m in (w.0, Memᴰ.tail w.1, w.2)

-- a row on which b has taken a's place does not hold a
pub renamed_no : (a b : ℕ) → a ≢ b → (r : Row) → ¬ Holds (renumber b a r) a
unfolding renumber
renamed_no a b a≢b (row i j k) h = go h
  where
    off : (c : ℕ) → a ≡ replace b a c → ⊥
    off c e = go' (ℕ_discrete c a)
      where
        go' : Dec (c ≡ a) → ⊥
        go' (yes d) = a≢b (e ∙ replace_at b a d)
        go' (no d) = d (sym (e ∙ replace_off b a d))

    go : Holds (row (replace b a i) (replace b a j) (replace b a k)) a → ⊥
    go (at_0 e) = off i e
    go (at_1 e) = off j e
    go (at_2 e) = off k e

module _ (n : ℕ) (T' : List Row) (a b x y : ℕ) (s : Stage n T') (at_x : Edge T' a x) (at_y : Edge T' a y) (two : x ≢ y)
    (a≢b : a ≢ b) (unused : ¬ Used T' b) (b<n : b < n) (U : List Row) (each : Each (RowRegrown T' a b x y) T' U) where
  no_b : {r : Row} → r ∈ T' → ¬ Holds r b
  no_b {r} m h = let w = turn_to h in unused (w.0, (w.1, record { by = r; here = m; turned = w.2 }))

  here_a : {r : Row} {v p q : ℕ} → r ∈ T' → Turned r v p q → Follows T' v p q
  here_a {r} m t = record { by = r; here = m; turned = t }

  -- the corner after a in a row
  pub one_turn : {r : Row} {p q p₂ q₂ : ℕ} → r ∈ T' → Turned r a p q → Turned r a p₂ q₂ → p ≡ p₂
  one_turn m t u = same_second (λ v p q t. s.apart (here_a m t)) t u

  renamed_no_a : (r : Row) → ¬ Holds (renumber b a r) a
  renamed_no_a r = renamed_no a b a≢b r

  back : {r' r : Row} → r' ∈ T' → RowRegrown T' a b x y r' r → renumber a b r ≡ r'
  back {r'} m (renamed t k e) = ap (renumber a b) e ∙ renumber_back b a r' (no_b m)
  back {r'} m (left_be k e) = ap (renumber a b) e ∙ renumber_off a b r' (no_b m)

  stays : {r' r : Row} → r' ∈ T' → RowRegrown T' a b x y r' r → Stays a b r
  stays {r'} m (renamed t k e) h = renamed_no_a r' (rw e at h.0)
  stays {r'} m (left_be k e) h = no_b m (rw e at h.1)

  pub all_stay : (r : Row) → r ∈ U → Stays a b r
  all_stay r m = let w = each_out each m in stays w.1 w.2

  all_back : {W Z : List Row} → ((r : Row) → r ∈ W → r ∈ T') → Each (RowRegrown T' a b x y) W Z → map (renumber a b) Z ≡ W
  all_back sub each_none = refl
  all_back sub (each_more h e) = ap₂ (λ r l. r ∷ l) (back (sub _ (Memᴰ.head refl)) h) (all_back (λ r m. sub r (Memᴰ.tail m)) e)

  pub U_back : map (renumber a b) U ≡ T'
  U_back = all_back (λ r m. m) each

  pub U_once : Once U
  U_once = once_unmap a b U (rw U_back (once_of_distinct T' s.once))

  pub U_length : length U ≡ length T'
  U_length = sym (length-map (renumber a b) U) ∙ ap length U_back

  -- what follows what among the rows that came from T'
  pub U_was : {v p q : ℕ} → Follows U v p q → Was T' a a b x y v p q
  U_was {v} {p} {q} f = go w.2
    where
      w : (r' : Row) × (r' ∈ T') × RowRegrown T' a b x y r' f.by
      w = each_out each f.here

      r' : Row
      r' = w.0

      moved : {i j : ℕ} → Turned r' a i j → Between T' a x y i → Came b a r' v p q → Was T' a a b x y v p q
      moved {i} {j} t k c = place (holds_turned c.was (turned_holds t (at_0 refl)))
        where
          g : Follows T' c.v c.p c.q
          g = here_a w.1 c.was

          off : {z z' : ℕ} → z ≢ a → replace b a z ≡ z' → z ≡ z'
          off nz e = sym (replace_off b a nz) ∙ e

          arc : {z z' : ℕ} → Turned r' a z z' → Arc T' a x y z
          arc u = re_arc (one_turn w.1 t u) (arc_of k)

          place : Holds (row c.v c.p c.q) a → Was T' a a b x y v p q
          place (at_0 e) =
              let ep = off (λ d. s.apart g (sym e ∙ sym d)) c.on_p in
              let eq = off (λ d. s.apart (turn (turn g)) (d ∙ e)) c.on_q in
              b_0 (sym c.on_v ∙ replace_at b a (sym e)) (re (sym e) ep eq g) (arc (re_turned (sym e) ep eq c.was))
          place (at_1 e) =
              let eq = off (λ d. s.apart (turn g) (sym e ∙ sym d)) c.on_q in
              let ev = off (λ d. s.apart g (d ∙ e)) c.on_v in
              b_1 (sym c.on_p ∙ replace_at b a (sym e)) (re (sym e) eq ev (turn g)) (arc (re_turned (sym e) eq ev (turn_it c.was)))
          place (at_2 e) =
              let ev = off (λ d. s.apart (turn (turn g)) (sym e ∙ sym d)) c.on_v in
              let ep = off (λ d. s.apart (turn g) (d ∙ e)) c.on_p in
              b_2 (sym c.on_q ∙ replace_at b a (sym e)) (re (sym e) ev ep (turn (turn g))) (arc (re_turned (sym e) ev ep (turn_it (turn_it c.was))))

      kept : ((i j : ℕ) → Turned r' a i j → ¬ Between T' a x y i) → Turned r' v p q → Was T' a a b x y v p q
      kept none t = place (ℕ_discrete v a) (ℕ_discrete p a) (ℕ_discrete q a)
        where
          g : Follows T' v p q
          g = here_a w.1 t

          arc : {i j : ℕ} → Turned r' a i j → Arc T' a y x i
          arc {i} {j} u = side (split n T' s a x y at_x at_y two (j, here_a w.1 u))
            where
              side : Arc T' a x y i ⊎ Arc T' a y x i → Arc T' a y x i
              side (inl l) = absurd (none i j u (arc_between l))
              side (inr l) = l

          place : Dec (v ≡ a) → Dec (p ≡ a) → Dec (q ≡ a) → Was T' a a b x y v p q
          place (yes e) d₁ d₂ = a_0 e (re e refl refl g) (arc (re_turned e refl refl t))
          place (no nv) (yes e) d₂ = a_1 e (re e refl refl (turn g)) (arc (re_turned e refl refl (turn_it t)))
          place (no nv) (no np) (yes e) = a_2 e (re e refl refl (turn (turn g))) (arc (re_turned e refl refl (turn_it (turn_it t))))
          place (no nv) (no np) (no nq) = plain g nv np nq

      go : RowRegrown T' a b x y r' f.by → Was T' a a b x y v p q
      go (renamed t k e) = moved t k (came b a r' (rw e at f.turned))
      go (left_be none e) = kept none (rw e at f.turned)

  -- round a and round b among those rows
  U_a : {p q : ℕ} → Follows U a p q → Follows T' a p q × (¬ Between T' a x y p)
  U_a {p} {q} f = go w.2
    where
      w : (r' : Row) × (r' ∈ T') × RowRegrown T' a b x y r' f.by
      w = each_out each f.here

      go : RowRegrown T' a b x y w.0 f.by → Follows T' a p q × (¬ Between T' a x y p)
      go (renamed t k e) = absurd (renamed_no_a w.0 (rw e at (turned_holds f.turned (at_0 refl))))
      go (left_be none e) = let t = rw e at f.turned in (here_a w.1 t, none p q t)

  U_b : {p q : ℕ} → Follows U b p q → Follows T' a p q × Between T' a x y p
  U_b {p} {q} f = go w.2
    where
      w : (r' : Row) × (r' ∈ T') × RowRegrown T' a b x y r' f.by
      w = each_out each f.here

      go : RowRegrown T' a b x y w.0 f.by → Follows T' a p q × Between T' a x y p
      go (left_be none e) = absurd (no_b w.1 (rw e at (turned_holds f.turned (at_0 refl))))
      go (renamed {p = i} {q = j} t k e) = (here_a w.1 t₂, rw (one_turn w.1 t t₂) at k)
        where
          old : Turned w.0 (replace a b b) (replace a b p) (replace a b q)
          old = rw (back w.1 w.2) at (turned_map a b f.turned)

          ep : replace a b p ≡ p
          ep = replace_off a b (λ d. s.apart (here_a w.1 (re_turned (replace_at a b refl) (replace_at a b d) refl old)) refl)

          eq : replace a b q ≡ q
          eq = replace_off a b (λ d. s.apart (turn (turn (here_a w.1 (re_turned (replace_at a b refl) refl (replace_at a b d) old)))) refl)

          t₂ : Turned w.0 a p q
          t₂ = re_turned (replace_at a b refl) ep eq old

  near_x≢a : x ≢ a
  near_x≢a e = s.apart at_x.1 (sym e)

  near_y≢a : y ≢ a
  near_y≢a e = s.apart at_y.1 (sym e)

  used_near : {p : ℕ} → Edge T' a p → p ≢ b
  used_near e d = unused (a, re_edge d refl (s.both e))

  U_stays : {v p q : ℕ} → Follows U v p q → Stays a b (row v p q)
  U_stays f = stays_turned a b f.turned (all_stay f.by f.here)

  -- the directed edges of the two rows are new
  fresh : {v p q : ℕ} → Gone a b x y v p q → ¬ Edge U v p
  fresh (left_0 ev ep eq) e = U_stays e.1 (at_0 (sym ev), at_1 (sym ep))
  fresh (left_1 ev ep eq) e = (U_b (re ev ep refl e.1)).1.short refl
  fresh (left_2 ev ep eq) e = let w = U_a (turn (re ev ep refl e.1)) in w.1 (arc_between (ends_at n T' s a x y at_x at_y two w.0))
  fresh (right_0 ev ep eq) e = U_stays e.1 (at_1 (sym ep), at_0 (sym ev))
  fresh (right_1 ev ep eq) e = (U_a (re ev ep refl e.1)).1 (arc_between (first refl (λ d. two (sym d))))
  fresh (right_2 ev ep eq) e =
      let w = U_b (turn (re ev ep refl e.1)) in
      not_both n T' s a x y at_x at_y two (arc_of w.1) (ends_at n T' s a y x at_y at_x (λ d. two (sym d)) w.0)

  pub hub : Hub n T' a a b x y
  hub = record {
    stage = s;
    at_x = at_x;
    at_y = at_y;
    two = two;
    a≢b = a≢b;
    off_a = λ u d. d;
    off_b = λ u d e. unused (rw e at u);
    a<n = s.below at_x.1;
    b<n = b<n;
  }

  -- with the two rows put in
  module _ (i j : ℕ) (r₁ r₂ : Row) (ends : Ends a b r₁ r₂ x y) where
    abbrev pub T : List Row
    T = put j r₂ (put i r₁ U)

    gone_1 : {v p q : ℕ} → Turned r₁ v p q → Gone a b x y v p q
    gone_1 {v} {p} {q} t = go ends
      where
        go : Ends a b r₁ r₂ x y → Gone a b x y v p q
        go (in_order l r) = gone_left (third l t)
        go (crossed r l) = gone_right (third r t)

    gone_2 : {v p q : ℕ} → Turned r₂ v p q → Gone a b x y v p q
    gone_2 {v} {p} {q} t = go ends
      where
        go : Ends a b r₁ r₂ x y → Gone a b x y v p q
        go (in_order l r) = gone_right (third r t)
        go (crossed r l) = gone_left (third l t)

    common : {v p q w : ℕ} → Turned r₁ v p q → Turned r₂ v p w → ⊥
    common {v} {p} {q} {w} t u = go ends
      where
        go : Ends a b r₁ r₂ x y → ⊥
        go (in_order l r) = no_common a≢b near_x≢a (used_near at_x) near_y≢a (used_near at_y) two (third l t) (third r u)
        go (crossed r l) = no_common a≢b near_x≢a (used_near at_x) near_y≢a (used_near at_y) two (third l u) (third r t)

    in_1 : r₁ ∈ T
    in_1 = put_in j r₂ (put i r₁ U) (put_new i r₁ U)

    in_2 : r₂ ∈ T
    in_2 = put_new j r₂ (put i r₁ U)

    in_U : {r : Row} → r ∈ U → r ∈ T
    in_U m = put_in j r₂ (put i r₁ U) (put_in i r₁ U m)

    T_was : {v p q : ℕ} → Follows T v p q → Was T' a a b x y v p q
    T_was {v} {p} {q} f = go (follows_put j r₂ (put i r₁ U) f)
      where
        go₁ : Turned r₁ v p q ⊎ Follows U v p q → Was T' a a b x y v p q
        go₁ (inl t) = new (gone_1 t)
        go₁ (inr g) = U_was g

        go : Turned r₂ v p q ⊎ Follows (put i r₁ U) v p q → Was T' a a b x y v p q
        go (inl t) = new (gone_2 t)
        go (inr g) = go₁ (follows_put i r₁ U g)

    -- a row of T' that keeps its numbers
    stay_in : {v p q : ℕ} → ((i j : ℕ) → Follows T' v p q → Turned (row v p q) a i j → ¬ Between T' a x y i) → Follows T' v p q → Follows T v p q
    stay_in {v} {p} {q} none f = go w.2
      where
        w : (r : Row) × (r ∈ U) × RowRegrown T' a b x y f.by r
        w = each_in each f.here

        turned : {i j : ℕ} → Turned f.by a i j → Turned (row v p q) a i j
        turned t = again f.turned t

        go : RowRegrown T' a b x y f.by w.0 → Follows T v p q
        go (renamed {p = i} {q = j} t k e) = absurd (none i j f (turned t) k)
        go (left_be l e) = record { by = w.0; here = in_U w.1; turned = rw e f.turned }

    pub fork : Forked T' a a b x y T
    fork = record {
      was = T_was;
      plain_in = λ f nv np nq. stay_in (λ i j g t k. no_place (turned_holds t (at_0 refl)) nv np nq) f;
      a_in = λ f l. stay_in (λ i j g t k. not_both n T' s a x y at_x at_y two (arc_of k) (re_arc (sym (first_is g t)) l)) f;
      b_in = b_in;
      left = left;
      right = right;
    }
      where
        no_place : {v p q : ℕ} → Holds (row v p q) a → v ≢ a → p ≢ a → q ≢ a → ⊥
        no_place (at_0 e) nv np nq = nv (sym e)
        no_place (at_1 e) nv np nq = np (sym e)
        no_place (at_2 e) nv np nq = nq (sym e)

        first_is : {p q i j : ℕ} → Follows T' a p q → Turned (row a p q) a i j → i ≡ p
        first_is {p} {q} {i} {j} g t = one_turn g.here (undo g.turned t) g.turned

        b_in : {p q : ℕ} → Follows T' a p q → Arc T' a x y p → Follows T b p q
        b_in {p} {q} f l = go w.2
          where
            w : (r : Row) × (r ∈ U) × RowRegrown T' a b x y f.by r
            w = each_in each f.here

            go : RowRegrown T' a b x y f.by w.0 → Follows T b p q
            go (left_be none e) = absurd (none p q f.turned (arc_between l))
            go (renamed t k e) = record {
              by = w.0;
              here = in_U w.1;
              turned = rw e (re_turned (replace_at b a refl) (replace_off b a (λ d. s.apart f (sym d))) (replace_off b a (λ d. s.apart (turn (turn f)) d)) (turned_map b a f.turned));
            }

        left : Follows T a b x
        left = go ends
          where
            go : Ends a b r₁ r₂ x y → Follows T a b x
            go (in_order l r) = record { by = r₁; here = in_1; turned = l }
            go (crossed r l) = record { by = r₂; here = in_2; turned = l }

        right : Follows T b a y
        right = go ends
          where
            go : Ends a b r₁ r₂ x y → Follows T b a y
            go (in_order l r) = record { by = r₂; here = in_2; turned = r }
            go (crossed r l) = record { by = r₁; here = in_1; turned = r }

    T_once : Once T
    T_once = once_put j r₂ (put i r₁ U) (λ v p q t e. go v p q t e.0 (follows_put i r₁ U e.1)) (once_put i r₁ U (λ v p q t e. fresh (gone_1 t) e) U_once)
      where
        go : (v p q : ℕ) → Turned r₂ v p q → (w : ℕ) → Turned r₁ v p w ⊎ Follows U v p w → ⊥
        go v p q t w (inl u) = common u t
        go v p q t w (inr g) = fresh (gone_2 t) (w, g)

    pub T_length : length T ≡ 2 + length T'
    T_length = let e = put_length j r₂ (put i r₁ U) in let f = put_length i r₁ U in let g = U_length in omega arith

    pub T_stage : length T' + 2 ≤ most_rows → Stage n T
    T_stage room = let e = T_length in forked_stage n T' a a b x y hub T fork T_once T_length (omega arith)

    pub T_opposite : Opposite T a b x y
    T_opposite = forked_opposite n T' a a b x y hub T fork

    leaves : {r : Row} {v p q : ℕ} → Turned r v p q → Holds (row v p q) a → Holds (row v p q) b → ¬ Stays a b r
    leaves t ha hb k = k (turned_holds t ha, turned_holds t hb)

    leaves_1 : ¬ Stays a b r₁
    leaves_1 = go ends
      where
        go : Ends a b r₁ r₂ x y → ¬ Stays a b r₁
        go (in_order l r) = leaves l (at_0 refl) (at_1 refl)
        go (crossed r l) = leaves r (at_1 refl) (at_0 refl)

    leaves_2 : ¬ Stays a b r₂
    leaves_2 = go ends
      where
        go : Ends a b r₁ r₂ x y → ¬ Stays a b r₂
        go (in_order l r) = leaves r (at_1 refl) (at_0 refl)
        go (crossed r l) = leaves l (at_0 refl) (at_1 refl)

    -- contracting gives back the table and the record
    pub T_back : contract a b T ≡ T'
    T_back = contract_put a b j r₂ (put i r₁ U) leaves_2 ∙ contract_put a b i r₁ U leaves_1 ∙ contract_all a b U all_stay ∙ U_back

    pub T_leaving : i < j → j < length T' + 2 → leaving a b T ≡ at i r₁ ∷ at j r₂ ∷ []
    T_leaving h k = let e = U_length in leaving_two a b i j r₁ r₂ U all_stay leaves_1 leaves_2 h (omega arith)
