-- One try at the corner u: the least corner that waits is blocked, or it is the least whose edge to u may be contracted, and goes into u.
use mathlib.Core.Path.{◌≡◌, sym, ◌∙◌}
use mathlib.Core.Logic.{◌≢◌, ◌⊎◌, inl, inr}
use mathlib.Core.List.Memᴰ
use mathlib.Core.List.{List, [], ◌∷◌}
use Prim.Native.Nat.{ℕ, ◌+◌, ◌-◌, ◌*◌, ◌≤◌, ◌<◌}
use native.Mathlib.Decide.{ℕ_discrete}
use native.Mathlib.Omega.{arith}
use lib.ListN.{length, get_or, set, length-set}
use lib.Seq.{get_or-set_same, get_or-set_other}
use Rattle.surface.specs.Limits.{most_corners}
use Rattle.surface.specs.Lists.{◌∈◌, Exactly}
use Rattle.surface.specs.Rows.{Row}
use Rattle.surface.specs.Table.{Edge, Used}
use Rattle.surface.specs.Stage.{Stage}
use Rattle.surface.specs.Link.{Meets, Common, Opposite}
use Rattle.surface.specs.Contract.{contract}
use Rattle.surface.proofs.Linked.{opposite}
use Rattle.surface.proofs.Contracted.{Side, of_a, of_b, side, from_a, from_b}
use Rattle.surface.proofs.Counted.{used_old}
use Rattle.surface.proofs.Main.{link_counts, counts_one}
use Rattle.record.specs.declared.Record.{Record}
use Rattle.link.proofs.Tally.{exactly_same}
use Rattle.neighbours.specs.Around.{Neighbours}
use Rattle.spots.specs.InnerHeld.{held_rows}
use Rattle.waiting.specs.InnerWaiting.{digit_of, Member, Released, LeastWaits}
use Rattle.around.specs.InnerRing.{RingOf, next_to, MarkedIn}
use Rattle.around.specs.InnerMeeting.{Met}
use Rattle.around.proofs.Nears.{ring_neighbours, ring_listed, next_to_length}
use Rattle.strike.specs.InnerStrike.{Struck}
use Rattle.trapped.specs.Trapped.{NextAt, Spared, far, many}
use Rattle.trapped.proofs.Flags.{spared}
use Rattle.quick.specs.InnerGround.{gone_mark, MarksHold}
use Rattle.quick.specs.InnerRound.{AtOpenCorner, Unchanged}
use Rattle.quick.proofs.Counting.{one_over, one_less}
use Rattle.quick.proofs.Grounds.{stage, ground_step}

member? : (bits : List ℕ) (w : ℕ) → w < most_corners → Dec (Member bits w)
member? bits w h = go (ℕ_discrete (digit_of bits w) 1)
  where
    go : Dec (digit_of bits w ≡ 1) → Dec (Member bits w)
    go (yes e) = yes (h, e)
    go (no e) = no (λ m. e m.1)

in? : (w : ℕ) (l : List ℕ) → Dec (w ∈ l)
in? w [] = no Memᴰ.not-nil
in? w (z ∷ l) = go (ℕ_discrete w z) (in? w l)
  where
    go : Dec (w ≡ z) → Dec (w ∈ l) → Dec (w ∈ z ∷ l)
    go (yes e) d = yes (Memᴰ.head e)
    go (no e) (yes m) = yes (Memᴰ.tail m)
    go (no e) (no m) = no (λ k. elim (Memᴰ.cases_cons k) [ inl q ↦ e q | inr q ↦ m q ])

module _ {n : ℕ} {h start list mark bits sub sup l : List ℕ} {u total d : ℕ} (g : AtOpenCorner n h start list mark bits sub sup l u total d) where
  abbrev T : List Row
  T = held_rows h

  S : Stage n (held_rows h)
  S = stage g.ground

  small : {w : ℕ} → Edge T u w → w < most_corners
  small e = let b = S.below (S.both e).1 in let m = S.many in omega arith

  pub u_small : {w : ℕ} → Edge T u w → u < most_corners
  u_small e = let b = S.below e.1 in let m = S.many in omega arith

  -- on four rows no edge
  pub four_blocks : {v : ℕ} → total - 2 * d ≤ 4 → ¬ Meets T u v
  four_blocks q m = let k = ((link_counts n T S).0 m).1 in let r = g.ground.rows in omega arith

  module _ {v : ℕ} (nx : LeastWaits bits v) where
    pub up : u < v
    up = (g.near v nx.member).0

    pub edge : Edge T u v
    edge = (g.near v nx.member).1

    pub v_small : v < most_corners
    v_small = nx.member.0

    -- v has the mark of u's neighbours, so it is not gone
    pub v_there : get_or mark v 0 ≢ gone_mark
    v_there q = let a = g.marks_all v edge in let b = u_small edge in omega arith

    -- the least above u
    pub next_at : Meets T u v → NextAt T u v
    next_at m = record { meets = m; rises = up; first = λ {k} i q. go k i q (member? bits k (small q.edge)) }
      where
        go : (k : ℕ) → u < k → Meets T u k → Dec (Member bits k) → v ≤ k
        go k i q (yes z) = nx.least k z
        go k i q (no z) = absurd (g.known k i q.edge z q)

    -- the marked neighbours of v are the common ones, and u
    module _ {ring : List ℕ} (r : RingOf h v ring) where
      beside : Neighbours T v (next_to h ring)
      beside = ring_neighbours g.ground.held v_small r

      u_beside : MarkedIn mark (u + 1) (next_to h ring) u
      u_beside = (beside.all (S.both edge), g.own)

      not_u : {w : ℕ} → Common T u v w → w ≢ u
      not_u c q = S.apart c.0.1 (sym q)

      common_of : (w : ℕ) → MarkedIn mark (u + 1) (next_to h ring) w × (w ≢ u) → Common T u v w
      common_of w z = go (g.marked w z.0.1)
        where
          go : Edge T u w ⊎ (w ≡ u) → Common T u v w
          go (inl e) = (e, beside.only z.0.0)
          go (inr e) = absurd (z.1 e)

      of_common : (w : ℕ) → Common T u v w → MarkedIn mark (u + 1) (next_to h ring) w × (w ≢ u)
      of_common w c = ((beside.all c.1, g.marks_all w c.0), not_u c)

      pub three_meets : {k : ℕ} → ¬ (total - 2 * d ≤ 4) → Exactly (MarkedIn mark (u + 1) (next_to h ring)) k → k ≡ 3 → Meets T u v
      three_meets {k} b x e =
          let q = g.ground.rows in
          (link_counts n T S).1 (edge, omega arith, exactly_same common_of of_common (one_less 2 u_beside (rw e at x)))

      pub not_three_blocks : {k : ℕ} → Exactly (MarkedIn mark (u + 1) (next_to h ring)) k → (k ≡ 3 → ⊥) → ¬ Meets T u v
      not_three_blocks x e m = e (counts_one x (one_over u_beside (exactly_same of_common common_of ((link_counts n T S).0 m).2)))

      pub degree : Exactly (Edge T v) (length ring)
      degree = record { list = next_to h ring; distinct = beside.distinct; all = beside.all; only = beside.only; count = next_to_length h ring }

    module _ {bits₁ : List ℕ} (tk : Released v bits bits₁) where
      -- those that waited and are not v wait on
      pub waited : (w : ℕ) → Member bits₁ w → Member bits w × (w ≢ v)
      waited w m = (tk.only w m, λ q. tk.gone (rw q at m))

      -- v is blocked
      pub round_blocked : ¬ Meets T u v → AtOpenCorner n h start list mark bits₁ sub sup l u total d
      round_blocked b = record {
        ground = g.ground;
        own = g.own;
        marked = g.marked;
        marks_all = g.marks_all;
        near = λ w m. g.near w (tk.only w m);
        known = λ w a e m. known w a e m (ℕ_discrete w v);
      }
        where
          known : (w : ℕ) → u < w → Edge T u w → ¬ Member bits₁ w → Dec (w ≡ v) → ¬ Meets T u w
          known w a e m (yes q) z = b (rw q at z)
          known w a e m (no q) z = g.known w a e (λ k. m (tk.kept w q k)) z

      -- v goes into u
      module _ {ring : List ℕ} (r : RingOf h v ring) (m : Meets T u v) {k but : ℕ} (count : length ring ≡ k) (spare : Unchanged k u but) {mark₁ bits₂ : List ℕ} (met : Met u but (next_to h ring) mark bits₁ mark₁ bits₂)
          {e : Record} {h' sub' sup' : List ℕ} (st : Struck h u v e h' sub' sup') where
        opp : (x : ℕ) × (y : ℕ) × Opposite T u v x y
        opp = opposite n T S m

        abbrev T' : List Row
        T' = contract u v T

        is : T' ≡ held_rows h'
        is = rw (st.kept_is, st.removed_is) at st.replays.leaves

        near_v : Neighbours T v (next_to h ring)
        near_v = beside r

        u_low : u < most_corners
        u_low = u_small edge

        to_a : {w : ℕ} → Edge T u w → w ≢ v → Edge T' u w
        to_a c q = from_a n T u v opp.0 opp.1 S opp.2 c q

        to_b : {w : ℕ} → Edge T v w → w ≢ u → Edge T' u w
        to_b c q = from_b n T u v opp.0 opp.1 S opp.2 c q

        not_self : {w : ℕ} → Edge T v w → w ≢ v
        not_self c q = S.apart c.1 (sym q)

        at_v : get_or (set mark₁ v gone_mark) v 0 ≡ gone_mark
        at_v = let a = met.size in let b = v_small in let c = g.ground.marks.size in get_or-set_same mark₁ v gone_mark 0 (omega arith)

        off_v : (w : ℕ) → w ≢ v → get_or (set mark₁ v gone_mark) w 0 ≡ get_or mark₁ w 0
        off_v w q = get_or-set_other mark₁ v w gone_mark 0 q

        marked : (w : ℕ) → Dec (w ≡ v) → get_or (set mark₁ v gone_mark) w 0 ≡ u + 1 → Edge T' u w ⊎ (w ≡ u)
        marked w (yes q) z = let a : get_or (set mark₁ v gone_mark) w 0 ≡ gone_mark = rw q at_v in let b = u_low in absurd (omega arith)
        marked w (no q) z = go (ℕ_discrete w u) (met.changes w)
          where
            here : get_or mark₁ w 0 ≡ u + 1
            here = sym (off_v w q) ∙ z

            old : Edge T u w ⊎ (w ≡ u) → Edge T' u w ⊎ (w ≡ u)
            old (inl c) = inl (to_a c q)
            old (inr c) = inr c

            go : Dec (w ≡ u) → (get_or mark₁ w 0 ≡ get_or mark w 0) ⊎ ((get_or mark₁ w 0 ≡ u + 1) × (w ∈ next_to h ring)) → Edge T' u w ⊎ (w ≡ u)
            go (yes c) k = inr c
            go (no c) (inl k) = old (g.marked w (sym k ∙ here))
            go (no c) (inr k) = inl (to_b (near_v.only k.1) c)

        -- a mark of a neighbour of u stays
        stays : (w : ℕ) → get_or mark w 0 ≡ u + 1 → get_or mark₁ w 0 ≡ u + 1
        stays w q = go (met.changes w)
          where
            go : (get_or mark₁ w 0 ≡ get_or mark w 0) ⊎ ((get_or mark₁ w 0 ≡ u + 1) × (w ∈ next_to h ring)) → get_or mark₁ w 0 ≡ u + 1
            go (inl k) = k ∙ q
            go (inr k) = k.0

        marks_on : (w : ℕ) → Side n T u v opp.0 opp.1 S opp.2 w → get_or (set mark₁ v gone_mark) w 0 ≡ u + 1
        marks_on w (of_a c q) = off_v w q ∙ stays w (g.marks_all w c)
        marks_on w (of_b c q) = off_v w (not_self c) ∙ met.marks w (near_v.all c)

        near' : (w : ℕ) → Member bits₁ w ⊎ ((w ∈ next_to h ring) × (u < w) × (but ≡ u + 1 → get_or mark w 0 ≢ but)) → (u < w) × Edge T' u w
        near' w (inl c) = let y = g.near w (tk.only w c) in (y.0, to_a y.1 (λ q. tk.gone (rw q at c)))
        near' w (inr c) = let b = c.1 in (c.1, to_b (near_v.only c.0) (λ q. omega arith))

        -- what was known of w stays so
        still : (w : ℕ) → u < w → Edge T u w → w ≢ v → ¬ Member bits₂ w → ¬ Meets T u w
        still w a c q z = g.known w a c (λ y. z (met.waits_old w (tk.kept w q y)))

        no_such : (w : ℕ) → get_or mark w 0 ≢ gone_mark + 1
        no_such w q = go (g.ground.marks.bound w)
          where
            go : (get_or mark w 0 ≤ u + 1) ⊎ (get_or mark w 0 ≡ gone_mark) → ⊥
            go (inl c) = let b = u_low in omega arith
            go (inr c) = omega arith

        both : (w : ℕ) → u < w → Edge T u w → Edge T v w → ¬ Member bits₂ w → ¬ Meets T' u w
        both w a c j z = go spare
          where
            go : Unchanged k u but → ¬ Meets T' u w
            go (inl y) = absurd (z (met.waits_new w (near_v.all j) a (λ q. no_such w (q ∙ y.1))))
            go (inr y) = spared n T u v S m (many {k = length ring} (degree r) (λ q. y.0 (sym count ∙ q)) c (not_self j)) (still w a c (not_self j) z)

        new : (w : ℕ) → u < w → Edge T v w → get_or mark w 0 ≢ u + 1 → Member bits₂ w
        new w a c i = go spare
          where
            go : Unchanged k u but → Member bits₂ w
            go (inl y) = met.waits_new w (near_v.all c) a (λ q. no_such w (q ∙ y.1))
            go (inr y) = met.waits_new w (near_v.all c) a (λ q. i (q ∙ y.1))

        known : (w : ℕ) → u < w → ¬ Member bits₂ w → Side n T u v opp.0 opp.1 S opp.2 w → ¬ Meets T' u w
        known w a z (of_a c q) = go (in? w (next_to h ring))
          where
            go : Dec (w ∈ next_to h ring) → ¬ Meets T' u w
            go (yes i) = both w a c (near_v.only i) z
            go (no i) = spared n T u v S m (far (λ j. i (near_v.all j))) (still w a c q z)
        known w a z (of_b c q) = go (ℕ_discrete (get_or mark w 0) (u + 1))
          where
            edge_of : Edge T u w ⊎ (w ≡ u) → Edge T u w
            edge_of (inl e) = e
            edge_of (inr e) = absurd (q e)

            go : Dec (get_or mark w 0 ≡ u + 1) → ¬ Meets T' u w
            go (yes i) = both w a (edge_of (g.marked w i)) c z
            go (no i) = absurd (z (new w a c i))

        -- a corner begins to wait only where its edge can have changed
        pub waits_again : (w : ℕ) → Member bits₂ w → (Member bits w × (w ≢ v)) ⊎ (¬ Spared T u v w)
        waits_again w c = go (met.waits_only w c)
          where
            not_spared : w ∈ next_to h ring → (but ≡ u + 1 → get_or mark w 0 ≢ but) → ¬ Spared T u v w
            not_spared i f (far n) = n (near_v.only i)
            not_spared i f (many {k = j} e n c q) = at spare
              where
                at : Unchanged k u but → ⊥
                at (inl y) = n (counts_one e (degree r) ∙ count ∙ y.0)
                at (inr y) = f y.1 (g.marks_all w c ∙ sym y.1)

            go : Member bits₁ w ⊎ ((w ∈ next_to h ring) × (u < w) × (but ≡ u + 1 → get_or mark w 0 ≢ but)) → (Member bits w × (w ≢ v)) ⊎ (¬ Spared T u v w)
            go (inl m) = inl (waited w m)
            go (inr m) = inr (not_spared m.0 m.2)

        -- a corner that is gone has no neighbour, and is met no more
        gone_on : (z : ℕ) → get_or mark z 0 ≡ gone_mark → get_or (set mark₁ v gone_mark) z 0 ≡ gone_mark
        gone_on z q = go (ℕ_discrete z v) (met.changes z)
          where
            go : Dec (z ≡ v) → (get_or mark₁ z 0 ≡ get_or mark z 0) ⊎ ((get_or mark₁ z 0 ≡ u + 1) × (z ∈ next_to h ring)) → get_or (set mark₁ v gone_mark) z 0 ≡ gone_mark
            go (yes c) k = rw c at_v
            go (no c) (inl k) = off_v z c ∙ k ∙ q
            go (no c) (inr k) = absurd (g.ground.marks.unused z q v (S.both (near_v.only k.1)))

        unused' : (z w : ℕ) → get_or (set mark₁ v gone_mark) z 0 ≡ gone_mark → Edge T' z w → ⊥
        unused' z w q c = go (ℕ_discrete z v) (met.changes z)
          where
            was : Used T z × (z ≢ v)
            was = used_old n T u v opp.0 opp.1 S opp.2 (w, c)

            go : Dec (z ≡ v) → (get_or mark₁ z 0 ≡ get_or mark z 0) ⊎ ((get_or mark₁ z 0 ≡ u + 1) × (z ∈ next_to h ring)) → ⊥
            go (yes i) k = was.1 i
            go (no i) (inl k) = g.ground.marks.unused z (sym k ∙ sym (off_v z i) ∙ q) was.0.0 was.0.1
            go (no i) (inr k) = let a = sym (off_v z i) ∙ q in let b = k.0 in let x = u_low in omega arith

        bound : (z : ℕ) → Dec (z ≡ v) → (get_or (set mark₁ v gone_mark) z 0 ≤ u + 1) ⊎ (get_or (set mark₁ v gone_mark) z 0 ≡ gone_mark)
        bound z (yes q) = inr (rw q at_v)
        bound z (no q) = rw (off_v z q) (go (met.changes z) (g.ground.marks.bound z))
          where
            go : (get_or mark₁ z 0 ≡ get_or mark z 0) ⊎ ((get_or mark₁ z 0 ≡ u + 1) × (z ∈ next_to h ring)) → (get_or mark z 0 ≤ u + 1) ⊎ (get_or mark z 0 ≡ gone_mark) → (get_or mark₁ z 0 ≤ u + 1) ⊎ (get_or mark₁ z 0 ≡ gone_mark)
            go (inl k) (inl b) = inl (omega arith)
            go (inl k) (inr b) = inr (k ∙ b)
            go (inr k) b = let c = k.0 in inl (omega arith)

        -- a place that is no corner's is not met
        free : get_or (set mark₁ v gone_mark) most_corners 0 ≡ 0
        free = off_v most_corners (λ q. let b = v_small in omega arith) ∙ go (met.changes most_corners)
          where
            go : (get_or mark₁ most_corners 0 ≡ get_or mark most_corners 0) ⊎ ((get_or mark₁ most_corners 0 ≡ u + 1) × (most_corners ∈ next_to h ring)) → get_or mark₁ most_corners 0 ≡ 0
            go (inl k) = k ∙ g.ground.marks.no_corner
            go (inr k) = let b = (ring_listed g.ground.held v_small r).below k.1 in absurd (omega arith)

        marks₂ : MarksHold h' (set mark₁ v gone_mark) (u + 1)
        marks₂ = record {
          size = length-set mark₁ v gone_mark ∙ met.size ∙ g.ground.marks.size;
          bound = λ z. bound z (ℕ_discrete z v);
          unused = λ z q w c. unused' z w q (rw (sym is) at c);
          no_corner = free;
        }

        own : get_or (set mark₁ v gone_mark) u 0 ≡ u + 1
        own = off_v u (λ q. let z = up in omega arith) ∙ stays u g.own

        pub round_step : (l' : List ℕ) → length l' ≡ length l → AtOpenCorner n h' start list (set mark₁ v gone_mark) bits₂ sub' sup' l' u total (d + 1)
        round_step l' same = record {
          ground = ground_step g.ground (omega arith) u_low marks₂ gone_on at_v st same;
          own = own;
          marked = λ w z. rw is at (marked w (ℕ_discrete w v) z);
          marks_all = λ w c. marks_on w (side n T u v opp.0 opp.1 S opp.2 (rw (sym is) at c));
          near = λ w c. rw is at (near' w (met.waits_only w c));
          known = λ w a c z. rw is at (known w a z (side n T u v opp.0 opp.1 S opp.2 (rw (sym is) at c)));
        }
