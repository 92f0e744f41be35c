-- The step: two slots of the removed corner have the kept one beside them, their rows leave, and in the other slots the kept number stands.
use mathlib.Core.Path.{◌≡◌, refl, sym, ◌∙◌, ap}
use mathlib.Core.Logic.{◌≢◌, ◌⊎◌, inl, inr, ite}
use mathlib.Core.List.Memᴰ
use mathlib.Core.List.{List, [], ◌∷◌, map}
use Prim.Native.Nat.{ℕ, zero, suc, ◌+◌, ◌-◌, ◌*◌, ◌≤◌, ◌<◌, ◌/◌, ◌%◌}
use native.Mathlib.Decide.{ℕ_discrete, dec_lt}
use native.Mathlib.Omega.{arith}
use lib.ListN.{length, get_or}
use Rattle.surface.specs.Limits.{most_rows, most_corners}
use Rattle.surface.specs.Lists.{◌∈◌}
use Rattle.surface.specs.Rows.{Row, row, rows}
use Rattle.surface.specs.Link.{Opposite}
use Rattle.surface.specs.Contract.{Holds, at_0, at_1, at_2, Stays, replace, renumber, contract}
use Rattle.surface.specs.Record.{at, leaving}
use Rattle.surface.proofs.Once.{turn}
use Rattle.surface.proofs.Linked.{opposite}
use Rattle.surface.proofs.Flat.{rows_at}
use Rattle.surface.proofs.Count.{length-map}
use Rattle.surface.proofs.Renumber.{replace_at, replace_off, turned_holds}
use Rattle.surface.proofs.Main.{contraction}
use Rattle.record.specs.declared.Leaving.{Leaving}
use Rattle.record.specs.declared.Corner.{Corner}
use Rattle.slots.specs.Slot.{next_slot, At}
use Rattle.slots.proofs.Slots.{next_cases, next_round, next_inside, whole_rows}
use Rattle.spots.specs.InnerSpots.{Spot, live, dead, spot_of, living, live_rows, rank, Slotted}
use Rattle.spots.specs.InnerHeld.{flat_of, wide, own, held_rows, HoldsStage, after_place, own_place_lem}
use Rattle.spots.proofs.Spots.{not_dead, Changed, was_dead, left_it, renamed_it, spots_contract, spots_record}
use Rattle.spots.proofs.Live.{spot_live, spot_dead, get_or_spots, live_slot, spot_at, spot_stands, turned_at, live_follows, row_live, in_row, row_one_slot, slot_one}
use Rattle.spots.proofs.Held.{flat_size, places, wide_inside, own_inside, after_at, own_at, own_one, narrow_wide, wide_three, wide_row}
use Rattle.ranks.specs.InnerRanks.{how_many, without, TwoStand, TwoLeft}
use Rattle.ranks.proofs.Sums.{counts_same, without_here, without_other}
use Rattle.around.proofs.Nears.{map_out}
use Rattle.strike.specs.InnerStrike.{stands, Tallied, Inside, BothBeside, SomeBeside, Ordered, SlotsRenamed, Killed, LeavingTold, Ready, Struck}

-- places among the rows that stand are counted
rank_live : (S : List Spot) (i : ℕ) (r : Row) → get_or S i dead ≡ live r → rank (suc i) S ≡ suc (rank i S)
unfolding living
rank_live [] i r e = absurd (not_dead e)
rank_live (live z ∷ S) zero r e = refl
rank_live (dead ∷ S) zero r e = absurd (not_dead e)
rank_live (live z ∷ S) (suc i) r e = ap suc (rank_live S i r e)
rank_live (dead ∷ S) (suc i) r e = rank_live S i r e

rank_dead : (S : List Spot) (i : ℕ) → get_or S i dead ≡ dead → rank (suc i) S ≡ rank i S
unfolding living
rank_dead [] zero e = refl
rank_dead [] (suc i) e = refl
rank_dead (live z ∷ S) zero e = absurd (not_dead (sym e))
rank_dead (dead ∷ S) zero e = refl
rank_dead (live z ∷ S) (suc i) e = ap suc (rank_dead S i e)
rank_dead (dead ∷ S) (suc i) e = rank_dead S i e

rank_none : (S : List Spot) → rank 0 S ≡ 0
unfolding living
rank_none S = refl

pub stands_yes : (h : List ℕ) (i : ℕ) → get_or h (4 * i + 2) 0 ≢ most_corners → stands h i ≡ 1
unfolding stands
stands_yes h i n = go (ℕ_discrete (get_or h (4 * i + 2) 0) most_corners)
  where
    go : (d : Dec (get_or h (4 * i + 2) 0 ≡ most_corners)) → ite {C = ℕ} d 0 1 ≡ 1
    go (yes e) = absurd (n e)
    go (no e) = refl

stands_no : (h : List ℕ) (i : ℕ) → get_or h (4 * i + 2) 0 ≡ most_corners → stands h i ≡ 0
unfolding stands
stands_no h i n = go (ℕ_discrete (get_or h (4 * i + 2) 0) most_corners)
  where
    go : (d : Dec (get_or h (4 * i + 2) 0 ≡ most_corners)) → ite {C = ℕ} d 0 1 ≡ 0
    go (yes e) = refl
    go (no e) = absurd (e n)

stands_same : (h h' : List ℕ) (i : ℕ) → get_or h' (4 * i + 2) 0 ≡ get_or h (4 * i + 2) 0 → stands h' i ≡ stands h i
unfolding stands
stands_same h h' i e = ap (λ (z : ℕ). ite {C = ℕ} (ℕ_discrete z most_corners) 0 1) e

-- the first number of the row i
first_at : (h : List ℕ) → length h % 4 ≡ 0 → (i : ℕ) → 3 * i < length (flat_of h) → get_or (flat_of h) (3 * i) 0 ≡ get_or h (4 * i + 2) 0
first_at h w i l = let q = flat_size h w in (places h w i (omega arith)).0

pub tally_rank : {n : ℕ} (h : List ℕ) → HoldsStage n h → (i : ℕ) → 3 * i ≤ length (flat_of h) → how_many (stands h) 0 i ≡ rank i (map spot_of (rows (flat_of h)))
unfolding how_many
tally_rank h s zero l = sym (rank_none (map spot_of (rows (flat_of h))))
tally_rank h s (suc i) l = go (ℕ_discrete (get_or (flat_of h) (3 * i) 0) most_corners) (tally_rank h s i (omega arith))
  where
    t : List ℕ
    t = flat_of h

    S : List Spot
    S = map spot_of (rows (flat_of h))

    z : 0 + i ≡ i
    z = omega arith

    f : get_or (flat_of h) (3 * i) 0 ≡ get_or h (4 * i + 2) 0
    f = first_at h s.fours i (omega arith)

    go : Dec (get_or (flat_of h) (3 * i) 0 ≡ most_corners) → how_many (stands h) 0 i ≡ rank i (map spot_of (rows (flat_of h))) → how_many (stands h) 0 i + stands h (0 + i) ≡ rank (suc i) (map spot_of (rows (flat_of h)))
    go (yes k) r =
        let a = ap (stands h) z ∙ stands_no h i (sym f ∙ k) in
        let b : rank (suc i) (map spot_of (rows (flat_of h))) ≡ rank i (map spot_of (rows (flat_of h))) = rank_dead (map spot_of (rows (flat_of h))) i (spot_at (flat_of h) s.slotted i (omega arith) ∙ spot_dead _ _ _ k) in
        r_on a b r
      where
        r_on : stands h (0 + i) ≡ 0 → rank (suc i) (map spot_of (rows (flat_of h))) ≡ rank i (map spot_of (rows (flat_of h))) → how_many (stands h) 0 i ≡ rank i (map spot_of (rows (flat_of h))) → how_many (stands h) 0 i + stands h (0 + i) ≡ rank (suc i) (map spot_of (rows (flat_of h)))
        r_on a b r = omega arith
    go (no k) r =
        let a = ap (stands h) z ∙ stands_yes h i (λ q. k (f ∙ q)) in
        let b : rank (suc i) (map spot_of (rows (flat_of h))) ≡ suc (rank i (map spot_of (rows (flat_of h)))) = rank_live (map spot_of (rows (flat_of h))) i _ (spot_stands (flat_of h) s.slotted i (omega arith) k) in
        r_on a b r
      where
        r_on : stands h (0 + i) ≡ 1 → rank (suc i) (map spot_of (rows (flat_of h))) ≡ suc (rank i (map spot_of (rows (flat_of h)))) → how_many (stands h) 0 i ≡ rank i (map spot_of (rows (flat_of h))) → how_many (stands h) 0 i + stands h (0 + i) ≡ rank (suc i) (map spot_of (rows (flat_of h)))
        r_on a b r = omega arith

next_row : (e : ℕ) → next_slot e / 3 ≡ e / 3
next_row e = go (next_cases e)
  where
    go : ((e % 3 ≡ 2) × (next_slot e ≡ e - 2)) ⊎ ((e % 3 < 2) × (next_slot e ≡ e + 1)) → next_slot e / 3 ≡ e / 3
    go (inl k) = omega arith
    go (inr k) = omega arith

own_row : (e : ℕ) → own e / 4 ≡ e / 3
own_row e = wide_row (next_slot (next_slot e)) ∙ next_row (next_slot e) ∙ next_row e

-- the four places of a slot's row are there
row_fits : (e r n m : ℕ) → e < n → 4 * n ≡ 3 * m → m % 4 ≡ 0 → r ≡ e / 3 → 4 * r + 4 ≤ m
row_fits e r n m l q f x = by (m / 4) (omega arith)
  where
    by : (i : ℕ) → m ≡ 4 * i → 4 * r + 4 ≤ m
    by i k = let y : n ≡ 3 * i = omega arith in let z : e / 3 < i = omega arith in omega arith

-- u stands beside the slot e: right after it, or third
abbrev Beside : List ℕ → ℕ → ℕ → Type 0
Beside t u e = (get_or t (next_slot e) 0 ≡ u) ⊎ (get_or t (next_slot (next_slot e)) 0 ≡ u)

module _ {h ring sub sup : List ℕ} {u v : ℕ} (g : Ready h ring sub sup u v) where
  abbrev n : ℕ
  n = g.corners

  abbrev t : List ℕ
  t = flat_of h

  abbrev T : List Row
  T = held_rows h

  abbrev S : List Spot
  S = map spot_of (rows (flat_of h))

  abbrev l : List ℕ
  l = g.rings.slots

  s : Slotted g.corners (flat_of h)
  s = g.held.slotted

  threes : length (flat_of h) % 3 ≡ 0
  threes = s.whole.threes

  opp : (x : ℕ) × (y : ℕ) × Opposite T u v x y
  opp = opposite n T s.stage g.meets

  v_small : v < most_corners
  v_small = let b = s.stage.below opp.2.right in let f = s.stage.many in omega arith

  u_small : u < most_corners
  u_small = let b = s.stage.below opp.2.left in let f = s.stage.many in omega arith

  -- the slot (v, u, y) and the slot (v, x, u)
  after_u : At t v u opp.1
  after_u = live_slot t s opp.2.right

  third_u : At t v opp.0 u
  third_u = live_slot t s (turn opp.2.left)

  live_v : {e : ℕ} → e ∈ l → get_or t e 0 ≢ most_corners
  live_v m z = let k = (g.rings.lists.only m).1 in let b = v_small in omega arith

  -- a place of the ring is that of a slot of v
  slot_of : {x : ℕ} → x ∈ ring → (e : ℕ) × (e ∈ l) × (wide e ≡ x)
  slot_of m = map_out (λ (e : ℕ). wide e) g.rings.slots (rw g.rings.are at m)

  in_ring : {e : ℕ} → e ∈ l → wide e ∈ ring
  in_ring m = rw g.rings.are (Memᴰ.map (λ (e : ℕ). wide e) m)

  slot_inside : {e : ℕ} → e ∈ l → e < length t
  slot_inside m = (g.rings.lists.only m).0

  pub ring_inside : Inside h ring
  ring_inside = record { most = let q = flat_size h g.held.fours in let m = s.whole.most in omega arith; slots = λ {x} m. at x (slot_of m) }
    where
      at : (x : ℕ) → ((e : ℕ) × (e ∈ g.rings.slots) × (wide e ≡ x)) → (x < length h) × (x % 4 < 3) × (own_place_lem x < length h) × (after_place x < length h)
      at x z =
          let i = slot_inside z.1 in
          let w = g.held.fours in
          rw (sym z.2, narrow_wide z.0) (wide_inside h w i, wide_three z.0, own_inside h w i, wide_inside h w (next_inside (length t) z.0 threes i))

  -- u comes after a slot, or is third there: what the held table says
  after_is_u : {e : ℕ} → e ∈ l → get_or h (wide e) 0 ≡ get_or t (next_slot e) 0
  after_is_u {e} m = sym (after_at h g.held.fours e (slot_inside m))

  third_is_u : {e : ℕ} → e ∈ l → get_or h (after_place (wide e)) 0 ≡ get_or t (next_slot (next_slot e)) 0
  third_is_u {e} m = rw (narrow_wide e) (sym (after_at h g.held.fours (next_slot e) (next_inside (length t) e threes (slot_inside m))))

  pub some_beside : SomeBeside h ring u
  some_beside = record {
    one = wide after_u.e;
    two = wide third_u.e;
    both = record {
      one_in = in_ring m₁;
      one_is = after_is_u m₁ ∙ after_u.is_p;
      two_in = in_ring m₂;
      two_is = third_is_u m₂ ∙ third_u.is_q;
    };
  }
    where
      m₁ : after_u.e ∈ g.rings.slots
      m₁ = g.rings.lists.all after_u.e after_u.inside after_u.is_v

      m₂ : third_u.e ∈ g.rings.slots
      m₂ = g.rings.lists.all third_u.e third_u.inside third_u.is_v

  -- one slot of v has u right after it, and one has it third
  one_after : {e f : ℕ} → e ∈ l → f ∈ l → get_or t (next_slot e) 0 ≡ u → get_or t (next_slot f) 0 ≡ u → e ≡ f
  one_after {e} {f} m k p q =
      let a = g.rings.lists.only m in
      let b = g.rings.lists.only k in
      slot_one t s e f a.0 b.0 (live_v m) (a.1 ∙ sym b.1) (p ∙ sym q)

  one_third : {e f : ℕ} → e ∈ l → f ∈ l → get_or t (next_slot (next_slot e)) 0 ≡ u → get_or t (next_slot (next_slot f)) 0 ≡ u → e ≡ f
  one_third {e} {f} m k p q =
      let a = g.rings.lists.only m in
      let b = g.rings.lists.only k in
      let i = next_inside (length t) (next_slot e) threes (next_inside (length t) e threes a.0) in
      let j = next_inside (length t) (next_slot f) threes (next_inside (length t) f threes b.0) in
      let back : (z : ℕ) → get_or t (next_slot (next_slot (next_slot z))) 0 ≡ get_or t z 0 = λ z. ap (λ (w : ℕ). get_or t w 0) (next_round z) in
      let r : next_slot (next_slot e) ≡ next_slot (next_slot f) =
      slot_one t s (next_slot (next_slot e)) (next_slot (next_slot f)) i j (λ z. let h = u_small in omega arith) (p ∙ sym q) (back e ∙ a.1 ∙ sym b.1 ∙ sym (back f))
      in
      sym (next_round e) ∙ ap next_slot r ∙ next_round f

  -- the slots of v in the later row that leaves and in the earlier one: u is beside them, and beside no other
  record Leave (earlier later : ℕ) : Type 0 where
    a : ℕ
    b : ℕ
    a_in : a ∈ l
    b_in : b ∈ l
    beside_a : Beside t u a
    beside_b : Beside t u b
    one_of : (e : ℕ) → e ∈ l → Beside t u e → (e ≡ a) ⊎ (e ≡ b)
    is_later : later ≡ a / 3
    is_earlier : earlier ≡ b / 3
    fall : earlier < later

  leave : {one two er lr : ℕ} → BothBeside h ring u one two → Ordered one two er lr → Leave er lr
  leave {one} {two} {er} {lr} bb o = go o
    where
      z₁ : (e : ℕ) × (e ∈ l) × (wide e ≡ one)
      z₁ = slot_of bb.one_in

      z₂ : (e : ℕ) × (e ∈ l) × (wide e ≡ two)
      z₂ = slot_of bb.two_in

      after : get_or t (next_slot z₁.0) 0 ≡ u
      after = sym (after_is_u z₁.1) ∙ ap (λ (x : ℕ). get_or h x 0) z₁.2 ∙ bb.one_is

      third : get_or t (next_slot (next_slot z₂.0)) 0 ≡ u
      third = sym (third_is_u z₂.1) ∙ ap (λ (x : ℕ). get_or h (after_place x) 0) z₂.2 ∙ bb.two_is

      row₁ : one / 4 ≡ z₁.0 / 3
      row₁ = ap (λ (x : ℕ). x / 4) (sym z₁.2) ∙ wide_row z₁.0

      row₂ : two / 4 ≡ z₂.0 / 3
      row₂ = ap (λ (x : ℕ). x / 4) (sym z₂.2) ∙ wide_row z₂.0

      -- two rows: in one row u would stand twice
      differ : z₁.0 / 3 ≢ z₂.0 / 3
      differ q =
          let a = g.rings.lists.only z₁.1 in
          let b = g.rings.lists.only z₂.1 in
          let e = row_one_slot t s z₁.0 z₂.0 a.0 (live_v z₁.1) q (a.1 ∙ sym b.1) in
          let i = next_inside (length t) z₁.0 threes a.0 in
          let f = live_follows t s (next_slot z₁.0) i (λ k. (let m = u_small in let r = after in omega arith)) in
          s.stage.apart f (after ∙ sym third ∙ ap (λ (x : ℕ). get_or t (next_slot (next_slot x)) 0) (sym e))

      which : (e : ℕ) → e ∈ l → Beside t u e → (e ≡ z₁.0) ⊎ (e ≡ z₂.0)
      which e m (inl k) = inl (one_after m z₁.1 k after)
      which e m (inr k) = inr (one_third m z₂.1 k third)

      which' : (e : ℕ) → e ∈ l → Beside t u e → (e ≡ z₂.0) ⊎ (e ≡ z₁.0)
      which' e m k = elim (which e m k) [ inl x ↦ inr x | inr x ↦ inl x ]

      go : Ordered one two er lr → Leave er lr
      go (inl k) =
          let r₁ = row₁ in
          let r₂ = row₂ in
          let i = k.1 in
          let j = k.2 in
          let d = differ in
          let c = k.0 in
          record { a = z₂.0; b = z₁.0; a_in = z₂.1; b_in = z₁.1; beside_a = inr third; beside_b = inl after; one_of = which'; is_later = j ∙ r₂; is_earlier = i ∙ r₁; fall = less one two c i j (λ q. d (sym r₁ ∙ q ∙ r₂)) }
        where
          less : (x y : ℕ) → x < y → er ≡ x / 4 → lr ≡ y / 4 → x / 4 ≢ y / 4 → er < lr
          less x y c i j d = strict (ℕ_discrete (x / 4) (y / 4))
            where
              strict : Dec (x / 4 ≡ y / 4) → er < lr
              strict (yes q) = absurd (d q)
              strict (no q) = omega arith
      go (inr k) =
          let r₁ = row₁ in
          let r₂ = row₂ in
          let i = k.1 in
          let j = k.2 in
          let d = differ in
          let c = k.0 in
          record { a = z₁.0; b = z₂.0; a_in = z₁.1; b_in = z₂.1; beside_a = inl after; beside_b = inr third; one_of = which; is_later = j ∙ r₁; is_earlier = i ∙ r₂; fall = less two one c i j (λ q. d (sym r₁ ∙ sym q ∙ r₂)) }
        where
          less : (x y : ℕ) → x ≤ y → er ≡ x / 4 → lr ≡ y / 4 → x / 4 ≢ y / 4 → er < lr
          less x y c i j d = strict (ℕ_discrete (x / 4) (y / 4))
            where
              strict : Dec (x / 4 ≡ y / 4) → er < lr
              strict (yes q) = absurd (d q)
              strict (no q) = omega arith

  module _ {one two er lr : ℕ} (bb : BothBeside h ring u one two) (oo : Ordered one two er lr) where
    w : Leave er lr
    w = leave bb oo

    a_slot : (w.a < length t) × (get_or t w.a 0 ≡ v)
    a_slot = g.rings.lists.only w.a_in

    b_slot : (w.b < length t) × (get_or t w.b 0 ≡ v)
    b_slot = g.rings.lists.only w.b_in

    pub fits_later : 4 * lr + 4 ≤ length h
    fits_later = row_fits w.a lr (length t) (length h) a_slot.0 (flat_size h g.held.fours) g.held.fours w.is_later

    pub fits_earlier : 4 * er + 4 ≤ length h
    fits_earlier = row_fits w.b er (length t) (length h) b_slot.0 (flat_size h g.held.fours) g.held.fours w.is_earlier

    pub small_later : lr < most_rows
    small_later = let f = fits_later in let m = ring_inside.most in omega arith

    pub small_earlier : er < most_rows
    small_earlier = let f = fits_earlier in let m = ring_inside.most in omega arith

    abbrev row_at : ℕ → Row
    row_at r = row (get_or t (3 * r) 0) (get_or t (3 * r + 1) 0) (get_or t (3 * r + 2) 0)

    first_later : get_or t (3 * lr) 0 ≢ most_corners
    first_later = rw w.is_later (row_live t s w.a a_slot.0 (live_v w.a_in))

    first_earlier : get_or t (3 * er) 0 ≢ most_corners
    first_earlier = rw w.is_earlier (row_live t s w.b b_slot.0 (live_v w.b_in))

    in_later : 3 * lr < length t
    in_later = let q = a_slot.0 in let e = w.is_later in omega arith

    in_earlier : 3 * er < length t
    in_earlier = let q = b_slot.0 in let e = w.is_earlier in omega arith

    stands_earlier : stands h er ≡ 1
    stands_earlier = stands_yes h er (λ q. first_earlier (first_at h g.held.fours er in_earlier ∙ q))

    stands_later : stands h lr ≡ 1
    stands_later = stands_yes h lr (λ q. first_later (first_at h g.held.fours lr in_later ∙ q))

    two_rows : er ≢ lr
    two_rows q = let f = w.fall in omega arith

    -- both rows are counted
    pub both_stand : TwoStand er lr sub sup
    both_stand = record { set = stands h; counts = g.tallied; first = stands_earlier; second = stands_later; apart = two_rows }

    leaves : (e : ℕ) → e ∈ l → Beside t u e → ¬ Stays u v (row_at (e / 3))
    leaves e m k st = st (holds_u k, turned_holds (turned_at t s e) (at_0 (sym (g.rings.lists.only m).1)))
      where
        holds_u : Beside t u e → Holds (row_at (e / 3)) u
        holds_u (inl q) = turned_holds (turned_at t s e) (at_1 (sym q))
        holds_u (inr q) = turned_holds (turned_at t s e) (at_2 (sym q))

    leaves_later : ¬ Stays u v (row_at lr)
    leaves_later = rw w.is_later (leaves w.a w.a_in w.beside_a)

    leaves_earlier : ¬ Stays u v (row_at er)
    leaves_earlier = rw w.is_earlier (leaves w.b w.b_in w.beside_b)

    live_later : get_or S lr dead ≡ live (row_at lr)
    live_later = spot_stands t s lr in_later first_later

    live_earlier : get_or S er dead ≡ live (row_at er)
    live_earlier = spot_stands t s er in_earlier first_earlier

    -- a row that holds both is one of the two
    both_leave : (r : ℕ) → 3 * r < length t → Holds (row_at r) u → Holds (row_at r) v → (r ≡ lr) ⊎ (r ≡ er)
    both_leave r i hu hv = go (slot_in hu) (slot_in hv)
      where
        slot_in : {x : ℕ} → Holds (row_at r) x → (e : ℕ) × (e < length t) × (get_or t e 0 ≡ x) × (e / 3 ≡ r)
        slot_in (at_0 q) = (3 * r, i, sym q, omega arith)
        slot_in (at_1 q) = let th = threes in (3 * r + 1, omega arith, sym q, omega arith)
        slot_in (at_2 q) = let th = threes in (3 * r + 2, omega arith, sym q, omega arith)

        back : (e : ℕ) → e / 3 ≡ r → (e ≡ w.a) ⊎ (e ≡ w.b) → (r ≡ lr) ⊎ (r ≡ er)
        back e q (inl k) = inl (let x = w.is_later in omega arith)
        back e q (inr k) = inr (let x = w.is_earlier in omega arith)

        go : ((e : ℕ) × (e < length t) × (get_or t e 0 ≡ u) × (e / 3 ≡ r)) → ((e : ℕ) × (e < length t) × (get_or t e 0 ≡ v) × (e / 3 ≡ r)) → (r ≡ lr) ⊎ (r ≡ er)
        go eu ev = back ev.0 ev.3 (w.one_of ev.0 m (side (in_row t s ev.0 eu.0 (ev.3 ∙ sym eu.3))))
          where
            m : ev.0 ∈ l
            m = g.rings.lists.all ev.0 ev.1 ev.2

            side : (eu.0 ≡ ev.0) ⊎ ((eu.0 ≡ next_slot ev.0) ⊎ (eu.0 ≡ next_slot (next_slot ev.0))) → Beside t u ev.0
            side (inl q) = let ri = g.rises in let x : u ≡ v = sym eu.2 ∙ ap (λ (z : ℕ). get_or t z 0) q ∙ ev.2 in absurd (omega arith)
            side (inr (inl q)) = inl (ap (λ (z : ℕ). get_or t z 0) (sym q) ∙ eu.2)
            side (inr (inr q)) = inr (ap (λ (z : ℕ). get_or t z 0) (sym q) ∙ eu.2)

    module _ {h₁ h₂ h₃ : List ℕ} (re : SlotsRenamed h ring u h₁) (k₁ : Killed h₁ er h₂) (k₂ : Killed h₂ lr h₃) where
      pub size : length h₃ ≡ length h
      size = k₂.size ∙ k₁.size ∙ re.size

      fours₃ : length h₃ % 4 ≡ 0
      fours₃ = rw size g.held.fours

      abbrev t₃ : List ℕ
      t₃ = flat_of h₃

      flat_same : length t₃ ≡ length t
      flat_same = let a = flat_size h₃ fours₃ in let b = flat_size h g.held.fours in let c = size in omega arith

      at₃ : (e : ℕ) → e < length t → get_or t₃ e 0 ≡ get_or h₃ (own e) 0
      at₃ e i = own_at h₃ fours₃ e (rw flat_same i)

      gone : (e : ℕ) → e < length t → (e / 3 ≡ lr) ⊎ (e / 3 ≡ er) → get_or t₃ e 0 ≡ most_corners
      gone e i (inl q) = at₃ e i ∙ k₂.there (own e) (own_row e ∙ q)
      gone e i (inr q) = let f = w.fall in let r = own_row e in at₃ e i ∙ k₂.else (own e) (λ z. omega arith) ∙ k₁.there (own e) (r ∙ q)

      -- in the other rows u stands for v
      other : (e : ℕ) → e < length t → e / 3 ≢ lr → e / 3 ≢ er → get_or t₃ e 0 ≡ replace u v (get_or t e 0)
      other e i na nb = at₃ e i ∙ k₂.else (own e) (λ z. na (sym (own_row e) ∙ z)) ∙ k₁.else (own e) (λ z. nb (sym (own_row e) ∙ z)) ∙ go (ℕ_discrete (get_or t e 0) v)
        where
          go : Dec (get_or t e 0 ≡ v) → get_or h₁ (own e) 0 ≡ replace u v (get_or t e 0)
          go (yes q) = (rw (narrow_wide e) at (re.there (in_ring (g.rings.lists.all e i q)))) ∙ sym (replace_at u v q)
          go (no q) = re.else (own e) (λ x m p. apart x p (slot_of m)) ∙ sym (own_at h g.held.fours e i) ∙ sym (replace_off u v q)
            where
              apart : (x : ℕ) → own e ≡ own_place_lem x → ((f : ℕ) × (f ∈ l) × (wide f ≡ x)) → ⊥
              apart x p z =
                  let k : own_place_lem x ≡ own z.0 = ap (λ (y : ℕ). own_place_lem y) (sym z.2) ∙ ap own (narrow_wide z.0) in
                  let f : e ≡ z.0 = own_one (p ∙ k) in
                  q (ap (λ (y : ℕ). get_or t y 0) f ∙ (g.rings.lists.only z.1).1)

      data Case (r : ℕ) : Type 0 where
        leaving_row : (r ≡ lr) ⊎ (r ≡ er) → Case r
        staying_row : r ≢ lr → r ≢ er → Case r

      case : (r : ℕ) → Case r
      case r = go (ℕ_discrete r lr) (ℕ_discrete r er)
        where
          go : Dec (r ≡ lr) → Dec (r ≡ er) → Case r
          go (yes p) q = leaving_row (inl p)
          go (no p) (yes q) = leaving_row (inr q)
          go (no p) (no q) = staying_row p q

      replace_none : (z : ℕ) → replace u v z ≡ most_corners → z ≡ most_corners
      replace_none z q = go (ℕ_discrete z v)
        where
          go : Dec (z ≡ v) → z ≡ most_corners
          go (yes k) = let x : u ≡ most_corners = sym (replace_at u v k) ∙ q in let i = u_small in absurd (omega arith)
          go (no k) = sym (replace_off u v k) ∙ q

      none_replace : (z : ℕ) → z ≡ most_corners → replace u v z ≡ most_corners
      none_replace z q = replace_off u v (λ k. let i = v_small in omega arith) ∙ q

      abbrev spots₃ : List Spot
      spots₃ = map spot_of (rows (flat_of h₃))

      threes₃ : length t₃ % 3 ≡ 0
      threes₃ = rw flat_same threes

      spot₃ : (r : ℕ) → 3 * r < length t → get_or spots₃ r dead ≡ spot_of (row (get_or t₃ (3 * r) 0) (get_or t₃ (3 * r + 1) 0) (get_or t₃ (3 * r + 2) 0))
      spot₃ r i =
          let x = whole_rows t₃ threes₃ in
          let z = flat_same in
          let th = threes in
          let f : r < length (rows t₃) = omega arith in
          get_or_spots (rows t₃) r (row 0 0 0) f ∙ ap spot_of (rows_at r t₃ (row 0 0 0) f)

      gone_row : (r : ℕ) → 3 * r < length t → (r ≡ lr) ⊎ (r ≡ er) → get_or t₃ (3 * r) 0 ≡ most_corners
      gone_row r i (inl p) = gone (3 * r) i (inl (omega arith))
      gone_row r i (inr p) = gone (3 * r) i (inr (omega arith))

      changed : (r : ℕ) → 3 * r < length t → Case r → Dec (get_or t (3 * r) 0 ≡ most_corners) → Changed u v (get_or S r dead) (get_or spots₃ r dead)
      changed r i (leaving_row (inl p)) d = left_it (row_at lr) (rw p live_later) leaves_later (spot₃ r i ∙ spot_dead _ _ _ (gone_row r i (inl p)))
      changed r i (leaving_row (inr p)) d = left_it (row_at er) (rw p live_earlier) leaves_earlier (spot₃ r i ∙ spot_dead _ _ _ (gone_row r i (inr p)))
      changed r i (staying_row na nb) (yes d) =
          was_dead (spot_at t s r i ∙ spot_dead _ _ _ d)
          (spot₃ r i ∙ spot_dead _ _ _ (other (3 * r) i (λ q. na (omega arith)) (λ q. nb (omega arith)) ∙ none_replace (get_or t (3 * r) 0) d))
      changed r i (staying_row na nb) (no d) =
          renamed_it (row_at r) (spot_stands t s r i d) (λ z. elim (both_leave r i z.0 z.1) [ inl q ↦ na q | inr q ↦ nb q ])
          (spot₃ r i ∙ ap spot_of new ∙ stay)
        where
          o : (e : ℕ) → e < length t → e / 3 ≡ r → get_or t₃ e 0 ≡ replace u v (get_or t e 0)
          o e f q = other e f (λ z. na (sym q ∙ z)) (λ z. nb (sym q ∙ z))

          new : row (get_or t₃ (3 * r) 0) (get_or t₃ (3 * r + 1) 0) (get_or t₃ (3 * r + 2) 0) ≡ row (replace u v (get_or t (3 * r) 0)) (replace u v (get_or t (3 * r + 1) 0)) (replace u v (get_or t (3 * r + 2) 0))
          new =
              let th = threes in
              let x = o (3 * r) i (omega arith) in
              let y = o (3 * r + 1) (omega arith) (omega arith) in
              let z = o (3 * r + 2) (omega arith) (omega arith) in
              λ k. row (x k) (y k) (z k)

          stay : spot_of (row (replace u v (get_or t (3 * r) 0)) (replace u v (get_or t (3 * r + 1) 0)) (replace u v (get_or t (3 * r + 2) 0))) ≡ live (renumber u v (row_at r))
          stay = spot_live _ _ _ (λ q. d (replace_none (get_or t (3 * r) 0) q)) ∙ (unfold renumber in refl)

      -- the rows that stand are those of the contraction
      pub contracted : contract u v T ≡ held_rows h₃
      contracted = unfold live_rows in sym (spots_contract u v S spots₃ long (λ r i. changed r (short r i) (case r) (ℕ_discrete (get_or t (3 * r) 0) most_corners)))
        where
          len₃ : length spots₃ ≡ length (rows t₃)
          len₃ = length-map spot_of (rows t₃)

          len : length S ≡ length (rows t)
          len = length-map spot_of (rows t)

          long : length spots₃ ≡ length S
          long = let p = len₃ in let q = len in let x = whole_rows t threes in let y = whole_rows t₃ threes₃ in let z = flat_same in omega arith

          short : (r : ℕ) → r < length spots₃ → 3 * r < length t
          short r i = let p = len₃ in let y = whole_rows t₃ threes₃ in let z = flat_same in omega arith

      clean₃ : (e : ℕ) → e < length t → get_or t₃ e 0 ≡ most_corners → Case (e / 3) → get_or t₃ (next_slot e) 0 ≡ most_corners
      clean₃ e i q (leaving_row x) = gone (next_slot e) (next_inside (length t) e threes i) (elim x [ inl z ↦ inl (next_row e ∙ z) | inr z ↦ inr (next_row e ∙ z) ])
      clean₃ e i q (staying_row na nb) =
          let z = replace_none (get_or t e 0) (sym (other e i na nb) ∙ q) in
          other (next_slot e) (next_inside (length t) e threes i) (λ y. na (sym (next_row e) ∙ y)) (λ y. nb (sym (next_row e) ∙ y))
          ∙ none_replace (get_or t (next_slot e) 0) (s.clean e i z)

      pub held_on : {m : ℕ} → HoldsStage m h → HoldsStage m h₃
      held_on {m} x = record {
        fours = fours₃;
        slotted = record {
          whole = record { threes = threes₃; most = rw flat_same s.whole.most };
          clean = λ e i q. clean₃ e (rw flat_same at i) q (case (e / 3));
          stage = rw contracted at (contraction m T x.slotted.stage u v g.meets);
        };
      }

      pub changes : (e : ℕ) → e < length t → (get_or t₃ e 0 ≡ get_or t e 0) ⊎ (((get_or t e 0 ≡ v) × (get_or t₃ e 0 ≡ u)) ⊎ (get_or t₃ e 0 ≡ most_corners))
      changes e i = go (case (e / 3)) (ℕ_discrete (get_or t e 0) v)
        where
          go : Case (e / 3) → Dec (get_or t e 0 ≡ v) → (get_or t₃ e 0 ≡ get_or t e 0) ⊎ (((get_or t e 0 ≡ v) × (get_or t₃ e 0 ≡ u)) ⊎ (get_or t₃ e 0 ≡ most_corners))
          go (leaving_row x) d = inr (inr (gone e i x))
          go (staying_row na nb) (yes q) = inr (inl (q, other e i na nb ∙ replace_at u v q))
          go (staying_row na nb) (no q) = inl (other e i na nb ∙ replace_off u v q)

      -- the bits of the rows, those past the table too
      bits : (r : ℕ) → without (without (stands h) er) lr r ≡ stands h₃ r
      bits r = go (ℕ_discrete r lr) (ℕ_discrete r er) (dec_lt (3 * r) (length t))
        where
          row_of : (4 * r + 2) / 4 ≡ r
          row_of = omega arith

          dead_bit : get_or h₃ (4 * r + 2) 0 ≡ most_corners → stands h₃ r ≡ 0
          dead_bit q = stands_no h₃ r q

          go : Dec (r ≡ lr) → Dec (r ≡ er) → Dec (3 * r < length t) → without (without (stands h) er) lr r ≡ stands h₃ r
          go (yes p) q d = rw p (without_here (without (stands h) er) lr) ∙ sym (dead_bit (k₂.there (4 * r + 2) (row_of ∙ p)))
          go (no p) (yes q) d =
              without_other (without (stands h) er) lr r p
              ∙ rw q (without_here (stands h) er)
              ∙ sym (dead_bit (k₂.else (4 * r + 2) (λ z. p (sym row_of ∙ z)) ∙ k₁.there (4 * r + 2) (row_of ∙ q)))
          go (no p) (no q) (yes d) =
              without_other (without (stands h) er) lr r p
              ∙ without_other (stands h) er r q
              ∙ alive (ℕ_discrete (get_or t (3 * r) 0) most_corners)
            where
              here : get_or t (3 * r) 0 ≡ get_or h (4 * r + 2) 0
              here = first_at h g.held.fours r d

              here₃ : get_or t₃ (3 * r) 0 ≡ get_or h₃ (4 * r + 2) 0
              here₃ = first_at h₃ fours₃ r (rw flat_same d)

              now : get_or t₃ (3 * r) 0 ≡ replace u v (get_or t (3 * r) 0)
              now = other (3 * r) d (λ z. p (omega arith)) (λ z. q (omega arith))

              alive : Dec (get_or t (3 * r) 0 ≡ most_corners) → stands h r ≡ stands h₃ r
              alive (yes z) = stands_no h r (sym here ∙ z) ∙ sym (stands_no h₃ r (sym here₃ ∙ now ∙ none_replace (get_or t (3 * r) 0) z))
              alive (no z) = stands_yes h r (λ y. z (here ∙ y)) ∙ sym (stands_yes h₃ r (λ y. z (replace_none (get_or t (3 * r) 0) (sym now ∙ here₃ ∙ y))))
          go (no p) (no q) (no d) =
              without_other (without (stands h) er) lr r p
              ∙ without_other (stands h) er r q
              ∙ sym (stands_same h h₃ r (k₂.else (4 * r + 2) (λ z. p (sym row_of ∙ z)) ∙ k₁.else (4 * r + 2) (λ z. q (sym row_of ∙ z)) ∙ re.else (4 * r + 2) (λ x m z. past x m z)))
            where
              past : (x : ℕ) → x ∈ ring → 4 * r + 2 ≡ own_place_lem x → ⊥
              past x m z = let i = (ring_inside.slots m).2 in let f = flat_size h g.held.fours in omega arith

      module _ {sub' sup' : List ℕ} (le : TwoLeft er lr sub sup sub' sup') where
        pub tallied_on : Tallied h₃ sub' sup'
        tallied_on = counts_same (without (without (stands h) er) lr) (stands h₃) sub' sup' bits (le.counts (stands h) g.tallied stands_earlier stands_later two_rows)

        pub struck : (earlier later : Leaving) (kept removed : Corner) → kept.0 ≡ u → removed.0 ≡ v → LeavingTold h sub sup er earlier → LeavingTold h sub sup lr later →
            Struck h u v (record { kept = kept; removed = removed; earlier = earlier; later = later }) h₃ sub' sup'
        struck earlier later kept removed ek er' te tl = record {
          size = size;
          kept_is = ek;
          removed_is = er';
          replays = record {
            lower = rw (ek, er') g.rises;
            meets = rw (ek, er') g.meets;
            leaves = rw (ek, er') contracted;
            record_is = rw (ek, er') record_is;
          };
          held = λ x. held_on x;
          tallied = tallied_on;
          changes = changes;
        }
          where
            place_b : rank er S ≡ earlier.place.0
            place_b = sym (tally_rank h g.held er (let i = in_earlier in omega arith)) ∙ sym (te.place (stands h) g.tallied)

            place_a : rank lr S ≡ later.place.0
            place_a = sym (tally_rank h g.held lr (let i = in_later in omega arith)) ∙ sym (tl.place (stands h) g.tallied)

            row_b : row_at er ≡ row earlier.a.0 earlier.b.0 earlier.c.0
            row_b = (let f = fits_earlier in let p = places h g.held.fours er (omega arith) in λ k. row (p.0 k) (p.1 k) (p.2 k)) ∙ sym te.is

            row_a : row_at lr ≡ row later.a.0 later.b.0 later.c.0
            row_a = (let f = fits_later in let p = places h g.held.fours lr (omega arith) in λ k. row (p.0 k) (p.1 k) (p.2 k)) ∙ sym tl.is

            told : leaving u v (living S) ≡ at (rank er S) (row_at er) ∷ at (rank lr S) (row_at lr) ∷ []
            told = spots_record n S u v er lr (row_at er) (row_at lr) (unfold live_rows in s.stage) (unfold live_rows in g.meets) w.fall live_earlier live_later leaves_earlier leaves_later

            record_is : leaving u v T ≡ at earlier.place.0 (row earlier.a.0 earlier.b.0 earlier.c.0) ∷ at later.place.0 (row later.a.0 later.b.0 later.c.0) ∷ []
            record_is =
                let z : leaving u v T ≡ at (rank er S) (row_at er) ∷ at (rank lr S) (row_at lr) ∷ [] = unfold live_rows in told in
                z ∙ (λ k. at (place_b k) (row_b k) ∷ at (place_a k) (row_a k) ∷ [])
