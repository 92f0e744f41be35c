-- A number written in a slot: the slot is taken out of one chain and put into the other, and the chains are those of the new table.
use mathlib.Core.Path.{◌≡◌, refl, sym, ◌∙◌, ap}
use mathlib.Core.Logic.{◌≢◌, ◌⊎◌, inl, inr}
use mathlib.Core.List.{List}
use Prim.Native.Nat.{ℕ, zero, suc, ◌+◌, ◌-◌, ◌≤◌, ◌<◌}
use native.Mathlib.Decide.{dec_lt, ℕ_discrete}
use native.Mathlib.Omega.{arith}
use lib.ListN.{length, get_or, set, length-set}
use lib.Seq.{get_or-set_same, get_or-set_other, set-get_or}
use Rattle.slots.specs.Slot.{Whole, Under}
use Rattle.slots.specs.Chain.{Last, Chained}
use Rattle.chart.specs.Links.{Link, top, after, hung_last, hung_prev}
use Rattle.chart.specs.Chart.{InChains, Above}

pub link_upto : (t : List ℕ) (u x : ℕ) → Link t u x → x ≤ length t
unfolding Link
link_upto t u zero k = omega arith
link_upto t u (suc e) k = let h = k.0 in omega arith

-- the head of a chain, and its other links, as the code reads and writes them
module _ (last prev : List ℕ) (u x z : ℕ) where
  pub head_after : x ≡ 0 → get_or last u 0 ≡ after last prev u x
  unfolding after
  head_after e = rw e refl

  pub head_hung : x ≡ 0 → (set last u z ≡ hung_last last u x z) × (prev ≡ hung_prev prev x z)
  unfolding hung_last hung_prev
  head_hung e = rw e (refl, refl)

  link_is : 0 < x → x ≡ suc (x - 1)
  link_is h = omega arith

  pub link_after : 0 < x → get_or prev (x - 1) 0 ≡ after last prev u x
  unfolding after
  link_after h = ap (after last prev u) (sym (link_is h))

  pub link_hung : 0 < x → (last ≡ hung_last last u x z) × (set prev (x - 1) z ≡ hung_prev prev x z)
  unfolding hung_last hung_prev
  link_hung h = (ap (λ (y : ℕ). hung_last last u y z) (sym (link_is h)), ap (λ (y : ℕ). hung_prev prev y z) (sym (link_is h)))

-- what a chain has on each of its links, the head and the slots alike
module _ (t last prev : List ℕ) where
  on_link : Chained t last prev → (u x : ℕ) → u < length last → Link t u x → Last t u (top t x) (after last prev u x)
  unfolding top Link after
  on_link c u zero h k = c.heads.lasts u h
  on_link c u (suc e) h k = rw k.1 at (c.links e k.0)

  by_links : Under t (length last) → length t ≤ length prev → ((u x : ℕ) → u < length last → Link t u x → Last t u (top t x) (after last prev u x)) → Chained t last prev
  unfolding top Link after
  by_links n r f = record { room = r; heads = record { lasts = λ v h. f v zero h _ }; links = λ e h. f (get_or t e 0) (suc e) (n.under e h) (h, refl) }

-- the link right above a slot is one
above_one : (t : List ℕ) (u e x y : ℕ) → Above t u e x → Above t u e y → x ≡ y
unfolding top Link
above_one t u e zero zero a b = refl
above_one t u e zero (suc y) a b = absurd (a.none y b.over b.link.0 b.link.1)
above_one t u e (suc x) zero a b = absurd (b.none x a.over a.link.0 a.link.1)
above_one t u e (suc x) (suc y) a b = go (dec_lt x y) (dec_lt y x)
  where
    go : Dec (x < y) → Dec (y < x) → suc x ≡ suc y
    go (yes h) d = absurd (b.none x a.over h a.link.1)
    go (no h) (yes d) = absurd (a.none y b.over d b.link.1)
    go (no h) (no d) = omega arith

-- z hung on the link x of the chain of u
hung_here : (last prev : List ℕ) (u x z : ℕ) → u < length last → x ≤ length prev → after (hung_last last u x z) (hung_prev prev x z) u x ≡ z
unfolding after hung_last hung_prev
hung_here last prev u zero z h k = get_or-set_same last u z 0 h
hung_here last prev u (suc e) z h k = get_or-set_same prev e z 0 (omega arith)

-- another link: another slot, or the head of another chain
abbrev Other : ℕ → ℕ → ℕ → ℕ → Type 0
Other u x v y = (x ≢ y) ⊎ ((x ≡ 0) × (u ≢ v))

hung_other : (last prev : List ℕ) (u x z v y : ℕ) → Other u x v y → after (hung_last last u x z) (hung_prev prev x z) v y ≡ after last prev v y
unfolding after hung_last hung_prev
hung_other last prev u zero z v zero (inl n) = absurd (n refl)
hung_other last prev u zero z v zero (inr n) = get_or-set_other last u v z 0 (λ e. n.1 (sym e))
hung_other last prev u zero z v (suc f) n = refl
hung_other last prev u (suc e) z v zero n = refl
hung_other last prev u (suc e) z v (suc f) (inl n) = get_or-set_other prev e f z 0 (λ h. n (ap suc (sym h)))
hung_other last prev u (suc e) z v (suc f) (inr n) = absurd (let h = n.0 in omega arith)

-- links of two chains are other links
other_chain : (t : List ℕ) (u x v y : ℕ) → Link t u x → Link t v y → u ≢ v → Other u x v y
unfolding Link
other_chain t u zero v y k l n = inr (refl, n)
other_chain t u (suc e) v zero k l n = inl (λ h. omega (arith, h))
other_chain t u (suc e) v (suc f) k l n = inl (λ h. n (sym k.1 ∙ ap (λ (z : ℕ). get_or t z 0) (let i : e ≡ f = omega (arith, h) in i) ∙ l.1))

hung_last_length : (last : List ℕ) (u x z : ℕ) → length (hung_last last u x z) ≡ length last
unfolding hung_last
hung_last_length last u zero z = length-set last u z
hung_last_length last u (suc e) z = refl

hung_prev_length : (prev : List ℕ) (x z : ℕ) → length (hung_prev prev x z) ≡ length prev
unfolding hung_prev
hung_prev_length prev zero z = refl
hung_prev_length prev (suc e) z = length-set prev e z

-- a link that is not the slot e keeps what hangs on it where prev is set at e
set_other_link : (last prev : List ℕ) (e d u x : ℕ) → x ≢ suc e → after last (set prev e d) u x ≡ after last prev u x
unfolding after
set_other_link last prev e d u zero n = refl
set_other_link last prev e d u (suc f) n = get_or-set_other prev e f d 0 (λ h. n (ap suc h))

-- a number that stands there already
pub number_same : (t : List ℕ) (e w : ℕ) → get_or t e 0 ≡ w → t ≡ set t e w
number_same t e w h = sym (set-get_or t e 0) ∙ ap (set t e) h

module _ (t last prev : List ℕ) (e w : ℕ) (in-chains : InChains t last prev) (inside : e < length t) (small : w < length last) where
  abbrev v : ℕ
  v = get_or t e 0

  abbrev t' : List ℕ
  t' = set t e w

  here : get_or t' e 0 ≡ w
  here = get_or-set_same t e w 0 inside

  else : (f : ℕ) → f ≢ e → get_or t' f 0 ≡ get_or t f 0
  else f n = get_or-set_other t e f w 0 n

  v_small : v < length last
  v_small = in-chains.under.under e inside

  top_same : (x : ℕ) → top t' x ≡ top t x
  unfolding top
  top_same zero = length-set t e w
  top_same (suc f) = refl

  -- a link of the new table is one of the old, but for the slot
  old_link : (u x : ℕ) → x ≢ suc e → Link t' u x → Link t u x
  unfolding Link
  old_link u zero n k = k
  old_link u (suc f) n k = let h = k.0 in (rw (length-set t e w) at h, sym (else f (λ i. n (ap suc i))) ∙ k.1)

  new_number : (u : ℕ) → Link t' u (suc e) → u ≡ w
  unfolding Link
  new_number u k = sym k.1 ∙ here

  -- what hangs below the slot, or lies past it, is not touched
  stays_below : (u i r : ℕ) → i ≤ e → Last t u i r → Last t' u i r
  stays_below u i r h l =
      let up = l.upto in record {
        upto = l.upto;
        hit = λ p. else (r - 1) (λ k. omega (arith, k, p, up, h)) ∙ l.hit p;
        miss = λ f a b q. l.miss f a b (sym (else f (λ k. omega (arith, k, b, h))) ∙ q);
      }

  stays_above : (u i r : ℕ) → e + 1 < r → Last t u i r → Last t' u i r
  stays_above u i r h l = record {
    upto = l.upto;
    hit = λ p. else (r - 1) (λ k. omega (arith, k, h)) ∙ l.hit p;
    miss = λ f a b q. l.miss f a b (sym (else f (λ k. omega (arith, k, a, h))) ∙ q);
  }

  -- nor is any other corner's
  stays_other : (u i r : ℕ) → u ≢ v → u ≢ w → Last t u i r → Last t' u i r
  stays_other u i r nv nw l = record {
    upto = l.upto;
    hit = λ p. else (r - 1) (λ k. nv (sym (l.hit p) ∙ ap (λ (z : ℕ). get_or t z 0) k)) ∙ l.hit p;
    miss = λ f a b q. go f a b q (ℕ_discrete f e);
  }
    where
      go : (f : ℕ) → r ≤ f → f < i → get_or t' f 0 ≡ u → Dec (f ≡ e) → ⊥
      go f a b q (yes k) = nw (sym q ∙ ap (λ (z : ℕ). get_or t' z 0) k ∙ here)
      go f a b q (no k) = l.miss f a b (sym (else f k) ∙ q)

  -- nor what hangs on a link of a chain but on the one right above the slot
  stays_apart : (u x z r : ℕ) → Above t u e z → Link t u x → x ≢ z → Last t u (top t x) r → Last t' u (top t x) r
  stays_apart u x z r a k n l = go (dec_lt e (top t x)) (dec_lt (e + 1) r)
    where
      go : Dec (e < top t x) → Dec (e + 1 < r) → Last t' u (top t x) r
      go (no h) d = stays_below u (top t x) r (omega (arith, h)) l
      go (yes h) (yes d) = stays_above u (top t x) r d l
      go (yes h) (no d) = absurd (n (above_one t u e x z (record { link = k; over = h; none = λ f i j. l.miss f (omega (arith, i, d)) j }) a))

  module _ (x y : ℕ) (differ : v ≢ w) (above-x : Above t v e x) (above-y : Above t w e y) where
    abbrev p : ℕ
    p = get_or prev e 0

    abbrev d : ℕ
    d = after last prev w y

    abbrev last' : List ℕ
    last' = hung_last (hung_last last v x p) w y (e + 1)

    abbrev prev₂ : List ℕ
    prev₂ = hung_prev (hung_prev prev x p) y (e + 1)

    abbrev prev' : List ℕ
    prev' = set prev₂ e d

    below : Last t v e p
    below = in-chains.chained.links e inside

    under : Last t w (top t y) d
    under = on_link t last prev in-chains.chained w y small above-y.link

    fits : (u z : ℕ) → Link t u z → z ≤ length prev
    fits u z k = let h = link_upto t u z k in let r = in-chains.chained.room in omega arith

    prev_long : length prev₂ ≡ length prev
    prev_long = hung_prev_length (hung_prev prev x p) y (e + 1) ∙ hung_prev_length prev x p

    last_long : length last' ≡ length last
    last_long = hung_last_length (hung_last last v x p) w y (e + 1) ∙ hung_last_length last v x p

    -- the slot's own link: what hung on the one above it in the chain that it joins
    on_slot : (u : ℕ) → after last' prev' u (suc e) ≡ d
    unfolding after
    on_slot u = get_or-set_same prev₂ e d 0 (let r = in-chains.chained.room in let l = prev_long in omega (arith, r, l, inside))

    joins : Last t' w e d
    joins = stays_below w e d (omega arith) (record {
      upto = low (dec_lt e d);
      hit = under.hit;
      miss = λ f a b. under.miss f a (let o = above-y.over in omega (arith, o, b));
    })
      where
        low : Dec (e < d) → d ≤ e
        low (no h) = omega (arith, h)
        low (yes h) = absurd (at_or_above (ℕ_discrete (d - 1) e))
          where
            at_or_above : Dec (d - 1 ≡ e) → ⊥
            at_or_above (yes k) = differ (ap (λ (z : ℕ). get_or t z 0) (sym k) ∙ under.hit (omega (arith, h)))
            at_or_above (no k) = above-y.none (d - 1) (omega (arith, h, k)) (let u = under.upto in omega (arith, h, u)) (under.hit (omega (arith, h)))

    -- on the link above it there: the slot
    joined : Last t' w (top t y) (e + 1)
    joined = record {
      upto = let o = above-y.over in omega (arith, o);
      hit = λ q. ap (λ (z : ℕ). get_or t' z 0) (let z : e + 1 - 1 ≡ e = omega arith in z) ∙ here;
      miss = λ f a b q. above-y.none f (omega (arith, a)) b (sym (else f (λ k. omega (arith, k, a))) ∙ q);
    }

    -- on the link above it in the chain that it leaves: what hung on the slot
    left : Last t' v (top t x) p
    left =
        let up = below.upto in record {
          upto = let o = above-x.over in omega (arith, o, up);
          hit = λ q. else (p - 1) (λ k. omega (arith, k, q, up)) ∙ below.hit q;
          miss = λ f a b q. go f a b q (dec_lt f e) (ℕ_discrete f e);
        }
      where
        go : (f : ℕ) → p ≤ f → f < top t x → get_or t' f 0 ≡ v → Dec (f < e) → Dec (f ≡ e) → ⊥
        go f a b q (yes h) k = below.miss f a h (sym (else f (λ i. omega (arith, i, h))) ∙ q)
        go f a b q (no h) (yes k) = differ (sym q ∙ ap (λ (z : ℕ). get_or t' z 0) k ∙ here)
        go f a b q (no h) (no k) = above-x.none f (omega (arith, h, k)) b (sym (else f k) ∙ q)

    -- what hangs on a link that is not the slot's
    hangs : (u z : ℕ) → z ≢ suc e → after last' prev' u z ≡ after last' prev₂ u z
    hangs u z n = set_other_link last' prev₂ e d u z n

    kept : (u z : ℕ) → Other v x u z → Other w y u z → after last' prev₂ u z ≡ after last prev u z
    kept u z a b = hung_other (hung_last last v x p) (hung_prev prev x p) w y (e + 1) u z b ∙ hung_other last prev v x p u z a

    hung_y : after last' prev₂ w y ≡ e + 1
    hung_y =
        let l = hung_last_length last v x p in
        let r = hung_prev_length prev x p in
        let k = fits w y above-y.link in
        hung_here (hung_last last v x p) (hung_prev prev x p) w y (e + 1) (omega (arith, l, small)) (omega (arith, r, k))

    hung_x : after last' prev₂ v x ≡ p
    hung_x =
        hung_other (hung_last last v x p) (hung_prev prev x p) w y (e + 1) v x (other_chain t w y v x above-y.link above-x.link (λ q. differ (sym q)))
        ∙ hung_here last prev v x p v_small (fits v x above-x.link)

    -- each link of the new table has what should hang on it
    each : (u z : ℕ) → u < length last → Link t' u z → Last t' u (top t' z) (after last' prev' u z)
    unfolding top
    each u z h k = rw (top_same z) (at (ℕ_discrete z (suc e)))
      where
        other : z ≢ suc e → Link t u z → Dec (u ≡ w) → Dec (u ≡ v) → Last t' u (top t z) (after last' prev₂ u z)
        other n l (yes i) d' = rw i (go (ℕ_discrete z y))
          where
            go : Dec (z ≡ y) → Last t' w (top t z) (after last' prev₂ w z)
            go (yes j) = rw (j, hung_y) joined
            go (no j) =
                let m : Link t w z = rw i at l in
                rw (kept w z (other_chain t v x w z above-x.link m differ) (inl (λ q. j (sym q)))) (stays_apart w z y _ above-y m j (on_link t last prev in-chains.chained w z small m))
        other n l (no i) (yes j) = rw j (go (ℕ_discrete z x))
          where
            m : Link t v z
            m = rw j at l

            go : Dec (z ≡ x) → Last t' v (top t z) (after last' prev₂ v z)
            go (yes q) = rw (q, hung_x) left
            go (no q) =
                rw (kept v z (inl (λ r. q (sym r))) (other_chain t w y v z above-y.link m (λ r. differ (sym r)))) (stays_apart v z x _ above-x m q (on_link t last prev in-chains.chained v z v_small m))
        other n l (no i) (no j) =
            rw (kept u z (other_chain t v x u z above-x.link l (λ q. j (sym q))) (other_chain t w y u z above-y.link l (λ q. i (sym q))))
            (stays_other u (top t z) _ j i (on_link t last prev in-chains.chained u z h l))

        at : Dec (z ≡ suc e) → Last t' u (top t z) (after last' prev' u z)
        at (yes n) = rw (n, on_slot u) (rw (new_number u (rw n at k)) joins)
        at (no n) = rw (hangs u z n) (other n (old_link u z n k) (ℕ_discrete u w) (ℕ_discrete u v))

    whole_set : Whole t'
    whole_set = record { threes = rw (length-set t e w) in-chains.whole.threes; most = rw (length-set t e w) in-chains.whole.most }

    under_set : Under t' (length last')
    under_set = record { under = λ f h. go f (rw (length-set t e w) at h) (ℕ_discrete f e) }
      where
        go : (f : ℕ) → f < length t → Dec (f ≡ e) → get_or t' f 0 < length last'
        go f h (yes k) = let l = last_long in rw (k, here) (omega (arith, l, small))
        go f h (no k) = let l = last_long in let u = in-chains.under.under f h in rw (else f k) (omega (arith, l, u))

    room_set : length t' ≤ length prev'
    room_set = let a = length-set t e w in let b = length-set prev₂ e d in let r = in-chains.chained.room in let l = prev_long in omega (arith, a, b, r, l)

    pub number_set : InChains t' last' prev'
    number_set = record { whole = whole_set; under = under_set; chained = by_links t' last' prev' under_set room_set (λ u z h k. each u z (rw last_long at h) k) }
