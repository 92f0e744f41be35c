-- A table whose rows keep their places when others leave: spot by spot, a step touches only the rows that hold the removed number.
use mathlib.Core.Path.{◌≡◌, refl, sym, ◌∙◌, ap}
use mathlib.Core.Logic.{◌⊎◌, inl, inr, ite}
use mathlib.Core.List.Memᴰ
use mathlib.Core.List.{List, [], ◌∷◌, map, filter}
use Prim.Native.Nat.{ℕ, zero, suc, ◌<◌}
use native.Mathlib.Omega.{arith}
use lib.ListN.{length, get_or}
use lib.Seq.{ext_get_or}
use Rattle.surface.specs.Lists.{◌∈◌}
use Rattle.surface.specs.Rows.{Row, row}
use Rattle.surface.specs.Stage.{Stage}
use Rattle.surface.specs.Link.{Meets}
use Rattle.surface.specs.Contract.{Holds, at_0, at_1, at_2, Stays, stays?, renumber, contract}
use Rattle.surface.specs.Record.{Placed, at, later, leaving}
use Rattle.surface.proofs.Count.{length-map}
use Rattle.surface.proofs.Renumber.{replace_off}
use Rattle.surface.proofs.TwoPlaces.{Two, two_places}
use Rattle.spots.specs.InnerSpots.{Spot, live, dead, living, rank}

pub live_row : {r z : Row} → live r ≡ live z → r ≡ z
live_row e = cc

pub not_dead : {r : Row} → ¬ (dead ≡ live r)
not_dead e = let z : ◌≡◌ {A = ℕ} 0 1 = cc in omega arith

module _ (a b : ℕ) where
  unfoldable pub struck : Spot → Spot
  struck dead = dead
  struck (live r) = ite {C = Spot} (stays? a b r) (live (renumber a b r)) dead

  pub struck_living : (S : List Spot) → living (map struck S) ≡ contract a b (living S)
  unfolding living struck contract
  struck_living [] = refl
  struck_living (dead ∷ S) = struck_living S
  struck_living (live r ∷ S) = go (stays? a b r) (struck_living S)
    where
      go : (d : Dec (Stays a b r)) → living (map struck S) ≡ contract a b (living S) →
          living (ite {C = Spot} d (live (renumber a b r)) dead ∷ map struck S)
          ≡ map (renumber a b) (ite {C = List Row} d (r ∷ filter (stays? a b) (living S)) (filter (stays? a b) (living S)))
      go (yes k) rec = ap (λ l. renumber a b r ∷ l) rec
      go (no k) rec = rec

  -- what may become of a spot
  pub data Changed (u w : Spot) : Type 0 where
    was_dead : u ≡ dead → w ≡ dead → Changed u w
    left_it : (r : Row) → u ≡ live r → ¬ Stays a b r → w ≡ dead → Changed u w
    renamed_it : (r : Row) → u ≡ live r → Stays a b r → w ≡ live (renumber a b r) → Changed u w
    untouched : (r : Row) → u ≡ live r → ¬ Holds r b → w ≡ live r → Changed u w

  same_row : (r : Row) → ¬ Holds r b → renumber a b r ≡ r
  unfolding renumber
  same_row (row i j k) n =
      let ei = replace_off a b {c = i} (λ e. n (at_0 (sym e))) in
      let ej = replace_off a b {c = j} (λ e. n (at_1 (sym e))) in
      let ek = replace_off a b {c = k} (λ e. n (at_2 (sym e))) in
      cc

  struck_stays : (r : Row) → Stays a b r → struck (live r) ≡ live (renumber a b r)
  unfolding struck
  struck_stays r k = go (stays? a b r)
    where
      go : (d : Dec (Stays a b r)) → ite {C = Spot} d (live (renumber a b r)) dead ≡ live (renumber a b r)
      go (yes h) = refl
      go (no h) = absurd (h k)

  struck_leaves : (r : Row) → ¬ Stays a b r → struck (live r) ≡ dead
  unfolding struck
  struck_leaves r k = go (stays? a b r)
    where
      go : (d : Dec (Stays a b r)) → ite {C = Spot} d (live (renumber a b r)) dead ≡ dead
      go (yes h) = absurd (k h)
      go (no h) = refl

  changed_struck : {u w : Spot} → Changed u w → w ≡ struck u
  unfolding struck
  changed_struck (was_dead e k) = k ∙ sym (ap struck e)
  changed_struck (left_it r e h k) = k ∙ sym (struck_leaves r h) ∙ sym (ap struck e)
  changed_struck (renamed_it r e h k) = k ∙ sym (struck_stays r h) ∙ sym (ap struck e)
  changed_struck (untouched r e h k) = k ∙ ap live (sym (same_row r h)) ∙ sym (struck_stays r (λ t. h t.1)) ∙ sym (ap struck e)

  get_or_struck : (S : List Spot) (i : ℕ) → get_or (map struck S) i dead ≡ struck (get_or S i dead)
  unfolding struck
  get_or_struck [] i = refl
  get_or_struck (u ∷ S) zero = refl
  get_or_struck (u ∷ S) (suc i) = get_or_struck S i

  -- spot by spot: the living rows are contracted
  pub spots_contract : (S S' : List Spot) → length S' ≡ length S → ((i : ℕ) → i < length S' → Changed (get_or S i dead) (get_or S' i dead)) → living S' ≡ contract a b (living S)
  spots_contract S S' e h =
      let k : length S' ≡ length (map struck S) = e ∙ sym (length-map struck S) in
      ap living (ext_get_or dead S' (map struck S) k (λ i l. changed_struck (h i l) ∙ sym (get_or_struck S i))) ∙ struck_living S

  -- a spot's rank is the place in the record
  rank_in : (S : List Spot) (i : ℕ) (r : Row) → get_or S i dead ≡ live r → ¬ Stays a b r → at (rank i S) r ∈ leaving a b (living S)
  unfolding living leaving later
  rank_in [] i r e k = absurd (not_dead e)
  rank_in (dead ∷ S) zero r e k = absurd (not_dead e)
  rank_in (dead ∷ S) (suc i) r e k = rank_in S i r e k
  rank_in (live z ∷ S) zero r e k = go (stays? a b z)
    where
      go : (d : Dec (Stays a b z)) → at 0 r ∈ ite {C = List Placed} d (map later (leaving a b (living S))) (at 0 z ∷ map later (leaving a b (living S)))
      go (yes h) = absurd (k (rw (sym (live_row e)) h))
      go (no h) = Memᴰ.head (ap (at 0) (sym (live_row e)))
  rank_in (live z ∷ S) (suc i) r e k = go (stays? a b z) (rank_in S i r e k)
    where
      go : (d : Dec (Stays a b z)) → at (rank i S) r ∈ leaving a b (living S) → at (suc (rank i S)) r ∈ ite {C = List Placed} d (map later (leaving a b (living S))) (at 0 z ∷ map later (leaving a b (living S)))
      go (yes h) m = Memᴰ.map later m
      go (no h) m = Memᴰ.tail (Memᴰ.map later m)

pub rank_order : (S : List Spot) (i j : ℕ) (r : Row) → get_or S i dead ≡ live r → i < j → rank i S < rank j S
unfolding living
rank_order [] i j r e h = absurd (not_dead e)
rank_order (dead ∷ S) zero j r e h = absurd (not_dead e)
rank_order (dead ∷ S) (suc i) zero r e h = absurd (omega arith)
rank_order (dead ∷ S) (suc i) (suc j) r e h = rank_order S i j r e (omega arith)
rank_order (live z ∷ S) zero zero r e h = absurd (omega arith)
rank_order (live z ∷ S) zero (suc j) r e h = omega arith
rank_order (live z ∷ S) (suc i) zero r e h = absurd (omega arith)
rank_order (live z ∷ S) (suc i) (suc j) r e h = let k = rank_order S i j r e (omega arith) in omega arith

at_place : {i j : ℕ} {r z : Row} → at i r ≡ at j z → i ≡ j
at_place e = cc

-- the record of a step, told by the two spots that die
pub spots_record : (n : ℕ) (S : List Spot) (a b i j : ℕ) (r z : Row) → Stage n (living S) → Meets (living S) a b → i < j →
    get_or S i dead ≡ live r → get_or S j dead ≡ live z → ¬ Stays a b r → ¬ Stays a b z → leaving a b (living S) ≡ at (rank i S) r ∷ at (rank j S) z ∷ []
spots_record n S a b i j r z s m h er ez kr kz =
    go (Memᴰ.cases_cons (rw t.is at (rank_in a b S i r er kr))) (Memᴰ.cases_cons (rw t.is at (rank_in a b S j z ez kz)))
  where
    t : Two (living S) (leaving a b (living S))
    t = two_places n (living S) a b s m

    p : Placed
    p = at t.i t.r

    q : Placed
    q = at t.j t.z

    o : rank i S < rank j S
    o = rank_order S i j r er h

    go : (at (rank i S) r ≡ p) ⊎ (at (rank i S) r ∈ q ∷ []) → (at (rank j S) z ≡ p) ⊎ (at (rank j S) z ∈ q ∷ []) → leaving a b (living S) ≡ at (rank i S) r ∷ at (rank j S) z ∷ []
    go (inl e) (inl k) = let u = at_place (e ∙ sym k) in let w = o in absurd (omega arith)
    go (inl e) (inr k) = rw (e, Memᴰ.eq_of_singleton k) t.is
    go (inr e) (inl k) =
        let u = at_place (Memᴰ.eq_of_singleton e) in
        let v = at_place k in
        let w = t.order in
        let g = o in
        absurd (omega arith)
    go (inr e) (inr k) = let u = at_place (Memᴰ.eq_of_singleton e ∙ sym (Memᴰ.eq_of_singleton k)) in let w = o in absurd (omega arith)
