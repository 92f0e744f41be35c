-- A first table laid down, and what is left closed up.
use mathlib.Core.Path.{◌≡◌, refl, sym, ◌∙◌, ap}
use mathlib.Core.Logic.{inl}
use mathlib.Core.List.{List, [], ◌∷◌, ◌++◌, append_assoc}
use Prim.Native.Nat.{ℕ, suc, ◌+◌, ◌-◌, ◌*◌, ◌≤◌, ◌<◌, ◌/◌, ◌%◌}
use native.Mathlib.Decide.{dec_lt}
use native.Mathlib.Omega.{arith}
use lib.ListN.{length, take, drop, get_or, replicate, length-append, get_or-eq_default}
use lib.Seq.{take_at, length-take-le}
use Rattle.surface.specs.Limits.{most_rows, most_corners}
use Rattle.surface.specs.Rows.{row, rows, flat}
use Rattle.surface.specs.InnerStageTable.{StageTable}
use Rattle.slots.specs.Slot.{Under}
use Rattle.slots.proofs.Staged.{table_whole, table_under}
use Rattle.record.specs.Front.{front_rows}
use Rattle.spots.specs.InnerSpots.{living, live_rows}
use Rattle.spots.specs.InnerHeld.{flat_of, held_rows, HoldsStage}
use Rattle.spots.specs.InnerKept.{ClosedUp}
use Rattle.spots.proofs.Live.{spot_live}
use Rattle.spots.proofs.Held.{flat_size, places}
use Rattle.spots.proofs.Laying.{fours_of}
use Rattle.ranks.specs.InnerRanks.{every}
use Rattle.ranks.proofs.Sums.{counts_same}
use Rattle.strike.specs.InnerStrike.{stands}
use Rattle.strike.proofs.Striking.{stands_yes}
use Rattle.trapped.specs.ByCorner.{ByCorner}
use Rattle.going.specs.Going.{CanGoOn, WentBy}
use Rattle.quick.specs.InnerGround.{BeforeCorner}
use Rattle.quick.specs.InnerRound.{AllDone}
use Rattle.quick.specs.InnerClose.{Begun, RoomFor, ThinnedAll}

-- all rows of a first table stand
all_live : (t : List ℕ) → ((e : ℕ) → e < length t → get_or t e 0 < most_corners) → live_rows t ≡ rows t
unfolding live_rows living rows
all_live [] h = refl
all_live (x ∷ []) h = refl
all_live (x ∷ y ∷ []) h = refl
all_live (x ∷ y ∷ z ∷ t) h =
    rw (spot_live x y z (λ e. let k = h 0 (omega arith) in omega arith))
    (ap (λ l. row x y z ∷ l) (all_live t (λ e k. h (suc (suc (suc e))) (omega arith))))

module _ {n : ℕ} {t : List ℕ} (s : StageTable n t) where
  below : (e : ℕ) → e < length t → get_or t e 0 < most_corners
  below e h = let b = (table_under s).under e h in let m = s.stage.many in omega arith

  pub numbers_under : Under t most_corners
  numbers_under = record { under = below }

  all_stand : live_rows t ≡ rows t
  all_stand = all_live t below

  -- the places of t's rows
  pub places_of : (m : ℕ) → 4 * length t ≡ 3 * m → (m % 4 ≡ 0) × (m ≤ 4 * most_rows)
  places_of m e = by (length t / 3) (omega (arith, (table_whole s).threes))
    where
      by : (i : ℕ) → length t ≡ 3 * i → (m % 4 ≡ 0) × (m ≤ 4 * most_rows)
      by i k = let q : m ≡ 4 * i = omega arith in let w = (table_whole s).most in (fours_of m i q, omega arith)

  module _ (h : List ℕ) (is : flat_of h ≡ t) (fours : length h % 4 ≡ 0) where
    pub first_stands : held_rows h ≡ rows t
    first_stands = ap live_rows is ∙ all_stand

    first_held : HoldsStage n h
    first_held = record {
      fours = fours;
      slotted = rw is (record {
        whole = table_whole s;
        clean = λ e i q. let b = below e i in absurd (omega arith);
        stage = rw all_stand s.stage;
      });
    }

    -- every row stands
    first_bit : (i : ℕ) → stands h i ≡ 1
    first_bit i = stands_yes h i (λ q. at i q)
      where
        at : (i : ℕ) → get_or h (4 * i + 2) 0 ≡ most_corners → ⊥
        at i q = go (dec_lt (4 * i) (length h))
          where
            go : Dec (4 * i < length h) → ⊥
            go (yes l) =
                let z = flat_size h fours in
                let p = (places h fours i l).0 in
                let k : 3 * i < length (flat_of h) = omega arith in
                let b = rw (sym is) at (below (3 * i) (rw is at k)) in
                omega arith
            go (no l) = let z = get_or-eq_default h 0 {n = 4 * i + 2} (omega arith) in omega arith

    pub first_before : {start list mark bits sub sup l : List ℕ} {total d : ℕ} → Begun t start list mark bits sub sup → total ≡ length t / 3 + 2 * d → RoomFor t l d → BeforeCorner n h start list mark bits sub sup l 0 total d
    first_before {start} {list} {mark} {bits} {sub} {sup} {l} {total} {d} begun tot ro = record {
      ground = record {
        held = first_held;
        charted = record { first = t; lists = begun.lists; same = ap length is; old = λ e i a b. ap (λ (z : List ℕ). get_or z e 0) (sym is); still = λ e i. inl (ap (λ (z : List ℕ). get_or z e 0) is) };
        marks = record { size = begun.size; bound = λ z. let k = begun.marks.blank z in inl (omega arith); unused = λ z q w e. let k = begun.marks.blank z in omega arith; no_corner = begun.marks.blank most_corners };
        tallied = counts_same every (stands h) sub sup (λ i. sym (first_bit i)) begun.stand;
        rows = let w = s.count in let z = ap length first_stands in omega arith;
        room = rw first_stands ro.1;
      };
      empty = begun.empty;
    }

    -- what is left, closed up
    pub thinned : {l h' l' : List ℕ} (t₁ t₂ : List ℕ) {d k : ℕ} (j : ℕ) → AllDone n n h l h' l' d k → ClosedUp h' t j t₁ → length t₁ ≡ length t → t₂ ≡ take j t₁ ++ replicate (length t₁ - j) 0 → ThinnedAll n t l d k t₂ l'
    thinned {l} {h'} {l'} t₁ t₂ {d} {k} j a c size q = record {
      log = a.log;
      last = held_rows h';
      run = rw first_stands at a.corners;
      table = q ∙ (λ i. front i ++ replicate (long i) 0);
      fits = fits;
      logged = a.logged;
    }
      where
        front : take j t₁ ≡ flat (held_rows h')
        front = ap (take j) c.wrote ∙ take_at (flat (held_rows h')) (drop j t) j (sym c.count)

        fits : length (flat (held_rows h')) ≤ length t
        fits =
            let e = ap length c.wrote in
            let f = length-append (flat (held_rows h')) (drop j t) in
            let z = size in
            omega arith

        long : length t₁ - j ≡ length t - length (flat (held_rows h'))
        long = let e = c.count in let z = size in omega arith

pub closed_inside : {h t : List ℕ} {r : ℕ} {t' : List ℕ} → ClosedUp h t r t' → r ≤ length t'
closed_inside {h} {t} {r} c = let e = ap length c.wrote in let f = length-append (flat (held_rows h)) (drop r t) in let q = c.count in omega arith

-- a front of rows fits the places
pub front_fits : {n r d : ℕ} {t l : List ℕ} → CanGoOn n t r l d → 4 * r ≤ 4 * most_rows
front_fits {r = r} {t = t} g = let a = (table_whole g.table).most in let b = length-take-le (3 * r) t g.inside in omega arith

-- the same on the front of a lent table
pub went_by : (n : ℕ) (t : List ℕ) (r : ℕ) (l : List ℕ) (d k : ℕ) (p l' : List ℕ) → CanGoOn n t r l d → ThinnedAll n (front_rows r t) l d k p l' → WentBy (ByCorner n) t r l d k (p ++ drop (3 * r) t) l'
went_by n t r l d k p l' g w = record {
  log = w.log;
  last = w.last;
  run = w.run;
  count = w.logged.count;
  table = ap (λ z. z ++ drop (3 * r) t) (w.table ∙ ap (λ z. flat w.last ++ replicate z 0) long) ∙ append_assoc (flat w.last) (replicate (3 * r - length (flat w.last)) 0) (drop (3 * r) t);
  logged = w.logged.logged;
}
  where
    long : length (front_rows r t) - length (flat w.last) ≡ 3 * r - length (flat w.last)
    long = ap (λ z. z - length (flat w.last)) (length-take-le (3 * r) t g.inside)
