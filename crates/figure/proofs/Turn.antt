-- The loop over the rows of a flat table: what holds of the sum so far and of the rows from place i on, and one turn.
use mathlib.Core.Path.{◌≡◌, refl, sym, ◌∙◌, ap}
use mathlib.Core.List.Memᴰ
use mathlib.Core.List.{List, [], ◌∷◌}
use Prim.Native.Nat.{ℕ, zero, suc, ◌+◌, ◌-◌, ◌*◌, ◌≤◌, ◌<◌}
use native.Mathlib.Omega.{arith}
use lib.IntN.{ℤ, ◌+ℤ◌, +ℤ_assoc, +ℤ_idr, nat_abs}
use lib.ListN.{length, take, drop, get_or}
use lib.Seq.{drop-drop, get_or-drop}
use Rattle.std.specs.Simd.{first_chunks}
use Rattle.std.proofs.lemmas.List.{get_or-take}
use Rattle.surface.specs.Rows.{Row, row, rows, Turned, turn_0, turn_1, turn_2}
use Rattle.surface.proofs.Flat.{one_row, no_row}
use Rattle.ints.proofs.Ints.{abs_add}
use Rattle.distance.specs.Inner.{Has}
use Rattle.figure.specs.Inner.{WithCoordinates, row_bound, sum_bound}
use Rattle.figure.specs.Sum.{determinant, sixfold}
use Rattle.figure.proofs.Sizes.{determinant_size}

-- ---- the first of some rows with their coordinates, and the others

module _ {a b c : ℕ} {T : List Row} {xs : List ℤ} (w : WithCoordinates (row a b c ∷ T) xs) where
  first_has : {v p q : ℕ} → Turned (row a b c) v p q → Has xs v
  first_has s = w.corners (record { by = row a b c; here = Memᴰ.head refl; turned = s })

  first_corners : Has xs a × Has xs b × Has xs c
  first_corners = (first_has (turn_0 refl), first_has (turn_2 refl), first_has (turn_1 refl))

  others : WithCoordinates T xs
  others =
      record {
        most = omega (arith, w.most);
        corners = λ f. w.corners (record { by = f.by; here = Memᴰ.tail f.here; turned = f.turned });
        in_range = w.in_range;
      }

-- ---- the loop: s is the sum so far

pub record Summing (t : List ℕ) (xs : List ℤ) (s : ℤ) (i : ℕ) : Type 0 where
  pub inside : i ≤ length t
  pub left : WithCoordinates (rows (drop i t)) xs
  pub size : nat_abs s + row_bound * length (rows (drop i t)) ≤ sum_bound
  pub sum : s +ℤ sixfold xs (rows (drop i t)) ≡ sixfold xs (rows t)

module _ {t : List ℕ} {xs : List ℤ} {s : ℤ} {i : ℕ} (w : Summing t xs s i) where
  pub sum_corners : i + 3 ≤ length t → Has xs (get_or t i 0) × Has xs (get_or t (i + 1) 0) × Has xs (get_or t (i + 2) 0)
  sum_corners h = first_corners (rw (one_row t i h) at w.left)

  pub sum_more : i + 3 ≤ length t → Summing t xs (s +ℤ determinant xs (get_or t i 0) (get_or t (i + 1) 0) (get_or t (i + 2) 0)) (i + 3)
  unfolding sixfold
  sum_more h =
      let e = one_row t i h in
      let d = determinant xs (get_or t i 0) (get_or t (i + 1) 0) (get_or t (i + 2) 0) in
      let n : length (rows (drop i t)) ≡ suc (length (rows (drop (i + 3) t))) = ap length e in
      record {
        inside = h;
        left = others (rw e at w.left);
        size = omega (arith, abs_add s d, determinant_size xs w.left.in_range (get_or t i 0) (get_or t (i + 1) 0) (get_or t (i + 2) 0), w.size);
        sum = +ℤ_assoc s d (sixfold xs (rows (drop (i + 3) t))) ∙ ap (λ (T : List Row). s +ℤ sixfold xs T) (sym e) ∙ w.sum;
      }

  pub sum_end : length t - i < 3 → s ≡ sixfold xs (rows t)
  unfolding sixfold
  sum_end h = sym (+ℤ_idr s) ∙ ap (λ (T : List Row). s +ℤ sixfold xs T) (sym (no_row t i h)) ∙ w.sum

-- ---- the rows as chunks of three

chunk_at : (n k : ℕ) (t : List ℕ) → k < n → get_or (first_chunks 3 n t) k [] ≡ take 3 (drop (3 * k) t)
chunk_at zero k t h = absurd (omega arith)
chunk_at (suc n) zero t h = refl
chunk_at (suc n) (suc k) t h = let e : 3 + 3 * k ≡ 3 * suc k = omega arith in chunk_at n k (drop 3 t) (omega arith) ∙ ap (take 3) (drop-drop (3 * k) 3 t ∙ ap (λ (i : ℕ). drop i t) e)

-- the chunk k of l is the row from place 3 k of t on
pub record InChunks (t : List ℕ) (l : List (List ℕ)) (k : ℕ) : Type 0 where
  pub first : get_or (get_or l k []) 0 0 ≡ get_or t (3 * k) 0
  pub second : get_or (get_or l k []) 1 0 ≡ get_or t (3 * k + 1) 0
  pub third : get_or (get_or l k []) 2 0 ≡ get_or t (3 * k + 2) 0

pub in_chunks : (t : List ℕ) (l : List (List ℕ)) (k n : ℕ) → l ≡ first_chunks 3 n t → k < n → InChunks t l k
in_chunks t l k n e h = record { first = at_place 0 (omega arith) ∙ ap (λ (i : ℕ). get_or t i 0) (omega arith); second = at_place 1 (omega arith); third = at_place 2 (omega arith) }
  where
    at_place : (j : ℕ) → j < 3 → get_or (get_or l k []) j 0 ≡ get_or t (3 * k + j) 0
    at_place j m = ap (λ (z : List (List ℕ)). get_or (get_or z k []) j 0) e ∙ ap (λ (z : List ℕ). get_or z j 0) (chunk_at n k t h) ∙ get_or-take 3 (drop (3 * k) t) j 0 m ∙ get_or-drop (3 * k) t j 0
