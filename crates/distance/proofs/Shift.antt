-- The shift bound: k steps of length at most L lead at most k L away. Two steps are joined by Cauchy's inequality over whole numbers.
use mathlib.Core.Path.{◌≡◌, ap}
use mathlib.Core.List.{List}
use Prim.Native.Nat.{ℕ, suc, ◌≤◌, ◌+◌, ◌*◌, ◌-◌}
use native.Mathlib.Decide.{dec_le}
use native.Mathlib.Nat.{mul-le-mul, le_trans}
use native.Mathlib.Omega.{arith}
use lib.IntN.{ℤ, nat_abs}
use Rattle.ints.proofs.Ints.{minus_self, abs_back, abs_through}
use Rattle.distance.specs.Corners.{coordinate, gap, squared_distance_lem}
use Rattle.distance.specs.InnerChain.{Chain, chain_none, chain_more}

-- ---- squares

abbrev squares : ℕ → ℕ → ℕ → ℕ
squares x y z = x * x + y * y + z * z

abbrev dot : ℕ → ℕ → ℕ → ℕ → ℕ → ℕ → ℕ
dot x y z u v w = x * u + y * v + z * w

-- twice a product is at most the squares
twice_le : (s t : ℕ) → 2 * (s * t) ≤ s * s + t * t
twice_le s t = go (dec_le s t)
  where
    up : (s d : ℕ) → 2 * (s * (s + d)) ≤ s * s + (s + d) * (s + d)
    up s d = omega arith

    go : Dec (s ≤ t) → 2 * (s * t) ≤ s * s + t * t
    go (yes h) = let e : t ≡ s + (t - s) = omega arith in rw e (up s (t - s))
    go (no h) = let e : s ≡ t + (s - t) = omega arith in let k = up t (s - t) in rw e (omega (arith, k))

-- squares in order have their roots in order
root_le : (s t : ℕ) → s * s ≤ t * t → s ≤ t
root_le s t h = go (dec_le s t)
  where
    go : Dec (s ≤ t) → s ≤ t
    go (yes k) = k
    go (no k) =
        let l : t + 1 ≤ s = omega arith in
        let m : (t + 1) * (t + 1) ≤ s * s = mul-le-mul l l in
        absurd (omega arith)

cauchy : (x y z u v w : ℕ) → dot x y z u v w * dot x y z u v w ≤ squares x y z * squares u v w
cauchy x y z u v w =
    let a = twice_le (x * v) (y * u) in
    let b = twice_le (x * w) (z * u) in
    let c = twice_le (y * w) (z * v) in
    omega arith

-- a way of length at most A and one of length at most B
joined : (x y z u v w A B : ℕ) → squares x y z ≤ A * A → squares u v w ≤ B * B → squares (x + u) (y + v) (z + w) ≤ (A + B) * (A + B)
joined x y z u v w A B ha hb =
    let k : squares x y z * squares u v w ≤ (A * A) * (B * B) = mul-le-mul ha hb in
    let c = cauchy x y z u v w in
    let d : dot x y z u v w * dot x y z u v w ≤ (A * B) * (A * B) = omega arith in
    let e = root_le (dot x y z u v w) (A * B) d in
    omega arith

squares_mono : {x y z u v w : ℕ} → x ≤ u → y ≤ v → z ≤ w → squares x y z ≤ squares u v w
squares_mono a b c =
    let p = mul-le-mul a a in
    let q = mul-le-mul b b in
    let r = mul-le-mul c c in
    omega arith

-- ---- squared distances

module _ (xs : List ℤ) where
  pub distance_none : (a : ℕ) → squared_distance_lem xs a a ≡ 0
  unfolding squared_distance_lem
  distance_none a =
      let none : (j : ℕ) → gap xs a a j ≡ 0 = λ j. ap nat_abs (minus_self (coordinate xs a j)) in
      rw (none 0, none 1, none 2)

  pub distance_back : (a b : ℕ) → squared_distance_lem xs a b ≡ squared_distance_lem xs b a
  unfolding squared_distance_lem
  distance_back a b =
      let back : (j : ℕ) → gap xs a b j ≡ gap xs b a j = λ j. abs_back (coordinate xs a j) (coordinate xs b j) in
      λ i. squares (back 0 i) (back 1 i) (back 2 i)

  pub distance_through : (a b c A B : ℕ) → squared_distance_lem xs a b ≤ A * A → squared_distance_lem xs b c ≤ B * B → squared_distance_lem xs a c ≤ (A + B) * (A + B)
  unfolding squared_distance_lem
  distance_through a b c A B h k =
      let by : (j : ℕ) → gap xs a c j ≤ gap xs a b j + gap xs b c j = λ j. abs_through (coordinate xs a j) (coordinate xs b j) (coordinate xs c j) in
      le_trans (squares_mono (by 0) (by 1) (by 2)) (joined (gap xs a b 0) (gap xs a b 1) (gap xs a b 2) (gap xs b c 0) (gap xs b c 1) (gap xs b c 2) A B h k)

-- ---- chains

within_length : {xs : List ℤ} {L k a b : ℕ} → Chain xs L k a b → squared_distance_lem xs a b ≤ (k * L) * (k * L)
within_length {xs} {b = b} (chain_none e) = rw (e, distance_none xs b) (omega arith)
within_length {xs} {L} (chain_more {k} {a} {b} {c} w h) =
    let e : suc k * L ≡ k * L + L = omega arith in
    rw e (distance_through xs a b c (k * L) L (within_length w) h)

-- the squared distance is at most k x k x L x L
pub chain_bound : {xs : List ℤ} {L k a b : ℕ} → Chain xs L k a b → squared_distance_lem xs a b ≤ k * k * L * L
chain_bound w = omega (arith, within_length w)
