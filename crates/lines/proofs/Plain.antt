-- Plain numbers are told apart where they stand among numbers with a sign.
use mathlib.Core.Path.{◌≡◌, refl}
use mathlib.Core.List.{List, [], ◌∷◌, map}
use Prim.Native.Nat.{ℕ}
use native.Mathlib.Omega.{arith}
use lib.IntN.{pos}

pub pos_same : (t u : List ℕ) → map pos t ≡ map pos u → t ≡ u
pos_same [] [] e = refl
pos_same [] (y ∷ u) e = absurd (let z : ◌≡◌ {A = ℕ} 0 1 = cc in omega arith)
pos_same (x ∷ t) [] e = absurd (let z : ◌≡◌ {A = ℕ} 0 1 = cc in omega arith)
pos_same (x ∷ t) (y ∷ u) e = let a : x ≡ y = cc in let f : map pos t ≡ map pos u = cc in let b = pos_same t u f in λ i. a i ∷ b i
