-- The theorems on stages and contractions, each in 01's words. Other crates cite these.
use mathlib.Core.Path.{◌≡◌, refl, sym, ◌∙◌}
use mathlib.Core.Logic.{◌⊎◌, ◌↔◌}
use mathlib.Core.List.{List}
use Prim.Native.Nat.{ℕ, ◌+◌, ◌≤◌, ◌<◌}
use native.Mathlib.Omega.{arith}
use lib.IntN.{ℤ}
use lib.ListN.{length}
use Rattle.surface.specs.Lists.{Exactly}
use Rattle.surface.specs.Rows.{Row}
use Rattle.surface.specs.Table.{Follows, Edge, Used}
use Rattle.surface.specs.Stage.{Stage}
use Rattle.surface.specs.Link.{Link, Meets, Opposite, Common}
use Rattle.surface.specs.Contract.{contract}
use Rattle.surface.specs.Record.{Record, Replays}
use Rattle.surface.specs.Euler.{Euler}
use Rattle.surface.proofs.Linked.{opposite, meets}
use Rattle.surface.proofs.Tetrahedron.{tetrahedron}
use Rattle.surface.proofs.Common.{meets_pairs}
use Rattle.surface.proofs.Contracted.{two_leave}
use Rattle.surface.proofs.Counted.{one_count, one_corner, difference_same, four}
use Rattle.surface.proofs.Stepped as stepped
use Rattle.surface.proofs.Written.{written, written_kept, written_removed, written_replays}

module _ (n : ℕ) (T : List Row) (s : Stage n T) where
  -- the published link condition: the two corners opposite the edge are the only common neighbours, and no edge lies in both links
  pub link_agrees : (a b : ℕ) → Meets T a b ↔ ((x : ℕ) × (y : ℕ) × Opposite T a b x y)
  link_agrees a b = (λ m. opposite n T s m, λ o. meets n T s o.2)

  -- where the first part holds, the second fails only on the four-row tetrahedron
  pub second_part : {a b x y : ℕ} → Follows T a b x → Follows T b a y → ((w : ℕ) → Edge T a w → Edge T b w → (w ≡ x) ⊎ (w ≡ y)) →
      {p q : ℕ} → Link T a p q → Link T b p q → length T ≡ 4
  second_part f g only h k = tetrahedron n T s f g only h k

  -- so past four rows the number of common neighbours decides
  pub link_counts : {a b : ℕ} → Meets T a b ↔ (Edge T a b × (4 < length T) × Exactly (Common T a b) 2)
  link_counts = meets_pairs n T s

  -- its Euler number is there
  pub euler_there : (χ : ℤ) × Euler T χ
  euler_there = let c = stepped.counted n T s in (_, record { v = c.0; e = c.1; counts = c.2; is = refl })

  -- and it is one number
  pub euler_one : {χ χ' : ℤ} → Euler T χ → Euler T χ' → χ ≡ χ'
  euler_one c d =
      let h = one_count c.counts.corners d.counts.corners in
      let k = one_count c.counts.sides d.counts.sides in
      c.is ∙ difference_same (c.v + length T) c.e (d.v + length T) d.e (omega arith) ∙ sym d.is

  -- and so is the number of its used corners
  pub corners_there : (v : ℕ) × Exactly (Used T) v
  corners_there = let c = stepped.counted n T s in (c.0, c.2.corners)

  -- and at least four are used
  pub four_used : {v : ℕ} → Exactly (Used T) v → 4 ≤ v
  four_used c = four n T s c

  module _ (a b : ℕ) (m : Meets T a b) where
    -- a contraction leaves a stage
    pub contraction : Stage n (contract a b T)
    contraction = stepped.contraction n T a b s m

    -- of the same Euler number
    pub euler_kept : {χ χ' : ℤ} → Euler T χ → Euler (contract a b T) χ' → χ ≡ χ'
    euler_kept c d = c.is ∙ difference_same (c.v + length T) c.e (d.v + length (contract a b T)) d.e (stepped.euler_kept n T a b s m c.counts d.counts) ∙ sym d.is

    -- with two rows fewer
    pub two_fewer : length T ≡ 2 + length (contract a b T)
    two_fewer = let o = opposite n T s m in two_leave n T a b o.0 o.1 s o.2

    -- and one corner fewer used
    pub one_fewer : {v v' : ℕ} → Exactly (Used T) v → Exactly (Used (contract a b T)) v' → v ≡ v' + 1
    one_fewer c d = let o = opposite n T s m in let h = one_corner n T a b o.0 o.1 s o.2 c d in omega arith

    -- the step writes a record
    pub writes : a < b → (k : Record) × (k.kept ≡ a) × (k.removed ≡ b) × Replays T k (contract a b T)
    writes h = (written n T a b s m, written_kept n T a b s m, written_removed n T a b s m, written_replays n T a b s m h)

-- things are counted to one number
pub counts_one : {A : Type 0} {P : A → Type 0} {k m : ℕ} → Exactly P k → Exactly P m → k ≡ m
counts_one c d = one_count c d

-- the table and the record tell what a step leaves
pub left : {T T₁ T₂ : List Row} {k : Record} → Replays T k T₁ → Replays T k T₂ → T₁ ≡ T₂
left r q = sym r.leaves ∙ q.leaves
