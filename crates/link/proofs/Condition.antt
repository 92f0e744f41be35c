-- From the gathered rings to the published condition. Four rows are the tetrahedron; past them an edge may be contracted exactly when its two
-- corners have two common neighbours.
use mathlib.Core.Path.{◌≡◌}
use mathlib.Core.Logic.{◌↔◌}
use mathlib.Core.List.{List}
use Prim.Native.Nat.{ℕ, ◌≤◌, ◌<◌}
use native.Mathlib.Omega.{arith}
use borrow.Author.Tests.{eqb-true, eqb-false}
use lib.Dec.{eqb}
use lib.ListN.{length}
use denote.Ref.{Bor}
use Rattle.surface.specs.Lists.{◌∈◌, Exactly}
use Rattle.surface.specs.Rows.{rows}
use Rattle.surface.specs.Table.{Edge}
use Rattle.surface.specs.InnerStageTable.{StageTable}
use Rattle.surface.proofs.Main.{link_counts, counts_one}
use Rattle.surface.specs.Link.{Meets, Common}
use Rattle.refusal.specs.InnerTells.{Tells}
use Rattle.neighbours.specs.Around.{Neighbours, Marked}
use Rattle.link.specs.Chosen.{Chosen}
use Rattle.link.specs.InnerBoth.{Both, MarkedOf}
use Rattle.link.proofs.Laws.{second_chosen, first_chosen}
use Rattle.link.proofs.Tally.{exactly_same}

-- that there are n marked numbers of l says that n stand in both
abbrev Counts : List ℕ → List ℕ → List ℕ → ℕ → List ℕ → Type 0
Counts first second m n l = Exactly (MarkedOf l m) n → Exactly (Both first second) n

-- so it does where l is the ring that is walked, and m marks the other
module _ {a b r : Bor (List ℕ)} {m : List ℕ} {n : ℕ} (h : Chosen a b r) where
  pub second_walked : length r.now < length a.now → Marked a.now m → Exactly (MarkedOf r.now m) n → Exactly (Both a.now b.now) n
  second_walked k g = second_chosen (Counts a.now b.now m n) h k (exactly_same (λ w z. (g.only z.1, z.0)) (λ w z. (z.1, g.all z.0)))

  pub first_walked : length a.now ≤ length r.now → Marked b.now m → Exactly (MarkedOf r.now m) n → Exactly (Both a.now b.now) n
  first_walked k g = first_chosen (Counts a.now b.now m n) h k (exactly_same (λ w z. (z.0, g.only z.1)) (λ w z. (z.0, g.all z.1)))

module _ {n : ℕ} (t : List ℕ) (s : StageTable n t) {a b : ℕ} where
  pub four_rows : length t ≤ 12 → ¬ Meets (rows t) a b
  four_rows h m =
      let k = ((link_counts n (rows t) s.stage).0 m).1 in
      let c = s.count in
      omega arith

  module _ {l : List ℕ} (f : Neighbours (rows t) a l) where
    module _ {m : List ℕ} (g : Neighbours (rows t) b m) where
      common_count : {k : ℕ} → Exactly (Both l m) k → Exactly (Common (rows t) a b) k
      common_count c = exactly_same (λ w z. (f.only z.0, g.only z.1)) (λ w z. (f.all z.0, g.all z.1)) c

      -- the count tells
      pub two_common : {k : ℕ} → 12 < length t → b ∈ l → Exactly (Both l m) k → Tells (eqb k 2) (Meets (rows t) a b) (¬ Meets (rows t) a b)
      two_common {k} h i c = record { when_true = λ e. met (eqb-true k 2 e); when_false = λ e z. eqb-false k 2 e (counts_one (common_count c) (both.0 z).2) }
        where
          both : Meets (rows t) a b ↔ (Edge (rows t) a b × (4 < length (rows t)) × Exactly (Common (rows t) a b) 2)
          both = link_counts n (rows t) s.stage

          met : k ≡ 2 → Meets (rows t) a b
          met e = let q = s.count in both.1 (f.only i, omega arith, rw e at (common_count c))
