-- The theorems on growing back and on accepting a record, each in 01's words. Other crates cite these.
use mathlib.Core.Path.{◌≡◌}
use mathlib.Core.Logic.{◌↔◌}
use mathlib.Core.List.{List}
use Prim.Native.Nat.{ℕ}
use Rattle.surface.specs.Rows.{Row}
use Rattle.surface.specs.Stage.{Stage}
use Rattle.surface.specs.Record.{Record, Replays}
use Rattle.growth.specs.Accept.{Accepted}
use Rattle.growth.specs.InnerLocal.{Local}
use Rattle.growth.proofs.Accepting.{accepted_iff, accepted_one}
use Rattle.growth.proofs.Recorded.{replay_iff}

module _ (n : ℕ) (T : List Row) (s : Stage n T) where
  -- growing back undoes a step, number for number: the record of a step from T is accepted, and gives T back
  pub grown_back : {k : Record} {T' : List Row} → Replays T k T' → Accepted n T' k T
  grown_back r = (replay_iff n T _ _).1 (s, r)

  -- 01's rule for accepting a record on a stage is the local one
  pub accepted_local : (k : Record) → ((T₀ : List Row) × Accepted n T k T₀) ↔ Local n T k
  accepted_local k = accepted_iff n T k s

-- the table and the record tell the first table
pub told : {n₁ n₂ : ℕ} {T' T₁ T₂ : List Row} {k : Record} → Accepted n₁ T' k T₁ → Accepted n₂ T' k T₂ → T₁ ≡ T₂
told g h = accepted_one g h
