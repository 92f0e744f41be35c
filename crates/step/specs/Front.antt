-- Steps on the front of a lent table: what lies past the rows that stand is zeros as far as the first table went, and then the caller's.
use Rattle.std.specs.Prelude.{◌≡◌, List, ◌++◌, ℕ, ◌-◌, ◌*◌, ◌≤◌, length, drop, replicate}
use Rattle.surface.specs.InnerStageTable.{StageTable}
use Rattle.record.specs.declared.Record.{Record}
use Rattle.record.specs.Front.{front_rows}
use Rattle.step.specs.Step.{Stepped}

-- the step of the edge from a up to b on the front of a lent table; what lies past it stays as it was
pub record SteppedFront (t : List ℕ) (r a b : ℕ) (k : Record) (t' : List ℕ) : Type 0 where
  pub stepped : Stepped (front_rows r t) a b k (front_rows r t')
  pub past : drop (3 * r) t' ≡ drop (3 * r) t

-- from r₀ rows of t₀ down to r rows of t: a stage in front, zeros to where the first one ended, and past that all is as it was
pub record Fallen (n : ℕ) (t₀ : List ℕ) (r₀ : ℕ) (t : List ℕ) (r : ℕ) : Type 0 where
  pub inside : 3 * r ≤ length t
  pub table : StageTable n (front_rows r t)
  pub fewer : r ≤ r₀
  pub same : length t ≡ length t₀
  pub rest : drop (3 * r) t ≡ replicate (3 * (r₀ - r)) 0 ++ drop (3 * r₀) t₀
