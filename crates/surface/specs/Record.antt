-- What a step writes: kept, removed, and the two leaving rows with their places. The numbers' order in a log is not said here.
use Rattle.std.specs.Prelude.{◌≡◌, List, [], ◌∷◌, map, ℕ, zero, suc, ◌<◌}
use Rattle.std.proofs.Math.Logic.{ite}
use Rattle.follow.specs.Leads.{Leads}
use Rattle.surface.specs.Rows.{Row}
use Rattle.surface.specs.Contract.{stays?, contract}
use Rattle.surface.specs.Link.{Meets}

-- a row and its place
pub data Placed : Type 0 where
  at : ℕ → Row → Placed

unfoldable pub later : Placed → Placed
later (at i r) = at (suc i) r

-- the leaving rows, the earlier first; places count from 0 in the table before the step
unfoldable pub leaving : ℕ → ℕ → List Row → List Placed
leaving a b [] = []
leaving a b (r ∷ T) = ite {C = List Placed} (stays? a b r) (map later (leaving a b T)) (at zero r ∷ map later (leaving a b T))

pub record Record : Type 0 where
  pub kept : ℕ
  pub removed : ℕ
  pub place_1 : ℕ
  pub row_1 : Row
  pub place_2 : ℕ
  pub row_2 : Row

abbrev pub placed : Record → List Placed
placed k = at k.place_1 k.row_1 ∷ at k.place_2 k.row_2 ∷ []

-- the step of the record k leads from T to T': the kept number is below the removed one, the edge exists and meets the condition, and the
-- step writes this record. Replaying forward accepts a record exactly then.
pub record Replays (T : List Row) (k : Record) (T' : List Row) : Type 0 where
  pub lower : k.kept < k.removed
  pub meets : Meets T k.kept k.removed
  pub leaves : contract k.kept k.removed T ≡ T'
  pub record_is : leaving k.kept k.removed T ≡ placed k

-- a log, first record first, leads from T to T'
abbrev pub Replayed : List Row → List Record → List Row → Type 0
Replayed = Leads Replays
