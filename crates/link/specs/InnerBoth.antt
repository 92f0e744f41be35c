-- Two rings: what stands in both, and what the link test tells.
use Rattle.std.specs.Prelude.{◌≢◌, Bool, List, ℕ, get_or}
use Rattle.surface.specs.Lists.{◌∈◌}
use Rattle.surface.specs.Rows.{Row}
use Rattle.surface.specs.Link.{Meets}
use Rattle.refusal.specs.InnerTells.{Tells}
use Rattle.neighbours.specs.Around.{Neighbours}

-- w stands in both lists: a common neighbour, where they list neighbours
abbrev pub Both : List ℕ → List ℕ → ℕ → Type 0
Both l m w = (w ∈ l) × (w ∈ m)

-- w stands in l and is marked
abbrev pub MarkedOf : List ℕ → List ℕ → ℕ → Type 0
MarkedOf l m w = (w ∈ l) × (get_or m w 0 ≢ 0)

-- r tells whether the edge from b to a corner whose neighbours l lists may be contracted
abbrev pub TellsEdge : List Row → List ℕ → ℕ → Bool → Type 0
TellsEdge T l b r = (a : ℕ) → Neighbours T a l → Tells r (Meets T a b) (¬ Meets T a b)
