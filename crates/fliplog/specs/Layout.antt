-- A list of edges, two numbers each, and a flip log, eight numbers a record. Nothing else lays them out.
use Rattle.std.specs.Prelude.{List, [], ◌∷◌, ◌++◌, ℕ, get_or}
use Rattle.surface.specs.Rows.{row}
use Rattle.surface.specs.Table.{Arrow, ◌⇒◌}
use Rattle.flips.specs.Flip.{Flip}
use Rattle.record.specs.Layout.{three}
use Rattle.laid.specs.Laid.{Layout}

-- an edge is two numbers, a and b: the directed edge a to b, since (a, b) and (b, a) are flipped to other rows
abbrev pub two : Arrow → List ℕ
two (a ⇒ b) = a ∷ b ∷ []

abbrev pub edge_list : Layout Arrow
edge_list = record { width = 2; numbers = two; item = λ l. get_or l 0 0 ⇒ get_or l 1 0 }

-- a record is eight numbers
abbrev pub width : ℕ
width = 8

-- place and old row of (a, b, c), then of (b, a, d), as stored
abbrev pub numbers : Flip → List ℕ
numbers k = k.place_1 ∷ (three k.row_1 ++ (k.place_2 ∷ three k.row_2))

-- the record whose numbers stand in front
abbrev pub flip_in : List ℕ → Flip
flip_in l = record {
  place_1 = get_or l 0 0;
  row_1 = row (get_or l 1 0) (get_or l 2 0) (get_or l 3 0);
  place_2 = get_or l 4 0;
  row_2 = row (get_or l 5 0) (get_or l 6 0) (get_or l 7 0);
}

abbrev pub flip_log : Layout Flip
flip_log = record { width = width; numbers = numbers; item = flip_in }
