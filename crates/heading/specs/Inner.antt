-- What inner functions give: no public contract names it.
use Rattle.std.specs.Prelude.{List, [], ◌∷◌, ℕ, pos, drop, Option, Some, None}
use Rattle.lines.specs.Lines.{LineAt}
use Rattle.heading.specs.declared.Heading.{Heading}
use Rattle.heading.specs.Heading.{most_digits, NoFirstLine}

-- what the reader of the first line answers
unfoldable pub ReadFirst : List ℕ → List ℕ → Option Heading → Type 0
ReadFirst w b (Some h) = LineAt most_digits w b (pos h.corners ∷ pos h.rows ∷ []) (drop h.after.at b)
ReadFirst w b None = NoFirstLine w b
