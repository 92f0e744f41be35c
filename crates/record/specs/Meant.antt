-- A record as the code holds it: which number is which.
use Rattle.surface.specs.Rows.{row}
use Rattle.surface.specs.Record as surface
use Rattle.record.specs.declared.Record.{Record}

-- what the code's record means
abbrev pub meant : Record → surface.Record
meant r = record {
  kept = r.kept.0;
  removed = r.removed.0;
  place_1 = r.earlier.place.0;
  row_1 = row r.earlier.a.0 r.earlier.b.0 r.earlier.c.0;
  place_2 = r.later.place.0;
  row_2 = row r.later.a.0 r.later.b.0 r.later.c.0;
}
