-- A flip's record as the code holds it: which number is which.
use Rattle.flips.specs.Flip.{Flip}
use Rattle.ends.specs.Rows.{row_of}
use Rattle.fliplog.specs.declared.FlipRecord.{FlipRecord}

-- what the code's record means
abbrev pub meant : FlipRecord → Flip
meant r = record { place_1 = r.first.place.0; row_1 = row_of r.first; place_2 = r.second.place.0; row_2 = row_of r.second }
