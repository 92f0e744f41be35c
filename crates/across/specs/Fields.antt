-- The numbers that cross, gathered in a struct for each kind of answer: the status, then its values in their order.
use Rattle.std.specs.Prelude.{◌≡◌, [], ◌∷◌, ℕ, map, pos, Option, Some, None}
use Rattle.refusal.specs.Told.{Told}
use Rattle.across.specs.declared.Counted.{Counted}
use Rattle.across.specs.declared.Measure.{Measure}
use Rattle.across.specs.declared.Exact.{Exact}
use Rattle.across.specs.declared.StandIn.{StandIn}
use Rattle.across.specs.declared.Centimetres.{Centimetres}
use Rattle.across.specs.declared.Counts.{Counts}
use Rattle.across.specs.declared.Written.{Written}
use Rattle.across.specs.declared.LogRead.{LogRead}
use Rattle.across.specs.declared.Recovery.{Recovery}
use Rattle.across.specs.declared.LogOpened.{LogOpened}
use Rattle.across.specs.declared.Asked.{Asked}
use Rattle.across.specs.declared.Stored.{Stored}

abbrev pub of_counted : Counted → Told
of_counted r = record { number = r.status; values = pos r.records ∷ [] }

abbrev pub of_measure : Measure → Told
of_measure r = record { number = r.status; values = r.figure ∷ [] }

abbrev pub of_exact : Exact → Told
of_exact r = record { number = r.status; values = r.whole ∷ pos r.rest ∷ [] }

abbrev pub of_stand_in : StandIn → Told
of_stand_in r = record { number = r.status; values = pos r.corner ∷ pos r.count ∷ pos r.squared ∷ [] }

abbrev pub of_centimetres : Centimetres → Told
of_centimetres r = record { number = r.status; values = pos r.whole ∷ [] }

abbrev pub of_counts : Counts → Told
of_counts r = record { number = r.status; values = pos r.corners ∷ pos r.rows ∷ [] }

abbrev pub of_written : Written → Told
of_written r = record { number = r.status; values = pos r.bytes ∷ [] }

abbrev pub of_log_read : LogRead → Told
of_log_read r = record { number = r.status; values = pos r.corners ∷ pos r.rows ∷ pos r.records ∷ [] }

abbrev pub of_recovery : Recovery → Told
of_recovery r = record { number = r.status; values = pos r.kept ∷ pos r.records ∷ [] }

abbrev pub of_log_opened : LogOpened → Told
of_log_opened r = record { number = r.status; values = pos r.corners ∷ pos r.rows ∷ pos r.place ∷ [] }

abbrev pub of_asked : Asked → Told
of_asked r = record { number = r.status; values = pos r.found ∷ pos r.after ∷ map pos r.numbers }

-- of the trial ring: 1 and the number, or 0 and 0 where there is nothing
abbrev pub Stores : Option ℕ → Stored → Type 0
Stores (Some v) r = (r.there ≡ 1) × (r.number ≡ v)
Stores None r = (r.there ≡ 0) × (r.number ≡ 0)
