-- A reader asked again and again.
use Rattle.std.specs.Prelude.{◌≡◌, List}
use Rattle.follow.specs.Leads.{Leads}
use Rattle.surface.specs.Record as surface
use Rattle.refusal.specs.Told.{Told, refused_as}
use Rattle.logrecords.specs.declared.Next.{Next}
use Rattle.logrecords.specs.Answer.{told_next}
use Rattle.logrecords.specs.Walk.{told_record, told_end}
use Rattle.logreader.specs.declared.Reader.{Reader}
use Rattle.logreader.specs.Outcome.{Asked}

-- asked once, the reader r tells v, and is r' after it
pub record TellsOn (r : Reader) (v : Told) (r' : Reader) : Type 0 where
  pub answer : Next
  pub asked : Asked r r' answer
  pub tells : told_next answer ≡ v

-- asked once, the reader r gives the record k, and stands after it
abbrev pub GivesOn : Reader → surface.Record → Reader → Type 0
GivesOn r k r' = TellsOn r (told_record k r'.at) r'

-- asked from where it stands on, a reader gives these records and then the end, where it stays
pub record AskedOn (r : Reader) (rs : List surface.Record) : Type 0 where
  pub last : Reader
  pub gives : Leads GivesOn r rs last
  pub ends : TellsOn last (told_end last.at) last

-- or it gives these records and then, and not before, tells 12, and stays
pub record BrokenOn (r : Reader) (rs : List surface.Record) : Type 0 where
  pub last : Reader
  pub gives : Leads GivesOn r rs last
  pub bad : TellsOn last (refused_as 12) last
