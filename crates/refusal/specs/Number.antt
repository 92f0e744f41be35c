-- 01's number for each refusal.
use Rattle.std.specs.Prelude.{ℕ}
use Rattle.refusal.specs.declared.Refusal.{Refusal}
use Rattle.refusal.specs.declared.Refusal.TheVariants.{LimitUnusable, CountsOutside, RoomShort, CoordinateOutOfRange, NumberNotBelow, NumberTwice, EdgeTwice, ReverseMissing, CornerUnused, RingsMany, NotConnected, SheetForm, RecordFails}

abbrev pub number : Refusal → ℕ
-- limit unusable
number LimitUnusable = 1
-- counts outside limits; a length no multiple; rows that would pass the limits
number CountsOutside = 2
-- lent room short
number RoomShort = 3
-- a coordinate out of range
number CoordinateOutOfRange = 4
-- a corner number not below the count
number NumberNotBelow = 5
-- a number twice in a row
number NumberTwice = 6
-- a directed edge twice
number EdgeTwice = 7
-- a reverse missing
number ReverseMissing = 8
-- a corner unused
number CornerUnused = 9
-- more than one ring round a corner
number RingsMany = 10
-- not connected
number NotConnected = 11
-- sheet not in its form, or too long
number SheetForm = 12
-- a record does not grow back or replay
number RecordFails = 13
