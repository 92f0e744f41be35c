-- A record as it stands in a log: ten numbers. Nothing else lays a record out.
use Rattle.std.specs.Prelude.{◌≡◌, List, [], ◌∷◌, ◌++◌, ℕ, zero, suc, ◌+◌, ◌*◌, ◌/◌, ◌%◌, length, drop, get_or}
use Rattle.surface.specs.Rows.{Row, row}
use Rattle.surface.specs.Record as surface

-- a record is ten numbers
abbrev pub width : ℕ
width = 10

abbrev pub three : Row → List ℕ
three (row i j k) = i ∷ j ∷ k ∷ []

-- kept, removed, place of the earlier leaving row, its three numbers, place of the later one, its three numbers
abbrev pub numbers : surface.Record → List ℕ
numbers k = k.kept ∷ k.removed ∷ k.place_1 ∷ (three k.row_1 ++ (k.place_2 ∷ three k.row_2))

-- the numbers of a log's records, first record first
unfoldable pub log_of : List surface.Record → List ℕ
log_of [] = []
log_of (k ∷ l) = numbers k ++ log_of l

-- the record whose numbers stand in a log from place i on
abbrev pub record_at : List ℕ → ℕ → surface.Record
record_at l i = record {
  kept = get_or l i 0;
  removed = get_or l (i + 1) 0;
  place_1 = get_or l (i + 2) 0;
  row_1 = row (get_or l (i + 3) 0) (get_or l (i + 4) 0) (get_or l (i + 5) 0);
  place_2 = get_or l (i + 6) 0;
  row_2 = row (get_or l (i + 7) 0) (get_or l (i + 8) 0) (get_or l (i + 9) 0);
}

-- the first k records of a log
unfoldable pub first_records : ℕ → List ℕ → List surface.Record
first_records zero l = []
first_records (suc k) l = record_at l 0 ∷ first_records k (drop width l)

-- how many records a log has; numbers over at its end are no record
abbrev pub count : List ℕ → ℕ
count l = length l / width

abbrev pub records : List ℕ → List surface.Record
records l = first_records (count l) l

-- a log of whole records: its length is a multiple of ten
abbrev pub WholeRecords : List ℕ → Type 0
WholeRecords l = length l % width ≡ 0

-- how many numbers so many records take
abbrev pub room_for : ℕ → ℕ
room_for k = width * k
