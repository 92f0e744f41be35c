-- What inner functions are asked on and give: no public contract names it.
use Rattle.std.specs.Prelude.{◌≡◌, List, ◌∷◌, ◌++◌, ℕ, ◌≤◌, ◌<◌, length, take, drop, Option, Some, None}
use Rattle.text.specs.declared.Cursor.{Cursor}
use Rattle.text.specs.Inner.{NoDigit}
use Rattle.lines.specs.Lines.{tab}
use Rattle.jobform.specs.declared.Entry.{Entry}
use Rattle.jobform.specs.Limits.{most_job_bytes}
use Rattle.jobform.specs.JobSheet.{Capital, named, ShortName, InForm, AllInForm, entry_line, entry_lines, JobSheetOf, NoJobSheet}

-- ---- the parts of a line: what stands in front of l, with r after it

pub record LetterAt (l : List ℕ) (b : ℕ) (r : List ℕ) : Type 0 where
  pub bytes : l ≡ tab ∷ b ∷ r
  pub capital : Capital b

-- a number ends where no digit follows; `-` ends itself
abbrev pub Ends : Option ℕ → List ℕ → Type 0
Ends None r = Unit
Ends (Some j) r = NoDigit r

pub record NameAt (l : List ℕ) (n : Option ℕ) (r : List ℕ) : Type 0 where
  pub bytes : l ≡ tab ∷ (named n ++ r)
  pub short : ShortName n
  pub ends : Ends n r

pub record EntryAt (l : List ℕ) (e : Entry) (r : List ℕ) : Type 0 where
  pub bytes : l ≡ entry_line e ++ r
  pub form : InForm e

-- ---- each read from a place, and the place after it; or none stands there

unfoldable pub ReadLetter : List ℕ → ℕ → Option (ℕ × Cursor) → Type 0
ReadLetter s at (Some p) = LetterAt (drop at s) p.0 (drop p.1.at s)
ReadLetter s at None = (b : ℕ) (r : List ℕ) → ¬ LetterAt (drop at s) b r

unfoldable pub ReadName : List ℕ → ℕ → Option (Option ℕ × Cursor) → Type 0
ReadName s at (Some p) = NameAt (drop at s) p.0 (drop p.1.at s)
ReadName s at None = (n : Option ℕ) (r : List ℕ) → ¬ NameAt (drop at s) n r

unfoldable pub ReadEntry : List ℕ → ℕ → Option (Entry × Cursor) → Type 0
ReadEntry s at (Some p) = EntryAt (drop at s) p.0 (drop p.1.at s)
ReadEntry s at None = (e : Entry) (r : List ℕ) → ¬ EntryAt (drop at s) e r

-- ---- entries kept in a lent room

-- the entries es stand in front of a room, unless there are too many for it
abbrev pub Kept : List Entry → List Entry → Type 0
Kept es room = length es ≤ length room → take (length es) room ≡ es

-- ---- lines to the end

-- l is the lines of so many entries and nothing else; they are kept
pub record EntriesRead (count : ℕ) (l : List ℕ) (room : List Entry) : Type 0 where
  pub es : List Entry
  pub many : length es ≡ count
  pub lines : l ≡ entry_lines es
  pub form : AllInForm es
  pub kept : Kept es room

unfoldable pub ReadEntries : List ℕ → List Entry → Option ℕ → Type 0
ReadEntries l room (Some k) = EntriesRead k l room
ReadEntries l room None = (es : List Entry) → AllInForm es → ¬ (l ≡ entry_lines es)

-- ---- the whole sheet

pub record JobRead (b : List ℕ) (count : ℕ) (room : List Entry) : Type 0 where
  pub size : length b ≤ most_job_bytes
  pub es : List Entry
  pub many : length es ≡ count
  pub sheet : JobSheetOf b es
  pub kept : Kept es room

pub data BadJob (b : List ℕ) : Type 0 where
  too_long : most_job_bytes < length b → BadJob b
  no_sheet : length b ≤ most_job_bytes → NoJobSheet b → BadJob b

unfoldable pub ReadJob : List ℕ → List Entry → Option ℕ → Type 0
ReadJob b room (Some k) = JobRead b k room
ReadJob b room None = BadJob b
