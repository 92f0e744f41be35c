-- What inner functions are asked on and give: no public contract names it.
use Rattle.std.specs.Prelude.{◌≡◌, List, [], ℕ, ◌*◌, ◌≤◌, ◌<◌, pos, length, drop, Option, Some, None}
use Rattle.record.specs.Layout.{width}
use Rattle.text.specs.declared.Cursor.{Cursor}
use Rattle.lines.specs.Kinds.{K}
use Rattle.reading.specs.Inner.{LineOf, LinesOf}
use Rattle.heading.specs.Heading.{most_digits}
use Rattle.logform.specs.declared.LogForm.{LogForm}
use Rattle.logform.specs.LogSheet.{most_log_bytes, LogSheetOf, NoLogSheet}

-- a record's line in front of l, with r after it
abbrev pub RecordAt : List ℕ → List ℕ → List ℕ → Type 0
RecordAt l ns r = LineOf pos most_digits K l ns r

-- a record's line passed over, and the place after it; or none stands there
pub record LinePassed (l r : List ℕ) : Type 0 where
  pub ns : List ℕ
  pub count : length ns ≡ width
  pub here : RecordAt l ns r

unfoldable pub PassedOver : List ℕ → ℕ → Option Cursor → Type 0
PassedOver s at (Some c) = LinePassed (drop at s) (drop c.at s)
PassedOver s at None = (ns r : List ℕ) → length ns ≡ width → ¬ RecordAt (drop at s) ns r

-- l is k records' lines, and nothing else
pub record Records (k : ℕ) (l : List ℕ) (log : List ℕ) : Type 0 where
  pub count : length log ≡ k * width
  pub lines : LinesOf pos most_digits K width k l log []

-- how many lines of records are left from a place on; or something else stands there
pub record LinesLeft (k : ℕ) (l : List ℕ) : Type 0 where
  pub log : List ℕ
  pub are : Records k l log

unfoldable pub WhatIsLeft : List ℕ → Option ℕ → Type 0
WhatIsLeft l (Some k) = LinesLeft k l
WhatIsLeft l None = (k : ℕ) (log : List ℕ) → ¬ Records k l log

-- in the form, with its lines of records from a place on
pub record LogFormRead (b : List ℕ) (n m k at : ℕ) : Type 0 where
  pub size : length b ≤ most_log_bytes
  pub log : List ℕ
  pub sheet : LogSheetOf b n m log
  pub records : Records k (drop at b) log

pub data BadLogForm (b : List ℕ) : Type 0 where
  too_long : most_log_bytes < length b → BadLogForm b
  no_sheet : length b ≤ most_log_bytes → NoLogSheet b → BadLogForm b

unfoldable pub ReadLogForm : List ℕ → Option LogForm → Type 0
ReadLogForm b (Some f) = LogFormRead b f.corners f.rows f.records f.after.at
ReadLogForm b None = BadLogForm b
