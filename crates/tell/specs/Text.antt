-- What the desk writes: "one line, NO and the number", or the lines OK, R and K. Rows and records stand as in a sheet; a figure may have more digits than a number of a sheet.
use Rattle.std.specs.Prelude.{List, [], ◌∷◌, ◌++◌, ℕ, ◌/◌, ℤ, pos, length}
use Rattle.surface.specs.Rows.{Row, flat}
use Rattle.surface.specs.Record.{Record}
use Rattle.refusal.specs.declared.Refusal.{Refusal}
use Rattle.refusal.specs.Number.{number}
use Rattle.record.specs.Layout.{log_of, count}
use Rattle.lines.specs.Lines.{line}
use Rattle.lines.specs.Kinds.{row_lines, record_lines}
use Rattle.figure.specs.Sum.{sixfold}
use Rattle.wide.specs.Rounding.{figure}

-- the words of the first lines: OK, NO
abbrev pub OK : List ℕ
OK = 79 ∷ 75 ∷ []

abbrev pub NO : List ℕ
NO = 78 ∷ 79 ∷ []

-- bytes that suffice for whatever the desk has to say
abbrev pub most_text : ℕ
most_text = 65536

-- `NO` and the number
unfoldable pub no_text : Refusal → List ℕ
no_text r = line NO (pos (number r) ∷ [])

-- the lines of a last stage, its log and two figures
unfoldable pub run_text : List ℕ → List ℕ → ℤ → ℤ → List ℕ
run_text t log before after =
    line OK (pos (length t / 3) ∷ pos (count log) ∷ before ∷ after ∷ [])
    ++ (row_lines (length t / 3) t ++ record_lines (count log) log)

-- "The first line has rows left, records, first and last volume": here of the run from T with the records log to the stage last, over the
-- coordinates xs. Then each row of the last stage, and each record.
unfoldable pub ok_text : List ℤ → List Row → List Record → List Row → List ℕ
ok_text xs T log last =
    line OK (pos (length last) ∷ pos (length log) ∷ figure (sixfold xs T) ∷ figure (sixfold xs last) ∷ [])
    ++ (row_lines (length last) (flat last) ++ record_lines (length log) (log_of log))
