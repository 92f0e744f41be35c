-- How long a job sheet is: none of at most 32 entries passes the size limit.
use mathlib.Core.Path.{ap}
use mathlib.Core.List.{List, [], ◌∷◌, ◌++◌}
use Prim.Native.Nat.{ℕ, ◌*◌, ◌≤◌}
use native.Mathlib.Omega.{arith}
use lib.IntN.{pos}
use lib.ListN.{length, length-append}
use Rattle.std.specs.Prelude.{Option, Some, None}
use Rattle.text.specs.Decimal.{signed}
use Rattle.lines.specs.Lines.{tab, newline, line}
use Rattle.lines.proofs.Lengths.{line_length}
use Rattle.heading.proofs.Sizes.{signed_size, fields_size}
use Rattle.jobform.specs.declared.Entry.{Entry}
use Rattle.jobform.specs.Limits.{most_job_bytes, most_entries}
use Rattle.jobform.specs.JobSheet.{JOB, named, entry_line, entry_lines, ShortName, InForm, AllInForm, JobSheetOf}

named_size : (n : Option ℕ) → ShortName n → length (named n) ≤ 6
named_size None h = omega arith
named_size (Some j) h = h

entry_size : (e : Entry) → InForm e → length (entry_line e) ≤ 31
entry_size e f = omega (
  arith,
  length-append (named e.name) (tab ∷ (signed e.sum ++ (newline ∷ []))),
  length-append (signed e.sum) (newline ∷ []),
  named_size e.name f.short_name,
  signed_size e.sum,
  f.short_sum,
)

lines_size : (es : List Entry) → AllInForm es → length (entry_lines es) ≤ length es * 31
lines_size [] f = omega arith
lines_size (e ∷ es) f = omega (arith, length-append (entry_line e) (entry_lines es), entry_size e f.0, lines_size es f.1)

pub sheet_size : {b : List ℕ} {es : List Entry} → JobSheetOf b es → length es ≤ most_entries → length b ≤ most_job_bytes
sheet_size {es = es} s few =
    let e = ap length s.text in
    omega (
      arith,
      length-append (line JOB (pos (length es) ∷ [])) (entry_lines es),
      line_length JOB (pos (length es) ∷ []),
      fields_size (pos (length es) ∷ []) s.short,
      lines_size es s.form,
    )
