-- A job sheet's form: why each answer of its reader is right, and that a sheet has one job.
use mathlib.Core.Path.{◌≡◌, refl, sym, ◌∙◌, ap, subst}
use mathlib.Core.List.{List, [], ◌∷◌, ◌++◌, append-nil}
use Prim.Native.Nat.{ℕ, ◌≤◌}
use native.Mathlib.Omega.{arith}
use lib.IntN.{pos}
use lib.ListN.{length, length-append, drop, get_or}
use lib.Seq.{sets}
use mir.Syntax.{w64}
use mir.Val.{Fits}
use Rattle.text.proofs.Digits.{digits_below}
use Rattle.lines.specs.Lines.{line, LineAt}
use Rattle.lines.specs.Inner.{PutFrom}
use Rattle.lines.proofs.Cut.{line_unique}
use Rattle.reading.specs.Inner.{LineOf}
use Rattle.heading.specs.Heading.{most_digits}
use Rattle.jobform.specs.declared.Entry.{Entry}
use Rattle.jobform.specs.Limits.{most_job_bytes}
use Rattle.jobform.specs.JobSheet.{JOB, AllInForm, entry_line, entry_lines, JobSheetOf}
use Rattle.jobform.specs.Inner.{EntriesRead, JobRead, BadJob, no_sheet}
use Rattle.jobform.proofs.Keeping.{cut_entries}

-- ---- the first line

one : (ns : List ℕ) → length ns ≡ 1 → ns ≡ get_or (sets (0 ∷ []) 0 ns) 0 0 ∷ []
one [] h = absurd (omega arith)
one (x ∷ []) h = refl
one (x ∷ y ∷ ns) h = absurd (omega arith)

pub one_count : {b told r : List ℕ} → PutFrom (LineOf pos most_digits JOB b) 1 (0 ∷ []) 0 told r → LineAt most_digits JOB b (pos (get_or told 0 0) ∷ []) r
one_count {b} {told} {r} p =
    let e = one p.zs p.count ∙ ap (λ l. get_or l 0 0 ∷ []) (sym p.put) in
    subst (λ ns. LineOf pos most_digits JOB b ns r) e p.here

pub count_fits : {b : List ℕ} {n : ℕ} {r : List ℕ} → LineAt most_digits JOB b (pos n ∷ []) r → Fits w64 n
count_fits {n = n} a = record { fits = omega (arith, digits_below n most_digits a.short.0) }

-- a job sheet has its first line, and its entries' lines after it
its_line : {b : List ℕ} {es : List Entry} → JobSheetOf b es → LineAt most_digits JOB b (pos (length es) ∷ []) (entry_lines es)
its_line s = record { bytes = s.text; short = s.short }

-- ---- one job for its lines

nothing_left : (ts : List Entry) → [] ≡ entry_lines ts → ts ≡ []
nothing_left [] e = refl
nothing_left (t ∷ ts) e = let h = ap length e in absurd (omega (arith, length-append (entry_line t) (entry_lines ts)))

same_entries : (es es' : List Entry) → AllInForm es → AllInForm es' → entry_lines es ≡ entry_lines es' → es' ≡ es
same_entries es es' f g e =
    let o = cut_entries es es' [] f g (append-nil (entry_lines es) ∙ e) in
    o.all ∙ ap (λ ts. es ++ ts) (nothing_left o.ts o.left) ∙ append-nil es

module _ {b : List ℕ} {n : ℕ} {r : List ℕ} (f : LineAt most_digits JOB b (pos n ∷ []) r) {es : List Entry} (s : JobSheetOf b es) where
  -- the first line tells how many entries there are, and what follows is their lines
  told_count : n ≡ length es
  told_count = let u : pos n ∷ [] ≡ pos (length es) ∷ [] = (line_unique JOB (pos n ∷ []) (pos (length es) ∷ []) r (entry_lines es) refl (sym f.bytes ∙ s.text)).0 in cc

  follows : r ≡ entry_lines es
  follows = (line_unique JOB (pos n ∷ []) (pos (length es) ∷ []) r (entry_lines es) refl (sym f.bytes ∙ s.text)).1

-- a job sheet has one job, and a job one sheet
pub one_job : {b : List ℕ} {es es' : List Entry} → JobSheetOf b es → JobSheetOf b es' → es' ≡ es
one_job {es = es} {es'} s u = same_entries es es' s.form u.form (follows (its_line s) u)

pub only_job_sheet : {b b' : List ℕ} {es : List Entry} → JobSheetOf b es → JobSheetOf b' es → b ≡ b'
only_job_sheet s u = s.text ∙ sym u.text

-- ---- each way out

module _ {b : List ℕ} (size : length b ≤ most_job_bytes) where
  pub no_first : ((ns r : List ℕ) → length ns ≡ 1 → ¬ LineOf pos most_digits JOB b ns r) → BadJob b
  no_first none = no_sheet size (λ es s. none (length es ∷ []) (entry_lines es) refl (its_line s))

  module _ {n : ℕ} (at : ℕ) (f : LineAt most_digits JOB b (pos n ∷ []) (drop at b)) where
    pub no_entries : ((es : List Entry) → AllInForm es → ¬ (drop at b ≡ entry_lines es)) → BadJob b
    no_entries none = no_sheet size (λ es s. none es s.form (follows f s))

    module _ {k : ℕ} {room : List Entry} (r : EntriesRead k (drop at b) room) where
      pub another_count : ¬ (k ≡ n) → BadJob b
      another_count other = no_sheet size (λ es s.
          let same = same_entries r.es es r.form s.form (sym r.lines ∙ follows f s) in
          other (sym r.many ∙ sym (ap length same) ∙ sym (told_count f s)))

      pub job_read : k ≡ n → JobRead b k room
      job_read e =
          let many : n ≡ length r.es = sym e ∙ sym r.many in
          record {
            size = size;
            es = r.es;
            many = r.many;
            sheet = record {
              text = f.bytes ∙ (λ i. line JOB (pos (many i) ∷ []) ++ r.lines i);
              short = rw (sym many) f.short;
              form = r.form;
            };
            kept = r.kept;
          }
