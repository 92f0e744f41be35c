-- Entries whose count, kinds, names and sums are good can be written on a sheet.
use mathlib.Core.Path.{◌≡◌, refl, sym}
use mathlib.Core.List.{List, [], ◌∷◌}
use Prim.Native.Nat.{ℕ, zero, suc, ◌<◌}
use native.Mathlib.Decide.{ℕ_discrete}
use native.Mathlib.Omega.{arith}
use lib.IntN.{nat_abs}
use lib.ListN.{length}
use Rattle.std.specs.Prelude.{Option, Some, None}
use Rattle.text.proofs.Digits.{below_digits}
use Rattle.jobform.specs.declared.Entry.{Entry}
use Rattle.jobform.specs.Limits.{most_entries}
use Rattle.jobform.specs.JobSheet.{Capital, ShortName, InForm, AllInForm, job_text, JobSheetOf}
use Rattle.nest.specs.declared.Kind.TheVariants.{Other}
use Rattle.nest.specs.Questions.{void_letter, solid_letter, kind_of_lem, At, Every, Counted, Marked, NameGood, Named, SumIn}
use Rattle.nest.proofs.Asking.{marks_other}
use Rattle.nest.proofs.Entries.{at_below}

-- V and S are capital letters
marked_capital : (b : ℕ) → ¬ (kind_of_lem b ≡ Other) → Capital b
marked_capital b marked = go (ℕ_discrete b void_letter) (ℕ_discrete b solid_letter)
  where
    go : Dec (b ≡ void_letter) → Dec (b ≡ solid_letter) → Capital b
    go (yes e) d = record { least = omega arith; most = omega arith }
    go (no n) (yes e) = record { least = omega arith; most = omega arith }
    go (no n) (no m) = absurd (marked (sym (marks_other b n m)))

-- the name of an earlier entry is short
short_name : (i : ℕ) (n : Option ℕ) → NameGood i n → i < most_entries → ShortName n
short_name zero None g h = tt
short_name zero (Some j) g h = absurd g
short_name (suc i) None g h = absurd g
short_name (suc i) (Some j) g h = below_digits j 6 (omega arith) (omega arith)

all_form : (es : List Entry) → ((i : ℕ) (e : Entry) → At es i e → InForm e) → AllInForm es
all_form [] each = tt
all_form (e ∷ es) each = (each 0 e refl, all_form es (λ i d a. each (suc i) d a))

pub written : {es : List Entry} → Counted es → Every Marked es → Every Named es → Every SumIn es → JobSheetOf (job_text es) es
written {es} c marked named sums = record {
  text = refl;
  short = (below_digits (length es) 6 (omega arith) (omega (arith, c.few)), tt);
  form = all_form es (λ i e a. record {
    capital = marked_capital e.letter (marked i e a);
    short_name = short_name i e.name (named i e a) (omega (arith, at_below es i e a, c.few));
    short_sum = below_digits (nat_abs e.sum) 18 (omega arith) (omega (arith, sums i e a));
  });
}
