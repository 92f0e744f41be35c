-- The counts of a sheet in its form are within the limits.
use mathlib.Core.List.{List}
use Prim.Native.Nat.{ℕ, ◌≤◌, ◌<◌}
use native.Mathlib.Omega.{arith}
use lib.IntN.{ℤ}
use Rattle.std.specs.Prelude.{Ok}
use Rattle.surface.specs.Limits.{least_rows, least_corners}
use Rattle.refusal.specs.First.{First}
use Rattle.refusal.proofs.Laws.{verdicts, passed}
use Rattle.form.specs.Limits.{most_sheet_rows, most_sheet_corners}
use Rattle.form.specs.Form.{CountsIn, SheetOf, form_refusals}
use Rattle.form.proofs.Formed.{its_line}

not_over : (a b : ℕ) → ¬ (b < a) → a ≤ b
not_over a b h = omega arith

pub counts_within : {b : List ℕ} {n m : ℕ} {xs : List ℤ} {t : List ℕ} → First (form_refusals b) (Ok tt) → SheetOf b n m xs t → CountsIn n m
unfolding form_refusals
counts_within {b} {n} {m} f s =
    let no-out = (passed verdicts _ _ (passed verdicts _ _ (passed verdicts _ _ f).1).1).0 in
    let out : ¬ (¬ CountsIn n m) = λ h. no-out (record { n = n; m = m; begins = record { rest = _; line = its_line s }; out = h }) in
    record {
      few = not_over least_corners n (λ h. out (λ c. let q = c.few in omega arith));
      many = not_over n most_sheet_corners (λ h. out (λ c. let q = c.many in omega arith));
      least = not_over least_rows m (λ h. out (λ c. let q = c.least in omega arith));
      most = not_over m most_sheet_rows (λ h. out (λ c. let q = c.most in omega arith));
    }
