-- A sheet's form, in order: why each answer is the first that holds.
use mathlib.Core.Path.{sym, ◌∙◌, ap, subst}
use mathlib.Core.List.{List, [], ◌∷◌, ◌++◌}
use Prim.Native.Nat.{ℕ, ◌*◌, ◌≤◌, ◌<◌}
use native.Mathlib.Omega.{arith}
use lib.IntN.{ℤ, pos}
use lib.ListN.{length, take}
use Rattle.std.specs.Prelude.{Ok, Err}
use Rattle.refusal.specs.First.{First}
use Rattle.refusal.specs.declared.Refusal.TheVariants.{SheetForm, CountsOutside}
use Rattle.refusal.proofs.Laws.{verdicts, given_first, passes_none, none_yet, ◌nor◌}
use Rattle.lines.specs.Lines.{LineAt}
use Rattle.lines.specs.Kinds.{corner_lines, row_lines}
use Rattle.heading.specs.Heading.{most_digits, first_line_lem, Begins, NoFirstLine}
use Rattle.heading.proofs.First.{same_first}
use Rattle.form.specs.Limits.{most_sheet_bytes}
use Rattle.form.specs.Form.{SKIN, CountsIn, SheetOf, CountsOut, NoSheet, form_refusals}
use Rattle.form.specs.Inner.{BodyAt, NoBody, FormRead}

pub too_long : (b : List ℕ) → most_sheet_bytes < length b → First (form_refusals b) (Err SheetForm)
unfolding form_refusals
too_long b h = given_first verdicts none_yet h

module _ (b : List ℕ) (size : length b ≤ most_sheet_bytes) where
  pub no_first_line : NoFirstLine SKIN b → First (form_refusals b) (Err SheetForm)
  unfolding form_refusals
  no_first_line h = given_first verdicts ((λ k. omega arith) nor none_yet) h

-- a sheet has its first line, and its body after it
pub its_line : {b : List ℕ} {n m : ℕ} {xs : List ℤ} {t : List ℕ} → SheetOf b n m xs t → LineAt most_digits SKIN b (pos n ∷ pos m ∷ []) (corner_lines n xs ++ row_lines m t)
its_line s = record { bytes = s.text; short = s.counts_short }

module _ (b : List ℕ) (size : length b ≤ most_sheet_bytes) (n m : ℕ) (l : List ℕ) (f : LineAt most_digits SKIN b (pos n ∷ pos m ∷ []) l) where
  begins : Begins SKIN b n m
  begins = record { rest = l; line = f }

  pub refuse_counts : (¬ CountsIn n m) → First (form_refusals b) (Err CountsOutside)
  unfolding form_refusals
  refuse_counts h = given_first verdicts ((λ k. omega arith) nor (λ k. k n m begins) nor none_yet) (record { n = n; m = m; begins = begins; out = h })

  module _ (fit : CountsIn n m) where
    not_out : ¬ CountsOut b
    not_out o =
        let u = same_first SKIN b n m o.n o.m l o.begins.rest f o.begins.line in
        o.out (subst (λ (k : ℕ). CountsIn k o.m) u.corners (subst (CountsIn n) u.rows fit))

    pub refuse_lines : NoBody l n m → First (form_refusals b) (Err SheetForm)
    unfolding form_refusals
    refuse_lines h = given_first verdicts ((λ k. omega arith) nor (λ k. k n m begins) nor not_out nor none_yet) no_sheet
      where
        no_sheet : NoSheet b
        no_sheet n' m' xs t s =
            let u = same_first SKIN b n m n' m' l (corner_lines n' xs ++ row_lines m' t) f (its_line s) in
            let w : BodyAt l n' m' xs t = record { text = u.after; corners = s.corners; rows = s.rows; corners_short = s.corners_short; rows_short = s.rows_short } in
            h xs t (subst (λ (k : ℕ). BodyAt l k m xs t) (sym u.corners) (subst (λ (k : ℕ). BodyAt l n' k xs t) (sym u.rows) w))

    whole : (xs : List ℤ) (t : List ℕ) → BodyAt l n m xs t → SheetOf b n m xs t
    whole xs t w = record {
      text = f.bytes ∙ ap (λ x. first_line_lem SKIN n m ++ x) w.text;
      corners = w.corners;
      rows = w.rows;
      counts_short = f.short;
      corners_short = w.corners_short;
      rows_short = w.rows_short;
    }

    -- a sheet passes
    pub form_passes : {xs : List ℤ} {t : List ℕ} → SheetOf b n m xs t → First (form_refusals b) (Ok tt)
    unfolding form_refusals
    form_passes {xs} {t} s = (passes_none verdicts _).1 ((λ k. omega arith) nor (λ k. k n m begins) nor not_out nor (λ k. k n m xs t s) nor none_yet)

    pub form_read : (xroom : List ℤ) (troom : List ℕ) → BodyAt l n m (take (n * 3) xroom) (take (m * 3) troom) → FormRead b n m xroom troom
    form_read xroom troom w = let s = whole (take (n * 3) xroom) (take (m * 3) troom) w in record { passes = form_passes s; counts = fit; sheet = s }
