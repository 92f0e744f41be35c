-- Opening a log sheet: why each answer is the first that holds.
use mathlib.Core.Path.{◌≡◌, ◌∙◌, ap}
use mathlib.Core.List.{List, [], ◌∷◌, ◌++◌}
use Rattle.std.specs.Prelude.{min, Ok, Err}
use Prim.Native.Nat.{ℕ, ◌≤◌, ◌<◌}
use native.Mathlib.Omega.{arith}
use lib.IntN.{pos}
use lib.ListN.{length, length-append, drop, length-drop}
use Rattle.refusal.specs.First.{First}
use Rattle.refusal.specs.declared.Refusal.TheVariants.{CountsOutside, SheetForm}
use Rattle.refusal.proofs.Laws.{verdicts, given_first, passes_none, none_yet, ◌nor◌}
use Rattle.lines.specs.Lines.{LineAt}
use Rattle.heading.specs.Heading.{most_digits, first_line_lem, Begins, NoFirstLine}
use Rattle.heading.proofs.First.{same_first}
use Rattle.logform.specs.LogSheet.{LOG, most_log_bytes, CountsIn}
use Rattle.logrecords.specs.Outcome.{CountsOut, open_refusals, OpenedLog, opened}

pub too_long : (b : List ℕ) → most_log_bytes < length b → First (open_refusals b) (Err SheetForm)
unfolding open_refusals
too_long b h = given_first verdicts none_yet h

module _ {b : List ℕ} (size : length b ≤ most_log_bytes) where
  pub no_first : NoFirstLine LOG b → First (open_refusals b) (Err SheetForm)
  unfolding open_refusals
  no_first none = given_first verdicts ((λ k. omega arith) nor none_yet) none

  module _ {n m : ℕ} {rest : List ℕ} (f : LineAt most_digits LOG b (pos n ∷ pos m ∷ []) rest) where
    begins : Begins LOG b n m
    begins = record { rest = rest; line = f }

    pub counts_out : (¬ CountsIn n m 0) → First (open_refusals b) (Err CountsOutside)
    unfolding open_refusals
    counts_out h = given_first verdicts ((λ k. omega arith) nor (λ none. none n m begins) nor none_yet) (record { n = n; m = m; begins = begins; out = h })

    module _ (c : CountsIn n m 0) where
      not_out : ¬ CountsOut b
      not_out o = let s = same_first LOG b n m o.n o.m rest o.begins.rest f o.begins.line in o.out (rw (s.corners, s.rows) at c)

      passes : First (open_refusals b) (Ok tt)
      unfolding open_refusals
      passes = (passes_none verdicts _).1 ((λ k. omega arith) nor (λ none. none n m begins) nor not_out nor none_yet)

      -- the place answered is the first line's length, or past the end where nothing follows it
      pub opened_at : (c : ℕ) {a : ℕ} → rest ≡ drop c b → a ≡ min c (length b) → OpenedLog b (Ok (record { corners = n; rows = m; after = record { at = a } }))
      opened_at c {a} d e =
          let l = first_line_lem LOG n m in
          let s : length b ≡ length (l ++ drop c b) = ap length (f.bytes ∙ ap (λ r. l ++ r) d) in
          let p : a ≡ length l = omega (arith, e, s, length-append l (drop c b), length-drop c b) in
          opened passes begins (ap (λ (k : ℕ). Ok (record { corners = n; rows = m; after = record { at = k } })) p)
