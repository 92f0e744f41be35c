-- The records of a log sheet, one at a time: opened at its first line, and the record at any place. The whole outcome of each.
use Rattle.std.specs.Prelude.{◌≡◌, List, [], ◌∷◌, map, ℕ, ◌+◌, ◌≤◌, ◌<◌, pos, length, drop, Result, Ok, Err}
use Rattle.refusal.specs.First.{Refusals, ◌when◌, First}
use Rattle.refusal.specs.declared.Refusal.{Refusal}
use Rattle.refusal.specs.declared.Refusal.TheVariants.{CountsOutside, SheetForm}
use Rattle.record.specs.Layout.{width, record_at}
use Rattle.record.specs.declared.Record.{Record}
use Rattle.record.specs.Meant.{meant}
use Rattle.lines.specs.Lines.{line, LineAt}
use Rattle.lines.specs.Kinds.{K}
use Rattle.heading.specs.declared.Heading.{Heading}
use Rattle.heading.specs.Heading.{most_digits, first_line_lem, Begins, NoFirstLine}
use Rattle.logform.specs.LogSheet.{LOG, most_log_bytes, CountsIn}
use Rattle.logrecords.specs.declared.Next.{Next}
use Rattle.logrecords.specs.declared.Next.TheVariants.{Found, End, Bad}

-- the counts of the first line are outside their limits
pub record CountsOut (b : List ℕ) : Type 0 where
  pub n : ℕ
  pub m : ℕ
  pub begins : Begins LOG b n m
  pub out : ¬ CountsIn n m 0

-- 12 for size and first line, 2 for its counts; records are not counted
unfoldable pub open_refusals : List ℕ → Refusals
open_refusals b =
    (SheetForm when (most_log_bytes < length b))
    ∷ (SheetForm when NoFirstLine LOG b)
    ∷ (CountsOutside when CountsOut b)
    ∷ []

-- opening a log sheet b answers a: its counts and the place after its first line
pub data OpenedLog (b : List ℕ) (a : Result Heading Refusal) : Type 0 where
  unopened : {r : Refusal} → First (open_refusals b) (Err r) → a ≡ Err r → OpenedLog b a
  opened : {n m : ℕ} → First (open_refusals b) (Ok tt) → Begins LOG b n m → a ≡ Ok (record { corners = n; rows = m; after = record { at = length (first_line_lem LOG n m) } }) → OpenedLog b a

-- a `K` line with the numbers ns stands at a place of b
pub record LineStands (b : List ℕ) (at : ℕ) (ns : List ℕ) : Type 0 where
  pub count : length ns ≡ width
  pub after : List ℕ
  pub line : LineAt most_digits K (drop at b) (map pos ns) after

-- asking b for the record at a place answers a: the record and the place after its line, the end where no byte follows, or that something else stands there
pub data NextRecord (b : List ℕ) (at : ℕ) (a : Next) : Type 0 where
  found : {ns : List ℕ} {r : Record} → LineStands b at ns → meant r ≡ record_at ns 0 → a ≡ Found r (record { at = at + length (line K (map pos ns)) }) → NextRecord b at a
  ended : length b ≤ at → a ≡ End (record { at = at }) → NextRecord b at a
  other : at < length b → ((ns : List ℕ) → ¬ LineStands b at ns) → a ≡ Bad → NextRecord b at a
