-- The record at a place: why each answer is right.
use mathlib.Core.Path.{◌≡◌, refl, sym, ◌∙◌, ap}
use mathlib.Core.List.{List, ◌++◌, map}
use Rattle.std.specs.Prelude.{min}
use Prim.Native.Nat.{ℕ, ◌+◌, ◌<◌}
use native.Mathlib.Omega.{arith}
use lib.IntN.{pos}
use lib.ListN.{length, length-append, drop, length-drop, replicate, length-replicate}
use lib.Seq.{take_all}
use Rattle.record.specs.Layout.{width, record_at}
use Rattle.record.specs.declared.Record.{Record}
use Rattle.record.specs.Meant.{meant}
use Rattle.lines.specs.Lines.{line}
use Rattle.lines.specs.Kinds.{K}
use Rattle.lines.specs.Inner.{PutFrom}
use Rattle.lines.proofs.Turns.{put_length, front}
use Rattle.reading.specs.Inner.{LineOf}
use Rattle.heading.specs.Heading.{most_digits}
use Rattle.logrecords.specs.declared.Next.TheVariants.{Found, Bad}
use Rattle.logrecords.specs.Outcome.{LineStands, NextRecord, found, other}

abbrev pub blank : List ℕ
blank = replicate width 0

pub no_record : {b : List ℕ} {at : ℕ} → at < length b → ((ns r : List ℕ) → length ns ≡ width → ¬ LineOf pos most_digits K (drop at b) ns r) → NextRecord b at Bad
no_record h none = other h (λ ns s. none ns s.after s.count s.line) refl

module _ (b : List ℕ) (at c : ℕ) {numbers : List ℕ} (p : PutFrom (LineOf pos most_digits K (drop at b)) width blank 0 numbers (drop c b)) where
  -- the room is full of them
  all : numbers ≡ p.zs
  all = let n = length-replicate {A = ℕ} width 0 in sym (take_all width numbers (omega (arith, put_length p))) ∙ front blank numbers p.zs width p.put p.count (omega arith)

  line_here : LineOf pos most_digits K (drop at b) numbers (drop c b)
  line_here = rw all p.here

  stands : LineStands b at numbers
  stands = record { count = ap length all ∙ p.count; after = drop c b; line = line_here }

  -- the place answered is the one after the line, or past the end where the line is the last
  pub record_found : {a : ℕ} {rec : Record} → a ≡ min c (length b) → at < length b → meant rec ≡ record_at numbers 0 → NextRecord b at (Found rec (record { at = a }))
  record_found {a} {rec} e h m =
      let l = line K (map pos numbers) in
      let s : length (drop at b) ≡ length (l ++ drop c b) = ap length line_here.bytes in
      let q : a ≡ at + length l = omega (arith, e, h, s, length-append l (drop c b), length-drop at b, length-drop c b) in
      found stands m (ap (λ (j : ℕ). Found rec (record { at = j })) q)
