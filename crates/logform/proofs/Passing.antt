-- Lines of records passed over one by one, to the end.
use mathlib.Core.Path.{◌≡◌, refl, sym, ◌∙◌, ap, subst}
use mathlib.Core.List.{List, [], ◌∷◌, ◌++◌, map}
use Prim.Native.Nat.{ℕ, suc, ◌+◌, ◌-◌, ◌*◌, ◌≤◌, ◌<◌}
use native.Mathlib.Omega.{arith}
use lib.IntN.{pos}
use lib.ListN.{length, length-append, length-map, drop, length-drop, drop_of_length-le}
use Rattle.std.specs.Prelude.{Option, Some, None}
use Rattle.text.specs.declared.Cursor.{Cursor}
use Rattle.record.specs.Layout.{width}
use Rattle.lines.specs.Lines.{newline, fields, line, lines}
use Rattle.lines.specs.Kinds.{K}
use Rattle.lines.specs.Inner.{ReadInto}
use Rattle.lines.proofs.Cut.{cut_lines}
use Rattle.reading.specs.Inner.{LineOf, LinesOf}
use Rattle.reading.proofs.Lining.{lines_on, no_next}
use Rattle.heading.specs.Heading.{most_digits}
use Rattle.logform.specs.Inner.{RecordAt, LinePassed, PassedOver, Records, LinesLeft}

pub passed_over : (s : List ℕ) (at : ℕ) (room room' : List ℕ) (p : Option Cursor) → ReadInto (LineOf pos most_digits K (drop at s)) width s room 0 room' p → PassedOver s at p
unfolding ReadInto PassedOver
passed_over s at room room' (Some c) r = record { ns = r.zs; count = r.count; here = r.here }
passed_over s at room room' None r = r

-- count lines are passed over, up to k
pub record Passing (s : List ℕ) (at k count : ℕ) : Type 0 where
  pub log : List ℕ
  pub numbers : length log ≡ count * width
  pub lines : LinesOf pos most_digits K width count (drop at s) log (drop k s)
  -- each took a byte at least
  pub few : count + length (drop k s) ≤ length (drop at s)

pub passing_start : (s : List ℕ) (at : ℕ) → Passing s at at 0
passing_start s at = record { log = []; numbers = omega arith; lines = record { bytes = refl; short = tt }; few = omega arith }

-- a line has its newline at least
shorter : {l r : List ℕ} → LinePassed l r → length r < length l
shorter {r = r} q =
    let ns = q.ns in
    let a = q.here in
    let e = ap length a.bytes in
    omega (
      arith,
      length-append (line K (map pos ns)) r,
      length-append K (fields (map pos ns) ++ (newline ∷ [])),
      length-append (fields (map pos ns)) (newline ∷ []),
    )

module _ {s : List ℕ} {at k count : ℕ} (p : Passing s at k count) where
  pub few_lines : count ≤ length s
  few_lines = let f = p.few in omega (arith, length-drop at s)

  module _ (n : ℕ) (q : LinePassed (drop k s) (drop n s)) where
    pub nearer : length s - n < length s - k
    nearer = omega (arith, shorter q, length-drop k s, length-drop n s)

    pub passing_next : Passing s at n (count + 1)
    passing_next =
        let e : suc count ≡ count + 1 = omega arith in
        let a = p.numbers in
        let b = q.count in
        let f = p.few in
        record {
          log = p.log ++ q.ns;
          numbers = length-append p.log q.ns ∙ (omega arith);
          lines = subst (λ (x : ℕ). LinesOf pos most_digits K width x (drop at s) (p.log ++ q.ns) (drop n s)) e (lines_on p.numbers p.lines q.ns q.count q.here);
          few = omega (arith, shorter q);
        }

  -- fewer lines than were passed over leave something
  more_stands : {j : ℕ} {log : List ℕ} → j ≤ count → k < length s → ¬ Records j (drop at s) log
  more_stands {j} {log} h more r =
      let e : count ≡ j + (count - j) = omega arith in
      let v = cut_lines K width j count (count - j) (map pos log) (map pos p.log) [] (drop k s) e (length-map log pos ∙ r.count) (length-map p.log pos ∙ p.numbers) (sym r.lines.bytes ∙ p.lines.bytes) in
      let f = ap length v.after in
      omega (arith, length-append (lines K width (count - j) v.ts) (drop k s), length-drop k s)

  pub other_stands : k < length s → ((ns r : List ℕ) → length ns ≡ width → ¬ RecordAt (drop k s) ns r) → (j : ℕ) (log : List ℕ) → ¬ Records j (drop at s) log
  other_stands more none j log r =
      let over : ¬ (j ≤ count) = λ h. more_stands h more r in
      let h : count < j = omega arith in
      no_next p.numbers p.lines h none log [] r.count r.lines

  pub all_passed : length s ≤ k → LinesLeft count (drop at s)
  all_passed h = record { log = p.log; are = record { count = p.numbers; lines = subst (LinesOf pos most_digits K width count (drop at s) p.log) (drop_of_length-le s h) p.lines } }
