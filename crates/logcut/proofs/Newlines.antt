-- Laws of newlines: counted by parts, and in the lines of a log sheet.
use mathlib.Core.Path.{◌≡◌, refl, ◌∙◌, ap}
use mathlib.Core.Bool.{Bool, true, false, cond}
use mathlib.Core.List.{List, [], ◌∷◌, ◌++◌, map}
use Prim.Native.Nat.{ℕ, zero, suc, ◌+◌}
use native.Mathlib.Omega.{arith}
use lib.Dec.{eqb}
use lib.IntN.{ℤ, pos, negsuc}
use lib.ListN.{take, drop}
use borrow.Author.Tests.{ne_eqb}
use Rattle.text.specs.Decimal.{minus, decimal, signed}
use Rattle.text.proofs.Digits.{AllDigits, all_digits}
use Rattle.record.specs.Layout.{width, count}
use Rattle.lines.specs.Lines.{tab, newline, fields, line, lines}
use Rattle.lines.specs.Kinds.{K, record_lines}
use Rattle.heading.specs.Heading.{first_line_lem}
use Rattle.logform.specs.LogSheet.{LOG, log_text}
use Rattle.logcut.specs.Cut.{newlines}

-- a byte that is none
pub newlines_other : (c : ℕ) (b : List ℕ) → ¬ (c ≡ newline) → newlines (c ∷ b) ≡ newlines b
unfolding newlines
newlines_other c b n = ap (λ t. cond t (suc (newlines b)) (newlines b)) (ne_eqb c newline n)

pub newlines_append : (a b : List ℕ) → newlines (a ++ b) ≡ newlines a + newlines b
unfolding newlines
newlines_append [] b = omega arith
newlines_append (c ∷ a) b = go (eqb c newline) (newlines_append a b)
  where
    go : (t : Bool) → newlines (a ++ b) ≡ newlines a + newlines b → cond t (suc (newlines (a ++ b))) (newlines (a ++ b)) ≡ cond t (suc (newlines a)) (newlines a) + newlines b
    go true h = omega arith
    go false h = h

-- ---- no newline stands in a number or a field

digits_none : (l : List ℕ) → AllDigits l → newlines l ≡ 0
unfolding newlines
digits_none [] d = refl
digits_none (c ∷ l) d = let h = d.0.least in newlines_other c l (λ e. omega arith) ∙ digits_none l d.1

signed_none : (z : ℤ) → newlines (signed z) ≡ 0
signed_none (pos n) = digits_none (decimal n) (all_digits n)
signed_none (negsuc n) = newlines_other minus (decimal (suc n)) (λ e. omega arith) ∙ digits_none (decimal (suc n)) (all_digits (suc n))

pub fields_none : (zs : List ℤ) → newlines (fields zs) ≡ 0
unfolding newlines
fields_none [] = refl
fields_none (z ∷ zs) =
    let h = fields_none zs in
    let s = signed_none z in
    newlines_other tab (signed z ++ fields zs) (λ e. omega arith) ∙ newlines_append (signed z) (fields zs) ∙ (omega arith)

-- a line has one: at its end
pub line_one : (w : List ℕ) (zs : List ℤ) → newlines w ≡ 0 → newlines (line w zs) ≡ 1
line_one w zs h =
    let f = fields_none zs in
    let e : newlines (newline ∷ []) ≡ 1 = unfold newlines in refl in
    newlines_append w (fields zs ++ (newline ∷ [])) ∙ (let a = newlines_append (fields zs) (newline ∷ []) in omega arith)

pub lines_many : (w : List ℕ) (width k : ℕ) (zs : List ℤ) → newlines w ≡ 0 → newlines (lines w width k zs) ≡ k
lines_many w width zero zs h = unfold newlines in refl
lines_many w width (suc k) zs h =
    let a = newlines_append (line w (take width zs)) (lines w width k (drop width zs)) in
    let b = line_one w (take width zs) h in
    let c = lines_many w width k (drop width zs) h in
    omega arith

-- a log sheet has one for its first line, and one for each record
pub sheet_newlines : (n m : ℕ) (log : List ℕ) → newlines (log_text n m log) ≡ suc (count log)
sheet_newlines n m log =
    let a = newlines_append (first_line_lem LOG n m) (record_lines (count log) log) in
    let b = line_one LOG (pos n ∷ pos m ∷ []) (unfold newlines in refl) in
    let c = lines_many K width (count log) (map pos log) (unfold newlines in refl) in
    omega arith
