-- How long lines are.
use mathlib.Core.Path.{◌≡◌, ◌∙◌, ap}
use mathlib.Core.List.{List, [], ◌∷◌, ◌++◌, map}
use Prim.Native.Nat.{ℕ, zero, suc, ◌+◌, ◌*◌}
use native.Mathlib.Omega.{arith}
use lib.IntN.{ℤ, pos}
use lib.ListN.{length, length-append, length-map, take, drop}
use lib.Seq.{take-add, take_all}
use Rattle.lines.specs.Lines.{newline, fields, line, lines, plain}
use Rattle.lines.proofs.Cut.{fields_append}

pub line_length : (w : List ℕ) (zs : List ℤ) → length (line w zs) ≡ length w + 1 + length (fields zs)
line_length w zs = omega (arith, length-append w (fields zs ++ (newline ∷ [])), length-append (fields zs) (newline ∷ []))

-- the fields of two lists of numbers, one after the other
fields_both : (xs ys : List ℤ) → length (fields (xs ++ ys)) ≡ length (fields xs) + length (fields ys)
fields_both xs ys = ap length (fields_append xs ys) ∙ length-append (fields xs) (fields ys)

-- each line adds its word and its newline to its fields
pub lines_length : (w : List ℕ) (each k : ℕ) (zs : List ℤ) → length (lines w each k zs) ≡ k * (length w + 1) + length (fields (take (k * each) zs))
lines_length w each zero zs = let e : 0 * each ≡ 0 = omega arith in let n = ap (λ (j : ℕ). length (fields (take j zs))) e in omega arith
lines_length w each (suc k) zs =
    let e : suc k * each ≡ each + k * each = omega arith in
    let t = ap (λ l. length (fields l)) (ap (λ (j : ℕ). take j zs) e ∙ take-add each (k * each) zs) ∙ fields_both (take each zs) (take (k * each) (drop each zs)) in
    omega (arith, length-append (line w (take each zs)) (lines w each k (drop each zs)), line_length w (take each zs), lines_length w each k (drop each zs))

-- lines that take all of their plain numbers
pub plain_length : (w : List ℕ) (each k : ℕ) (ns : List ℕ) → length ns ≡ k * each → length (plain w each k ns) ≡ k * (length w + 1) + length (fields (map pos ns))
plain_length w each k ns h =
    let m = length-map ns pos in
    let e = ap (λ l. length (fields l)) (take_all (k * each) (map pos ns) (omega arith)) in
    omega (arith, lines_length w each k (map pos ns))
