-- The first line: two plain numbers are the two counts.
use mathlib.Core.Path.{◌≡◌, refl, sym, ◌∙◌, ap, subst}
use mathlib.Core.List.{List, [], ◌∷◌}
use Prim.Native.Nat.{ℕ}
use native.Mathlib.Omega.{arith}
use lib.IntN.{pos}
use lib.ListN.{length, get_or}
use lib.Seq.{sets}
use mir.Syntax.{w64}
use mir.Val.{Fits}
use Rattle.text.proofs.Digits.{digits_below}
use Rattle.lines.specs.Lines.{LineAt}
use Rattle.lines.specs.Inner.{PutFrom}
use Rattle.reading.specs.Inner.{LineOf}
use Rattle.lines.proofs.Cut.{line_unique}
use Rattle.heading.specs.Heading.{most_digits, NoFirstLine}

two : (ns : List ℕ) → length ns ≡ 2 → ns ≡ get_or (sets (0 ∷ 0 ∷ []) 0 ns) 0 0 ∷ get_or (sets (0 ∷ 0 ∷ []) 0 ns) 1 0 ∷ []
two [] h = absurd (omega arith)
two (x ∷ []) h = absurd (omega arith)
two (x ∷ y ∷ []) h = refl
two (x ∷ y ∷ z ∷ ns) h = absurd (omega arith)

pub both_counts : {w b counts r : List ℕ} → PutFrom (LineOf pos most_digits w b) 2 (0 ∷ 0 ∷ []) 0 counts r → LineAt most_digits w b (pos (get_or counts 0 0) ∷ pos (get_or counts 1 0) ∷ []) r
both_counts {w} {b} {counts} {r} p =
    let e = two p.zs p.count ∙ ap (λ l. get_or l 0 0 ∷ get_or l 1 0 ∷ []) (sym p.put) in
    subst (λ ns. LineOf pos most_digits w b ns r) e p.here

-- they are small
pub counts_fit_lem : {w b : List ℕ} {n m : ℕ} {r : List ℕ} → LineAt most_digits w b (pos n ∷ pos m ∷ []) r → Fits w64 n × Fits w64 m
counts_fit_lem {n = n} {m} a =
    let x = digits_below n most_digits a.short.0 in
    let y = digits_below m most_digits a.short.1.0 in
    (record { fits = omega arith }, record { fits = omega arith })

pub no_counts : {w b : List ℕ} → ((ns r : List ℕ) → length ns ≡ 2 → ¬ LineOf pos most_digits w b ns r) → NoFirstLine w b
no_counts none n m g = none (n ∷ m ∷ []) g.rest refl g.line

-- two first lines are the same
pub record SameFirst (n m n' m' : ℕ) (l r : List ℕ) : Type 0 where
  pub corners : n ≡ n'
  pub rows : m ≡ m'
  pub after : l ≡ r

pub same_first : (w b : List ℕ) (n m n' m' : ℕ) (l r : List ℕ) → LineAt most_digits w b (pos n ∷ pos m ∷ []) l → LineAt most_digits w b (pos n' ∷ pos m' ∷ []) r → SameFirst n m n' m' l r
same_first w b n m n' m' l r f g =
    let u = line_unique w (pos n ∷ pos m ∷ []) (pos n' ∷ pos m' ∷ []) l r refl (sym f.bytes ∙ g.bytes) in
    let e : pos n ∷ pos m ∷ [] ≡ pos n' ∷ pos m' ∷ [] = u.0 in
    record { corners = cc; rows = cc; after = u.1 }
