-- No second part satisfies the words: it starts at the same number of the same memory, and holds the same numbers. That is all of a lent part:
-- its length is that of its numbers, and the empty part too has its start fixed.
use mathlib.Core.Path.{◌≡◌, refl, sym, ◌∙◌, ap}
use mathlib.Core.Logic.{◌≢◌}
use mathlib.Core.List.{List, [], ◌∷◌, append_cancel_left}
use Prim.Native.Nat.{ℕ, ◌+◌, ◌<◌}
use native.Mathlib.Omega.{arith}
use lib.ListN.{length, length-append}
use denote.Ref.{Bor}
use Rattle.catchup.specs.CatchUp.{Beginning, PartOf, CaughtUp, second_longer, first_longer, equal, neither}

-- the same part of the caller's memory
abbrev pub SamePart : Bor (List ℕ) → Bor (List ℕ) → Type 0
SamePart r s = (r.ref_ptr ≡ s.ref_ptr) × (r.now ≡ s.now)

same_part : {x r s : Bor (List ℕ)} {k : ℕ} {p q : List ℕ} → p ≡ q → PartOf x k p r → PartOf x k q s → SamePart r s
same_part e g h = (g.place ∙ sym h.place, g.holds ∙ e ∙ sym h.holds)

-- a beginning with a rest is shorter
shorter : {l m : List ℕ} (b : Beginning l m) → b.rest ≢ [] → length l < length m
shorter {l} {m} b n =
    let k = ap length b.is ∙ length-append l b.rest in
    go b.rest n k
  where
    go : (p : List ℕ) → p ≢ [] → length m ≡ length l + length p → length l < length m
    go [] n k = absurd (n refl)
    go (a ∷ p) n k = omega arith

-- and has one rest
one_rest : {l m : List ℕ} (b c : Beginning l m) → b.rest ≡ c.rest
one_rest {l} b c = append_cancel_left l b.rest c.rest (sym b.is ∙ c.is)

not_both : {l m : List ℕ} (b : Beginning l m) (c : Beginning m l) → b.rest ≢ [] → c.rest ≢ [] → ⊥
not_both b c n m = let h = shorter b n in let k = shorter c m in omega arith

not_equal : {l m : List ℕ} (b : Beginning l m) → b.rest ≢ [] → length l ≢ length m
not_equal b n e = let h = shorter b n in omega arith

pub caught_up_one : {first second r s : Bor (List ℕ)} → CaughtUp first second r → CaughtUp first second s → SamePart r s
caught_up_one (second_longer b n p) (second_longer c m q) = same_part (one_rest b c) p q
caught_up_one (second_longer b n p) (first_longer c m q) = absurd (not_both b c n m)
caught_up_one (second_longer b n p) (equal e q) = absurd (not_equal b n (ap length e))
caught_up_one (second_longer b n p) (neither u v q) = absurd (u b)
caught_up_one (first_longer b n p) (second_longer c m q) = absurd (not_both b c n m)
caught_up_one (first_longer b n p) (first_longer c m q) = same_part (one_rest b c) p q
caught_up_one (first_longer b n p) (equal e q) = absurd (not_equal b n (ap length (sym e)))
caught_up_one (first_longer b n p) (neither u v q) = absurd (v b)
caught_up_one (equal e p) (second_longer c m q) = absurd (not_equal c m (ap length e))
caught_up_one (equal e p) (first_longer c m q) = absurd (not_equal c m (ap length (sym e)))
caught_up_one (equal e p) (equal f q) = same_part refl p q
caught_up_one (equal e p) (neither u v q) = same_part refl p q
caught_up_one (neither u v p) (second_longer c m q) = absurd (u c)
caught_up_one (neither u v p) (first_longer c m q) = absurd (v c)
caught_up_one (neither u v p) (equal f q) = same_part refl p q
caught_up_one (neither u v p) (neither u' v' q) = same_part refl p q
