-- The nets of what stands directly in an entry, added up one by one: what holds between two of them, and why the net is what is left.
use mathlib.Core.Path.{◌≡◌, refl, sym, subst}
use mathlib.Core.Bool.{true, false}
use mathlib.Core.List.{List}
use Prim.Native.Nat.{ℕ, zero, suc, ◌+◌, ◌-◌, ◌≤◌, ◌<◌}
use native.Mathlib.Omega.{arith}
use lib.IntN.{ℤ, pos, ◌+ℤ◌, ◌-ℤ◌, +ℤ_idr}
use lib.ListN.{length}
use Rattle.jobform.specs.declared.Entry.{Entry}
use Rattle.wide.specs.declared.Wide.{Wide}
use Rattle.wide.specs.Wide.{value, Exact}
use Rattle.wide.specs.Inner.{Fits}
use Rattle.wide.proofs.Laws.{fits_within, exact_plus, exact_minus}
use Rattle.nest.specs.Limits.{most_depth}
use Rattle.nest.specs.Net.{added, told_sum}
use Rattle.nest.specs.Inner.{named_in, net_within, Summable}
use Rattle.nest.proofs.Sizes.{net_fits, part_fits}

-- what is taken off the own sum of entry i where so much depth is left
pub inside : ℕ → List Entry → ℕ → ℤ
inside zero es i = pos 0
inside (suc d) es i = added (net_within d es) (named_in es i) (length es)

net_is : (left : ℕ) (es : List Entry) (i : ℕ) → told_sum es i -ℤ inside left es i ≡ net_within left es i
unfolding inside net_within
net_is zero es i = refl
net_is (suc d) es i = refl

inside_narrow : {es : List Entry} → Summable es → (i left : ℕ) → left < most_depth → {w : Wide} → Exact (inside left es i) w → Fits w
unfolding inside
inside_narrow s i zero h e = fits_within e (omega arith)
inside_narrow {es} s i (suc d) h e = part_fits s d (omega arith) i (length es) (omega arith) e

module _ (es : List Entry) (i left : ℕ) where
  -- w is what the first k entries have directly in entry i
  abbrev pub Added : ℕ → Wide → Type 0
  Added k w = Exact (added (net_within (left - 1) es) (named_in es i) k) w

  abbrev pub Inside : Wide → Type 0
  Inside w = Exact (inside left es i) w

  module _ {w : Wide} where
    pub added_none : Exact (pos 0) w → Added 0 w
    unfolding added
    added_none e = e

    pub added_stays : (k : ℕ) → named_in es i k ≡ false → Added k w → Added (k + 1) w
    unfolding added
    added_stays k g e =
        let f : suc k ≡ k + 1 = omega arith in
        subst (λ (x : ℕ). Exact (added (net_within (left - 1) es) (named_in es i) x) w) f (rw g (rw (+ℤ_idr (added (net_within (left - 1) es) (named_in es i) k)) e))

    pub added_more : (k : ℕ) (v : Wide) {r : Wide} → named_in es i k ≡ true → Added k w → Exact (net_within (left - 1) es k) v → Exact (value w +ℤ value v) r → Added (k + 1) r
    unfolding added
    added_more k v {r} g e n sum =
        let f : suc k ≡ k + 1 = omega arith in
        subst (λ (x : ℕ). Exact (added (net_within (left - 1) es) (named_in es i) x) r) f (rw g (exact_plus e n sum))

    pub inside_none : left ≤ 0 → Exact (pos 0) w → Inside w
    unfolding inside
    inside_none h e = let z : left ≡ 0 = omega arith in rw z e

    pub inside_all : (k : ℕ) → 0 < left → k ≤ length es → length es ≤ k → Added k w → Inside w
    unfolding inside
    inside_all k h low high e =
        let z : left ≡ suc (left - 1) = omega arith in
        let f : k ≡ length es = omega arith in
        rw z (rw f at e)

  module _ (s : Summable es) (shallow : left < most_depth) where
    pub added_fits : (k : ℕ) {w : Wide} → k ≤ length es → Added k w → Fits w
    added_fits k h e = part_fits s (left - 1) (omega arith) i k h e

    pub next_fits : (k : ℕ) {v : Wide} → k < length es → Exact (net_within (left - 1) es k) v → Fits v
    next_fits k h e = net_fits s (left - 1) (omega arith) k h e

    pub inside_fits : {w : Wide} → Inside w → Fits w
    inside_fits e = inside_narrow s i left shallow e

  pub whole_net : (own w : Wide) {r : Wide} → Exact (told_sum es i) own → Inside w → Exact (value own -ℤ value w) r → Exact (net_within left es i) r
  whole_net own w a b e = rw (sym (net_is left es i)) (exact_minus a b e)
