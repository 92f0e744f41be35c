-- `read_figure`: a NaN by the test v != v, and any other figure by its bits, which `of_bits` takes back to it.
use mathlib.Core.Path.{◌≡◌, sym, ◌∙◌}
use Prim.Native.Nat.{ℕ, ◌*◌, ◌^◌}
use native.Mathlib.Omega.{arith}
use lib.Dec.{T}
use denote.Floats.{passes}
use lib.Ieee.{Float, binary64, of_bits, to_bits, fits}
use lib.Ieee.Bits.{of_bits-to_bits, to_bits-lt}
use Rattle.length.specs.Limit.{reading}
use Rattle.length.proofs.Pattern.{minus_zero, negative, no_nan, is_nan_lem}
use Rattle.length.proofs.read_figure.Goals as goal

by_bits : (v : Float) (n d : ℕ) → T (fits binary64 v) → reading (of_bits binary64 (to_bits binary64 v)) n d ≡ reading v n d
by_bits v n d h = rw (of_bits-to_bits binary64 v h)

pub returns-then-v : goal.returns-then-v
returns-then-v c = let a = c.args in sym (is_nan_lem a.v (a.num * 2 ^ a.up) a.den c.if-v.true)

pub float_to_bits-b : goal.float_to_bits-b
float_to_bits-b c = no_nan c.args.v c.if-v.false

pub returns-then-b-lt-SIGN : goal.returns-then-b-lt-SIGN
returns-then-b-lt-SIGN c =
    c.read_bits.ensures ∙ by_bits c.args.v _ _ (passes _ c.well_formed.0.1)

pub returns-then-b-gt-SIGN : goal.returns-then-b-gt-SIGN
returns-then-b-gt-SIGN c =
    let v = c.args.v in
    let h = passes _ c.well_formed.0.1 in
    sym (negative (to_bits binary64 v) _ _ c.if-b-gt-SIGN.true (to_bits-lt binary64 v h)) ∙ by_bits v _ _ h

pub returns : goal.returns
returns c =
    sym (minus_zero (to_bits binary64 c.args.v) _ _ (omega arith)) ∙ by_bits c.args.v _ _ (passes _ c.well_formed.0.1)
