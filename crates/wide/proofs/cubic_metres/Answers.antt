-- The whole part and one more fit; that each way out is the figure is a law of Ways.
use mathlib.Core.Path.{◌∙◌}
use Prim.Native.Nat.{◌+◌}
use native.Mathlib.Omega.{arith}
use mir.Syntax.{w64}
use Rattle.ints.proofs.Machine.{Known, known, lit, fits, kept, plus}
use Rattle.wide.specs.declared.Wide.{Wide}
use Rattle.wide.specs.Inner.{most_whole, Fits}
use Rattle.wide.proofs.Parts.{part}
use Rattle.wide.proofs.Ways.{up_above, stay_above, up_below, stay_below}
use Rattle.wide.proofs.cubic_metres.Goals as goal

abbrev one_more : {w : Wide} → Fits w → Known (most_whole + 1)
one_more f = known (plus (part f) (lit 1))

pub overflow_add-result : goal.overflow_add-result
overflow_add-result c = fits w64 (one_more c.requires).is (omega arith)

pub returns-then-rest-gt-HALF : goal.returns-then-rest-gt-HALF
returns-then-rest-gt-HALF c =
    (kept w64 (one_more c.requires).is (omega arith)).same
    ∙ up_below c.args.w.whole c.args.w.rest c.requires.below (rw (part c.requires).same at c.if-whole-lt0.true) (omega arith)

pub returns-then-whole-lt0 : goal.returns-then-whole-lt0
returns-then-whole-lt0 c =
    (part c.requires).same
    ∙ stay_below c.args.w.whole c.args.w.rest c.requires.below (rw (part c.requires).same at c.if-whole-lt0.true) (omega arith)

pub overflow_add-result-then-rest-ge-HALF : goal.overflow_add-result-then-rest-ge-HALF
overflow_add-result-then-rest-ge-HALF c = fits w64 (one_more c.requires).is (omega arith)

pub returns-then-rest-ge-HALF : goal.returns-then-rest-ge-HALF
returns-then-rest-ge-HALF c =
    (kept w64 (one_more c.requires).is (omega arith)).same
    ∙ up_above c.args.w.whole c.args.w.rest c.requires.below (rw (part c.requires).same at c.if-whole-lt0.false) (omega arith)

pub returns : goal.returns
returns c =
    (part c.requires).same
    ∙ stay_above c.args.w.whole c.args.w.rest c.requires.below (rw (part c.requires).same at c.if-whole-lt0.false) (omega arith)
