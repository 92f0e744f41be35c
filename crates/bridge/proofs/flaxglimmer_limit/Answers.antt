-- The limit reader on the unit and the figure.
use mathlib.Core.Path.{◌∙◌, ap}
use Rattle.length.specs.Limit.{limit_of}
use Rattle.bridge.proofs.flaxglimmer_limit.Goals as goal

pub returns : goal.returns
returns c = record { answer = c.read_limit.result; gives = c.read_limit.ensures ∙ ap limit_of c.length_of.ensures; says = c.centimetres_of.ensures }
