-- `read_limit`: each unit's figure is read by its own line of the table. A new unit is one more such line.
use Rattle.length.specs.Limit.{limit_of}
use Rattle.length.proofs.read_limit.Goals as goal

pub returns-in-Metres : goal.returns-in-Metres
unfolding limit_of
returns-in-Metres c = rw c.in-Metres.is c.read_figure.ensures

pub returns-in-Feet : goal.returns-in-Feet
unfolding limit_of
returns-in-Feet c = rw c.in-Feet.is c.read_figure-in-Feet.ensures

pub returns-in-Centimetres : goal.returns-in-Centimetres
unfolding limit_of
returns-in-Centimetres c = rw c.in-Centimetres.is c.read_figure-in-Centimetres.ensures

pub returns-in-InternationalFeet : goal.returns-in-InternationalFeet
unfolding limit_of
returns-in-InternationalFeet c = rw c.in-InternationalFeet.is c.read_figure-in-InternationalFeet.ensures
