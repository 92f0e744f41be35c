-- `figure_of` meets its contract.
use native.Mathlib.Omega.{arith}
use Rattle.nest.proofs.Sizes.{net_fits}
use Rattle.nest.proofs.figure_of.Goals as goal
use Rattle.nest.proofs.figure_of.Goals.{in-Void, in-Solid}

pub cubic_metres-requires : goal.cubic_metres-requires
cubic_metres-requires c =
    elim c.match-kind_of.branch [
      | in-Void w ↦ rw w.net-is (net_fits c.requires.0 7 (omega arith) 0 c.requires.1 w.net_of_void-net.ensures)
      | in-Solid w ↦ rw w.net-is (net_fits c.requires.0 7 (omega arith) 0 c.requires.1 w.net_of_solid-net.ensures)
    ]
