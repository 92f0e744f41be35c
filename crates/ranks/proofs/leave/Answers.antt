-- `leave` meets its contract.
use Rattle.ranks.proofs.Leaving.{can_first, can_second, can_drop, both_left}
use Rattle.ranks.proofs.leave.Goals as goal

pub leave_block-requires-clause-can_lower : goal.leave_block-requires-clause-can_lower
leave_block-requires-clause-can_lower c = can_first c.requires.two_stand

pub leave_block-requires-2-clause-can_lower : goal.leave_block-requires-2-clause-can_lower
leave_block-requires-2-clause-can_lower c = can_second c.requires.two_stand _ c.leave_block.ensures

pub leave_sums-requires-clause-can_drop : goal.leave_sums-requires-clause-can_drop
leave_sums-requires-clause-can_drop c = can_drop c.requires.two_stand

pub returns : goal.returns
returns c = both_left _ _ _ _ _ _ _ c.leave_block.ensures c.leave_block-2.ensures c.leave_sums.ensures
