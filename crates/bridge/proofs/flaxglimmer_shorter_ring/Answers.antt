-- The length of the ring handed back tells which it is.
use Rattle.bridge.proofs.Lent.{ring_first, ring_second}
use Rattle.bridge.proofs.flaxglimmer_shorter_ring.Goals as goal

pub returns-then-ring-first : goal.returns-then-ring-first
returns-then-ring-first c = ring_first c.shorter_ring-ring.ensures c.if-ring-first.true

pub returns : goal.returns
returns c = ring_second c.shorter_ring-ring.ensures c.if-ring-first.false
