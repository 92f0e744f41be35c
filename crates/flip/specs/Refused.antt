-- Why the flip of a listed edge is refused: 30 or 31.
use Rattle.std.specs.Prelude.{◌≡◌, List, ℕ}
use Rattle.surface.specs.Rows.{Row}
use Rattle.flips.specs.Flip.{NoEdge, Blocked}
use Rattle.flipped.specs.declared.FlipRefusal.{FlipRefusal}
use Rattle.flipped.specs.declared.FlipRefusal.TheVariants.{EdgeMissing, EdgeBlocked}

-- the flip of the edge a b in T is refused with r
pub data FlipRefused (T : List Row) (a b : ℕ) (r : FlipRefusal) : Type 0 where
  missing : NoEdge T a b → r ≡ EdgeMissing → FlipRefused T a b r
  blocked : Blocked T a b → r ≡ EdgeBlocked → FlipRefused T a b r
