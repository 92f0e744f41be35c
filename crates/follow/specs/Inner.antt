-- What a function gives that follows the items of a call after nothing was refused; inner.
use Rattle.std.specs.Prelude.{◌≡◌}
use Rattle.follow.specs.Follow.{Call, Followed}

-- the items are followed, and what the state reached leaves stands in what was lent
pub record FollowedIn {S I R Q A B : Type 0} (c : Call S I R Q A B) (a : A) (b : B) : Type 0 where
  pub state : S
  pub reached : Followed c a state
  pub left : b ≡ c.left state
