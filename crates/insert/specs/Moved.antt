-- Numbers moved on in a room.
use Rattle.std.specs.Prelude.{◌≡◌, List, ◌++◌, ℕ, ◌+◌, take, drop}

-- the numbers from slot i up to slot j have moved three slots on, and no others
pub record MovedOn (i j : ℕ) (room room' : List ℕ) : Type 0 where
  pub before : take (i + 3) room' ≡ take (i + 3) room
  pub after : drop (i + 3) room' ≡ drop i (take j room) ++ drop (j + 3) room
