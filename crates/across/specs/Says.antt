-- A struct of numbers says what an answer tells.
use Rattle.std.specs.Prelude.{◌≡◌, ◌++◌, ◌-◌, pos, length, replicate}
use Rattle.refusal.specs.Told.{Told}

-- the numbers s that cross say what a tells: its number, its values, and 0 for each value that it does not have
pub record Says (a s : Told) : Type 0 where
  pub status : s.number ≡ a.number
  pub values : s.values ≡ a.values ++ replicate (length s.values - length a.values) (pos 0)

-- s says what an answer tells that the call gives
pub record Shown {A : Type 0} (Gives : A → Type 0) (told : A → Told) (s : Told) : Type 0 where
  pub answer : A
  pub gives : Gives answer
  pub says : Says (told answer) s
