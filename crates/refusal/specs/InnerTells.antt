-- What the answer of a test tells.
use Rattle.std.specs.Prelude.{◌≡◌, Bool, true, false}

-- r is yes for the one and no for the other
pub record Tells (r : Bool) (P Q : Type 0) : Type 0 where
  pub when_true : r ≡ true → P
  pub when_false : r ≡ false → Q
