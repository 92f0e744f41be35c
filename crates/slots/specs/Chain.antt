-- The chains that list the slots of a corner, the last first. A slot is kept plus one, so that 0 stands for none.
use Rattle.std.specs.Prelude.{◌≡◌, ◌≢◌, List, ℕ, ◌-◌, ◌≤◌, ◌<◌, length, get_or}

-- r is one more than the last slot below i that holds v; 0 where there is none
pub record Last (t : List ℕ) (v i r : ℕ) : Type 0 where
  pub upto : r ≤ i
  pub hit : 0 < r → get_or t (r - 1) 0 ≡ v
  pub miss : (e : ℕ) → r ≤ e → e < i → get_or t e 0 ≢ v

-- last has the last slot of each corner
pub record Lasts (t last : List ℕ) : Type 0 where
  pub lasts : (v : ℕ) → v < length last → Last t v (length t) (get_or last v 0)

-- and prev has for each slot the one before it with the same corner
pub record Chained (t last prev : List ℕ) : Type 0 where
  pub room : length t ≤ length prev
  pub heads : Lasts t last
  pub links : (e : ℕ) → e < length t → Last t (get_or t e 0) e (get_or prev e 0)
