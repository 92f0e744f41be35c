-- What is said, put into a lent text.
use Rattle.std.specs.Prelude.{◌≡◌, List, ◌++◌, ℕ, ◌≤◌, ◌<◌, length, drop, Result, Ok, Err}
use Rattle.refusal.specs.declared.Refusal.{Refusal}
use Rattle.refusal.specs.declared.Refusal.TheVariants.{RoomShort}

-- txt, whatever is to be said, a refusal's line too, in front of the lent text, the rest as it was; "room is short exactly when what is to be written does not fit"
pub data Put (txt text : List ℕ) (a : Result ℕ Refusal) (text' : List ℕ) : Type 0 where
  fits : length txt ≤ length text → a ≡ Ok (length txt) → text' ≡ txt ++ drop (length txt) text → Put txt text a text'
  short : length text < length txt → a ≡ Err RoomShort → text' ≡ text → Put txt text a text'
