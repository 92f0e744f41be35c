-- What the inner functions ask and give.
use Rattle.form.specs.Inner.{FormRead}
use Rattle.std.specs.Prelude.{◌≡◌, List, ℕ, ◌-◌, ◌*◌, ◌%◌, ◌≤◌, ℤ, length, Result, Ok, Err, take}
use Rattle.refusal.specs.declared.Refusal.{Refusal}
use Rattle.surface.specs.Limits.{least_corners}
use Rattle.surface.specs.Rows.{rows}
use Rattle.corners.specs.Skin.{Skin}
use Rattle.faults.specs.Counts.{corners}
use Rattle.record.specs.Layout.{width}
use Rattle.form.specs.Limits.{most_numbers, most_sheet_corners}
use Rattle.tell.specs.Put.{Put}
use Rattle.reply.specs.Outcome.{TellsRun, NoSkin, SkinOf}

-- numbers of the log that the thinning of a sheet may need
abbrev pub most_logged : ℕ
most_logged = (most_sheet_corners - least_corners) * width

-- a skin within a sheet's limits
pub record SheetSkin (xs : List ℤ) (t : List ℕ) : Type 0 where
  pub threes : length t % 3 ≡ 0
  pub most : length t ≤ most_numbers
  pub many : corners xs ≤ most_sheet_corners
  pub skin : Skin (corners xs) (rows t) xs

-- what its run comes to, put into the lent text
pub record RunPut (xs : List ℤ) (t text : List ℕ) (a : Result ℕ Refusal) (text' : List ℕ) : Type 0 where
  pub txt : List ℕ
  pub tells : TellsRun xs t txt
  pub put : Put txt text a text'

-- a skin's sheet read: in its form, with its corners and rows in front of two rooms, and nothing stands against what it holds
pub record SkinRead (b : List ℕ) (n m : ℕ) (xroom : List ℤ) (troom : List ℕ) : Type 0 where
  pub form : FormRead b n m xroom troom
  pub of : SkinOf b (take (n * 3) xroom) (take (m * 3) troom)
  pub skin : SheetSkin (take (n * 3) xroom) (take (m * 3) troom)

unfoldable pub ReadSkin : List ℕ → List ℤ → List ℕ → Result (ℕ × ℕ) Refusal → Type 0
ReadSkin b xroom troom (Ok p) = SkinRead b p.0 p.1 xroom troom
ReadSkin b xroom troom (Err r) = NoSkin b r
