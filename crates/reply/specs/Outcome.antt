-- The desk's whole outcome: what it has to say of any bytes, and every byte of the lent text.
use Rattle.std.specs.Prelude.{◌≡◌, true, List, ℕ, ℤ, Result, Ok, Err, None}
use Rattle.surface.specs.Rows.{Row, rows}
use Rattle.surface.specs.Record.{Record}
use Rattle.corners.specs.Skin.{Skin}
use Rattle.refusal.specs.First.{First}
use Rattle.refusal.specs.declared.Refusal.{Refusal}
use Rattle.faults.specs.Order.{refusals_after_counts}
use Rattle.run.specs.Run.{Run}
use Rattle.least.specs.Limited.{Allowed}
use Rattle.form.specs.Form.{SheetOf, form_refusals}
use Rattle.tell.specs.Text.{no_text, ok_text}
use Rattle.tell.specs.Put.{Put}

-- the sheet b is refused: for its form, or for what it holds, 4 to 11. No room is lent for what it holds, so 3 is not asked
pub data NoSkin (b : List ℕ) (r : Refusal) : Type 0 where
  bad_form : First (form_refusals b) (Err r) → NoSkin b r
  bad_skin : {n m : ℕ} {xs : List ℤ} {t : List ℕ} → First (form_refusals b) (Ok tt) → SheetOf b n m xs t → First (refusals_after_counts true xs t) (Err r) → NoSkin b r

-- the sheet b is that of a skin, with the coordinates xs and the table t: nothing stands against it
pub record SkinOf (b : List ℕ) (xs : List ℤ) (t : List ℕ) : Type 0 where
  pub n : ℕ
  pub m : ℕ
  pub form : First (form_refusals b) (Ok tt)
  pub sheet : SheetOf b n m xs t
  pub passes : First (refusals_after_counts true xs t) (Ok tt)
  pub skin : Skin n (rows t) xs

-- txt tells the run without limit from the table t over the coordinates xs
pub record TellsRun (xs : List ℤ) (t txt : List ℕ) : Type 0 where
  pub log : List Record
  pub last : List Row
  pub run : Run (Allowed None xs) (rows t) log last
  pub text : txt ≡ ok_text xs (rows t) log last

-- what the desk has to say of the bytes b
pub data Answers (b txt : List ℕ) : Type 0 where
  no : {r : Refusal} → NoSkin b r → txt ≡ no_text r → Answers b txt
  ok : {xs : List ℤ} {t : List ℕ} → SkinOf b xs t → TellsRun xs t txt → Answers b txt

-- the answer a to the bytes b with the lent text, and what then stands there
pub record Replied (b text : List ℕ) (a : Result ℕ Refusal) (text' : List ℕ) : Type 0 where
  pub txt : List ℕ
  pub answers : Answers b txt
  pub put : Put txt text a text'
