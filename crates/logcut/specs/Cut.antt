-- A log sheet cut after any byte: "use the lines that end in a newline, drop the unfinished tail". Request 3 of 02.
use Rattle.std.specs.Prelude.{◌≡◌, cond, List, [], ◌∷◌, ◌++◌, ℕ, suc, ◌-◌, ◌≤◌, ◌<◌, eqb, length}
use Rattle.surface.specs.Limits.{least_corners}
use Rattle.refusal.specs.First.{Refusals, ◌when◌}
use Rattle.refusal.specs.declared.Refusal.TheVariants.{CountsOutside, SheetForm}
use Rattle.record.specs.Layout.{count}
use Rattle.lines.specs.Lines.{newline}
use Rattle.logform.specs.LogSheet.{most_log_bytes, LogSheetOf}

-- how many newlines stand among bytes: as many lines are whole
unfoldable pub newlines : List ℕ → ℕ
newlines [] = 0
newlines (c ∷ b) = cond (eqb c newline) (suc (newlines b)) (newlines b)

-- the lines of b that end in a newline are the log sheet of n corners, m rows and the numbers of a log; what follows them, without a newline, is dropped
pub record CutOf (b : List ℕ) (n m : ℕ) (log : List ℕ) : Type 0 where
  pub whole : List ℕ
  pub tail : List ℕ
  pub bytes : b ≡ whole ++ tail
  pub unfinished : newlines tail ≡ 0
  pub sheet : LogSheetOf whole n m log

-- "A cut inside the first line or a whole line in bad form"
abbrev pub NoCut : List ℕ → Type 0
NoCut b = (n m : ℕ) (log : List ℕ) → ¬ CutOf b n m log

-- "A first line whose counts are not the skin's", which are n corners and m rows, or "more than corners - 4 whole `K` lines"
pub record OtherCounts (b : List ℕ) (n m : ℕ) : Type 0 where
  pub n' : ℕ
  pub m' : ℕ
  pub log : List ℕ
  pub cut : CutOf b n' m' log
  pub other : ¬ ((n' ≡ n) × (m' ≡ m) × (count log ≤ n - least_corners))

-- 12, then 2
unfoldable pub cut_refusals : List ℕ → ℕ → ℕ → Refusals
cut_refusals b n m =
    (SheetForm when (most_log_bytes < length b))
    ∷ (SheetForm when NoCut b)
    ∷ (CountsOutside when OtherCounts b n m)
    ∷ []
