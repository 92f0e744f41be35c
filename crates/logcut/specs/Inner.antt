-- What inner functions are asked on and give: no public contract names it.
use Rattle.std.specs.Prelude.{◌≡◌, ◌⊎◌, List, [], ◌∷◌, ◌++◌, ℕ, ◌-◌, ◌≤◌, length, take, drop, Result, Ok, Err}
use Rattle.surface.specs.Limits.{least_corners, most_corners}
use Rattle.refusal.specs.First.{First}
use Rattle.refusal.specs.declared.Refusal.{Refusal}
use Rattle.record.specs.Layout.{count, room_for}
use Rattle.lines.specs.Lines.{newline}
use Rattle.logform.specs.LogSheet.{CountsIn}
use Rattle.logcut.specs.Cut.{newlines, CutOf, cut_refusals}

-- the last byte is a newline
pub record Ended (b : List ℕ) : Type 0 where
  pub before : List ℕ
  pub is : b ≡ before ++ (newline ∷ [])

-- no line, or whole lines
abbrev pub Closed : List ℕ → Type 0
Closed b = (b ≡ []) ⊎ Ended b

-- no newline stands from the place k on
pub record NoneAfter (b : List ℕ) (k : ℕ) : Type 0 where
  pub inside : k ≤ length b
  pub unfinished : newlines (drop k b) ≡ 0

-- where the lines of b that end in a newline end
pub record WholeEnd (b : List ℕ) (k : ℕ) : Type 0 where
  pub none_after : NoneAfter b k
  pub closed : Closed (take k b)

-- counts of a skin, and a room for every log that a sheet may hold
pub record CanKeep (n m : ℕ) (room : List ℕ) : Type 0 where
  pub counts : CountsIn n m 0
  pub enough : room_for (most_corners - least_corners) ≤ length room

-- the whole lines hold a log of the skin, and it stands in front of the room
pub record KeptIn (b : List ℕ) (n m : ℕ) (room : List ℕ) (k : ℕ) (room' : List ℕ) : Type 0 where
  pub passes : First (cut_refusals b n m) (Ok tt)
  pub log : List ℕ
  pub cut : CutOf b n m log
  pub counted : k ≡ count log
  pub few : k ≤ n - least_corners
  pub put : room' ≡ log ++ drop (length log) room

-- refused, the room is left free: it is scratch
unfoldable pub ReadCut : List ℕ → ℕ → ℕ → List ℕ → List ℕ → Result ℕ Refusal → Type 0
ReadCut b n m room room' (Ok k) = KeptIn b n m room k room'
ReadCut b n m room room' (Err r) = First (cut_refusals b n m) (Err r)
