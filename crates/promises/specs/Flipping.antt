-- Request 6 of document 02: "Flips." What is promised of flipping a list of edges and of undoing its log, and of tables that were flipped.
use Rattle.std.specs.Prelude.{◌≡◌, List, [], ◌∷◌, ◌++◌, reverse, ℕ, ◌*◌, ◌≤◌, ◌%◌, ℤ, pos, ◌-ℤ◌, length, take, Result, Err}
use Rattle.refusal.specs.declared.Refusal.TheVariants.{LimitUnusable}
use Rattle.follow.specs.Leads.{Leads}
use Rattle.surface.specs.Rows.{Row, rows, flat}
use Rattle.surface.specs.Table.{Used, Arrow, ◌⇒◌}
use Rattle.surface.specs.Stage.{Stage}
use Rattle.corners.specs.Skin.{InRange, Skin}
use Rattle.refusal.specs.declared.Refusal.{Refusal}
use Rattle.refusal.specs.Told as answers
use Rattle.faults.specs.Counts.{corners}
use Rattle.figure.specs.Sum.{sixfold}
use Rattle.record.specs.Front.{front_rows}
use Rattle.length.specs.declared.Order.{Order}
use Rattle.thin.specs.Answer as thinnings
use Rattle.thin.specs.Order.{asked}
use Rattle.thin.specs.Thin.{log_need, Thinned}
use Rattle.volume.specs.Answer as volumes
use Rattle.volume.specs.Report.{VolumeReport, ChangeReport, Near}
use Rattle.flips.specs.Flip.{Flip, Flips}
use Rattle.flips.specs.Undo.{Undone}
use Rattle.flips.specs.Kept.{StageKept}
use Rattle.laid.specs.Laid.{count, items, WholeItems, in_front}
use Rattle.flipped.specs.declared.FlipRefusal.{FlipRefusal}
use Rattle.flipped.specs.declared.FlipRefusal.TheVariants.{EdgeMissing, UndoFails}
use Rattle.flipped.specs.declared.FlipHalt.{FlipHalt}
use Rattle.flipped.specs.Answer.{told, stopped, FlipsTold}
use Rattle.fliplog.specs.Layout.{edge_list, width, flip_log}
use Rattle.flip.specs.Refused.{FlipRefused}
use Rattle.fliplist.specs.Outcome.{flip_room, Reached, FlipsOn, FlippedAs}
use Rattle.fliplist.specs.Left.{FlipsLeft}
use Rattle.undoflips.specs.Outcome.{UndoneAs}
use Rattle.undoflips.specs.Left.{UndoneLeft}
use Rattle.promises.specs.Stages.{StageOf}

-- a listed edge names a number that is no used corner, or one corner twice
pub data NoEdgeNamed (T : List Row) : Arrow → Type 0 where
  first_unused_lem : {a b : ℕ} → ¬ Used T a → NoEdgeNamed T (a ⇒ b)
  second_unused : {a b : ℕ} → ¬ Used T b → NoEdgeNamed T (a ⇒ b)
  one_corner : {a b : ℕ} → a ≡ b → NoEdgeNamed T (a ⇒ b)

-- t' stands after calls on the table t, each on what the one before it left and with a corner count of its own: lists flipped and logs undone, whatever each answered
pub data ByFlips (t : List ℕ) : List ℕ → Type 0 where
  no_call : {t' : List ℕ} → t' ≡ t → ByFlips t t'
  then_flipped : {t₁ : List ℕ} {m : ℕ} {edges l : List ℕ} {a : Result ℕ FlipHalt} {t' l' : List ℕ} → ByFlips t t₁ → FlippedAs m t₁ edges l a t' l' → ByFlips t t'
  then_undone : {t₁ : List ℕ} {m : ℕ} {log : List ℕ} {a : Result ℕ FlipHalt} {t' : List ℕ} → ByFlips t t₁ → UndoneAs m t₁ log a t' → ByFlips t t'

pub record Flipping : Type 0 where
  -- "Every flip keeps a closed oriented skin with the same corners and Euler number", and so does every undoing of one
  pub each_keeps : {n : ℕ} {T T' : List Row} {a b : ℕ} {k : Flip} → Stage n T → Flips T a b k T' → StageKept n T T'
  pub each_undone_keeps : {n : ℕ} {T T' : List Row} {k : Flip} → Undone n T' k T → StageKept n T' T
  -- a skin over coordinates stays one
  pub skins : {n : ℕ} {T T' : List Row} {xs : List ℤ} → Skin n T xs → StageKept n T T' → Skin n T' xs
  -- of every stage, a list of edges of even length with room for its log is not refused before any flip: 0, 30, 31 or 32 is told with a count
  pub accepts : {n : ℕ} {t edges l : List ℕ} {a : Result ℕ FlipHalt} {t' l' : List ℕ} → length t % 3 ≡ 0 → Stage n (rows t) → WholeItems edge_list edges → flip_room edges ≤ length l → FlippedAs n t edges l a t' l' →
      (k : ℕ) × FlipsTold k (told a)
  -- whole, where each listed flip is allowed in its turn; table and log hold what these lead to
  pub does_all : {n : ℕ} {t edges l : List ℕ} {a : Result ℕ FlipHalt} {t' l' : List ℕ} → length t % 3 ≡ 0 → Stage n (rows t) → WholeItems edge_list edges → flip_room edges ≤ length l → FlippedAs n t edges l a t' l' →
      {s : Reached} → Leads FlipsOn (record { table = rows t; log = [] }) (items edge_list edges) s →
      (told a ≡ answers.done (pos (count edge_list edges) ∷ [])) × (t' ≡ flat s.table) × (l' ≡ in_front flip_log s.log l)
  -- and 0 is told of whole lists alone
  pub whole : {n : ℕ} {t edges l : List ℕ} {a : Result ℕ FlipHalt} {t' l' : List ℕ} → FlippedAs n t edges l a t' l' → {k : ℕ} → told a ≡ answers.done (pos k ∷ []) → k ≡ count edge_list edges
  -- "the answer counts those done, and table and log hold those and no others"; the stage is kept
  pub left : {n : ℕ} {t edges l : List ℕ} {a : Result ℕ FlipHalt} {t' l' : List ℕ} → FlippedAs n t edges l a t' l' → {k : ℕ} → FlipsTold k (told a) → FlipsLeft n t edges l k t' l'
  -- "up to the first refusal": 30 or 31 and k are told of the listed edge behind k others, which is refused so on the table that is left
  pub stops : {n : ℕ} {t edges l : List ℕ} {a : Result ℕ FlipHalt} {t' l' : List ℕ} → FlippedAs n t edges l a t' l' → (r : FlipRefusal) (k : ℕ) → told a ≡ stopped r k →
      (before : List Arrow) × (x y : ℕ) × (after : List Arrow) × (items edge_list edges ≡ before ++ (x ⇒ y) ∷ after) × (length before ≡ k) × FlipRefused (rows t') x y r
  -- "A number that is no used corner makes the edge missing", and so does a corner named twice: such an edge is not flipped, and where all before it are, it is 30
  pub missing : {n : ℕ} {t edges l : List ℕ} {a : Result ℕ FlipHalt} {t' l' : List ℕ} → FlippedAs n t edges l a t' l' → {k : ℕ} → FlipsTold k (told a) →
      (before : List Arrow) (e : Arrow) (after : List Arrow) → items edge_list edges ≡ before ++ e ∷ after → NoEdgeNamed (rows t) e →
      (k ≤ length before) × (k ≡ length before → told a ≡ stopped EdgeMissing k)
  -- of every stage, a log of whole records is not refused before any is undone: 0, 30, 31 or 32 is told with a count
  pub undo_accepts : {n : ℕ} {t log : List ℕ} {a : Result ℕ FlipHalt} {t' : List ℕ} → length t % 3 ≡ 0 → Stage n (rows t) → WholeItems flip_log log → UndoneAs n t log a t' → (k : ℕ) × FlipsTold k (told a)
  -- and 0 is told of whole logs alone
  pub undo_whole : {n : ℕ} {t log : List ℕ} {a : Result ℕ FlipHalt} {t' : List ℕ} → UndoneAs n t log a t' → {k : ℕ} → told a ≡ answers.done (pos k ∷ []) → k ≡ count flip_log log
  -- "with the table as reached and the undone counted"
  pub undone : {n : ℕ} {t log : List ℕ} {a : Result ℕ FlipHalt} {t' : List ℕ} → UndoneAs n t log a t' → {k : ℕ} → FlipsTold k (told a) → UndoneLeft n t log k t'
  -- "otherwise 32": it is told with k of the record behind k others, from the last on, which is undone to no table from the one that is left
  pub undo_stops : {n : ℕ} {t log : List ℕ} {a : Result ℕ FlipHalt} {t' : List ℕ} → UndoneAs n t log a t' → (r : FlipRefusal) (k : ℕ) → told a ≡ stopped r k →
      (r ≡ UndoFails) × (before : List Flip) × (i : Flip) × (after : List Flip) × (reverse (items flip_log log) ≡ before ++ i ∷ after) × (length before ≡ k)
      × ((T : List Row) → ¬ Undone n (rows t') i T)
  -- "Undoing the whole log, last record first, restores the table", number for number, also where the list stopped
  pub restores : {n : ℕ} {t edges l : List ℕ} {a : Result ℕ FlipHalt} {t' l' : List ℕ} → FlippedAs n t edges l a t' l' → {k : ℕ} → FlipsTold k (told a) → {b : Result ℕ FlipHalt} {t'' : List ℕ} →
      UndoneAs n t' (take (width * k) l') b t'' → (told b ≡ answers.done (pos k ∷ [])) × (t'' ≡ t)
  -- whatever calls flipped or undid, a stage stays a stage, with its used corners, its number of rows and its Euler number
  pub keeps : {n : ℕ} {t t' : List ℕ} → Stage n (rows t) → ByFlips t t' → StageKept n (rows t) (rows t') × (length t' ≡ length t)
  -- "Demand 3's volume figure holds for flipped tables": each is within half a cubic metre of exact for the table's own triangles, over any coordinates in range
  pub volumes_near : {n : ℕ} {t t' : List ℕ} → length t % 3 ≡ 0 → Stage n (rows t) → ByFlips t t' → {xs : List ℤ} → length xs ≡ 3 * n → InRange xs →
      (a : Result ℤ Refusal) → VolumeReport xs t' (volumes.told a) → Near (sixfold xs (rows t')) a
  -- each change between two of them too
  pub changes_near : {n : ℕ} {t t₁ t₂ : List ℕ} → length t % 3 ≡ 0 → Stage n (rows t) → ByFlips t t₁ → ByFlips t t₂ → {xs : List ℤ} → length xs ≡ 3 * n → InRange xs →
      (a : Result ℤ Refusal) → ChangeReport xs t₁ t₂ (volumes.told a) → Near (sixfold xs (rows t₂) -ℤ sixfold xs (rows t₁)) a
  -- a flipped skin can be thinned: with room and a usable limit or none it is accepted as the first one is
  pub thins : (o : Order) {xs : List ℤ} {t t' l : List ℕ} {a : Result ℕ Refusal} {u l' : List ℕ} → ¬ (asked o ≡ Err LimitUnusable) → length t % 3 ≡ 0 → Skin (corners xs) (rows t) xs → ByFlips t t' → log_need xs ≤ length l →
      Thinned o xs t' l a u l' → (k : ℕ) × (thinnings.told a ≡ answers.done (pos k ∷ []))
  -- and a stage that thinning, recovery, replay or growing back left in front of a table can be flipped
  pub flips_stages : {n m : ℕ} {t edges l : List ℕ} {a : Result ℕ FlipHalt} {t' l' : List ℕ} → StageOf n m t → WholeItems edge_list edges → flip_room edges ≤ length l → FlippedAs n (front_rows m t) edges l a t' l' →
      (k : ℕ) × FlipsTold k (told a)
