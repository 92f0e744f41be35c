-- The starred cases of 01, one list: each an input of a public call, and the outcome that alone its contract allows.
use Rattle.std.specs.Prelude.{◌≡◌, List, [], ◌∷◌, ◌++◌, ℕ, ℤ, pos, neg_ℤ, replicate, take}
use Rattle.std.specs.Float.{binary64}
use Rattle.std.specs.Float.Ieee.{of_bits}
use Rattle.surface.specs.Rows.{rows}
use Rattle.refusal.specs.Told.{Told, done, refused_as}
use Rattle.length.specs.declared.Order.{Order}
use Rattle.length.specs.declared.Order.TheVariants.{NoLimit, Limit}
use Rattle.length.specs.declared.Length.TheVariants.{Centimetres}
use Rattle.figure.specs.Sum.{sixfold}
use Rattle.volume.specs.Answer as volumes
use Rattle.volume.specs.Report.{VolumeReport, ChangeReport}
use Rattle.thin.specs.Answer as thinnings
use Rattle.thin.specs.Thin.{Thinned}
use Rattle.regrow.specs.Answer as regrowths
use Rattle.replay.specs.Outcome.{ReplayedAs}
use Rattle.record.specs.Layout.{width, room_for}
use Rattle.cases.specs.Skins.{T, T_corners, T_turned, O, O_corners, M, M_corners}

pub data Case : Type 0 where
  -- order, corners, table, log; then what the answer tells, and what stands in table and log
  thins : Order → List ℤ → List ℕ → List ℕ → Told → List ℕ → List ℕ → Case
  -- corners and table; then the exact sixfold sum, and what the answer tells
  weighs : List ℤ → List ℕ → ℤ → Told → Case
  -- corners, earlier and later table; then what the answer tells
  changes : List ℤ → List ℕ → List ℕ → Told → Case
  -- corner count, table and log; then what the answer tells, and what stands in the table
  replays : ℕ → List ℕ → List ℕ → Told → List ℕ → Case

-- the contract allows an answer that tells v and leaves b, and every outcome that it allows does
pub record Pinned {A B : Type 0} (Allows : A → B → Type 0) (told : A → Told) (v : Told) (b : B) : Type 0 where
  pub answer : A
  pub tells : told answer ≡ v
  pub allowed : Allows answer b
  pub no_other : (a : A) (c : B) → Allows a c → (told a ≡ v) × (c ≡ b)

-- the listed outcome is allowed by the call's contract, and no other is. A volume and a change leave nothing.
abbrev pub CaseHolds : Case → Type 0
CaseHolds (thins o xs t l v t' l') = Pinned (λ a (b : List ℕ × List ℕ). Thinned o xs t l a b.0 b.1) thinnings.told v (t', l')
CaseHolds (weighs xs t s v) = (sixfold xs (rows t) ≡ s) × Pinned (λ a (b : Unit {0}). VolumeReport xs t (volumes.told a)) volumes.told v tt
CaseHolds (changes xs t u v) = Pinned (λ a (b : Unit {0}). ChangeReport xs t u (volumes.told a)) volumes.told v tt
CaseHolds (replays n t l v u) = Pinned (λ a b. ReplayedAs n t l a b) regrowths.told v u

-- limits of 141 and 142 cm
abbrev pub cm_141 : Order
cm_141 = Limit (Centimetres (of_bits binary64 0x4061a00000000000))

abbrev pub cm_142 : Order
cm_142 = Limit (Centimetres (of_bits binary64 0x4061c00000000000))

-- a lent log of n numbers, each 7, so that what is written shows
abbrev pub lent : ℕ → List ℕ
lent n = replicate n 7

-- O after its two steps, with zeros for the four rows that left, and its two records
abbrev pub O_last : List ℕ
O_last = 0 ∷ 3 ∷ 4 ∷ 5 ∷ 3 ∷ 0 ∷ 5 ∷ 4 ∷ 3 ∷ 5 ∷ 0 ∷ 4 ∷ 0 ∷ 0 ∷ 0 ∷ 0 ∷ 0 ∷ 0 ∷ 0 ∷ 0 ∷ 0 ∷ 0 ∷ 0 ∷ 0 ∷ []

abbrev pub O_log : List ℕ
O_log = 0 ∷ 1 ∷ 0 ∷ 0 ∷ 1 ∷ 2 ∷ 3 ∷ 0 ∷ 4 ∷ 1 ∷ 0 ∷ 2 ∷ 0 ∷ 0 ∷ 2 ∷ 3 ∷ 2 ∷ 5 ∷ 2 ∷ 0 ∷ []

-- O after its first step, and after its second, without the zeros
abbrev pub O_one : List ℕ
O_one = 0 ∷ 2 ∷ 3 ∷ 0 ∷ 3 ∷ 4 ∷ 5 ∷ 2 ∷ 0 ∷ 5 ∷ 3 ∷ 2 ∷ 5 ∷ 4 ∷ 3 ∷ 5 ∷ 0 ∷ 4 ∷ []

abbrev pub O_two : List ℕ
O_two = 0 ∷ 3 ∷ 4 ∷ 5 ∷ 3 ∷ 0 ∷ 5 ∷ 4 ∷ 3 ∷ 5 ∷ 0 ∷ 4 ∷ []

-- 0 and so many records; 0 and a figure
abbrev pub records_done : ℕ → Told
records_done k = done (pos k ∷ [])

abbrev pub cubic_metres_lem : ℤ → Told
cubic_metres_lem f = done (f ∷ [])

abbrev pub starred : List Case
starred =
    thins NoLimit T_corners T [] (records_done 0) T []
    ∷ thins NoLimit T_corners T_turned [] (refused_as 7) T_turned []
    ∷ thins NoLimit O_corners O (lent (room_for 2)) (records_done 2) O_last O_log
    ∷ thins cm_141 O_corners O (lent (room_for 2)) (records_done 0) O (lent (room_for 2))
    ∷ thins cm_142 O_corners O (lent (room_for 2)) (records_done 2) O_last O_log
    ∷ thins NoLimit M_corners M (lent (room_for 3)) (records_done 0) M (lent (room_for 3))
    ∷ replays 6 O (take width O_log) (records_done 1) (O_one ++ replicate 6 0)
    ∷ replays 6 O O_log (records_done 2) O_last
    ∷ weighs T_corners T (neg_ℤ (pos 27000000)) (cubic_metres_lem (neg_ℤ (pos 5)))
    ∷ weighs O_corners O (pos 8000000) (cubic_metres_lem (pos 1))
    ∷ weighs O_corners O_one (pos 4000000) (cubic_metres_lem (pos 1))
    ∷ weighs O_corners O_two (pos 2000000) (cubic_metres_lem (pos 0))
    ∷ changes O_corners O O_one (cubic_metres_lem (neg_ℤ (pos 1)))
    ∷ changes O_corners O_one O_two (cubic_metres_lem (pos 0))
    ∷ changes O_corners O O_two (cubic_metres_lem (neg_ℤ (pos 1)))
    ∷ []

-- all of them
pub data All (P : Case → Type 0) : List Case → Type 0 where
  all_none : All P []
  all_more : {c : Case} {l : List Case} → P c → All P l → All P (c ∷ l)

-- every starred case holds
abbrev pub AllStarred : Type 0
AllStarred = All CaseHolds starred
