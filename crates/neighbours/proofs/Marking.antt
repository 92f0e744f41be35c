-- The numbers of a ring marked one by one, and the marks taken away again.
use mathlib.Core.Path.{◌≡◌, ◌∙◌, ap}
use mathlib.Core.Logic.{◌≢◌, ◌⊎◌, inl, inr}
use mathlib.Core.List.Memᴰ
use mathlib.Core.List.{List}
use Prim.Native.Nat.{ℕ, ◌+◌, ◌≤◌, ◌<◌}
use native.Mathlib.Decide.{ℕ_discrete}
use native.Mathlib.Numerals.{add-one}
use native.Mathlib.Omega.{arith}
use lib.ListN.{length, get_or, set, take, drop, replicate, drop_of_length-le}
use lib.Seq.{take_all, drop-cons, get_or-set_same, get_or-set_other}
use Rattle.surface.specs.Limits.{most_corners}
use Rattle.surface.specs.Lists.{◌∈◌}
use Rattle.surface.specs.Rows.{Row, rows}
use Rattle.surface.specs.Table.{Edge}
use Rattle.surface.specs.Stage.{Stage}
use Rattle.surface.specs.InnerStageTable.{StageTable}
use Rattle.slots.proofs.Marks.{mark_new, mark_old, mark_out, no_mark}
use Rattle.neighbours.specs.Around.{Neighbours, CornerNumbers, Marked, Unmarked}
use Rattle.neighbours.proofs.Firsts.{first_split, first_old, first_new}

-- marks as they are made
pub unmarked_new : Unmarked (replicate most_corners 0)
unmarked_new = record { room = omega arith; blank = record { blank = no_mark most_corners } }

-- m marks the first i numbers of l and no others
pub record MarkedTo (l : List ℕ) (i : ℕ) (m : List ℕ) : Type 0 where
  pub all : {w : ℕ} → w ∈ take i l → get_or m w 0 ≢ 0
  pub only : {w : ℕ} → get_or m w 0 ≢ 0 → w ∈ take i l

module _ (l m : List ℕ) where
  pub mark_none : Unmarked m → MarkedTo l 0 m
  mark_none u = record { all = λ h. absurd (Memᴰ.not-nil h); only = λ {w} h. absurd (h (u.blank.blank w)) }

  pub mark_more : (i : ℕ) → i < length l → get_or l i 0 < length m → MarkedTo l i m → MarkedTo l (i + 1) (set m (get_or l i 0) 1)
  mark_more i h r g = record { all = λ {w} k. all w (first_split l i h k); only = λ {w} k. only w (mark_out m (get_or l i 0) w k) }
    where
      all : (w : ℕ) → (w ∈ take i l) ⊎ (w ≡ get_or l i 0) → get_or (set m (get_or l i 0) 1) w 0 ≢ 0
      all w (inl k) = mark_old m (get_or l i 0) w r (g.all k)
      all w (inr e) = mark_new m (get_or l i 0) w r e

      only : (w : ℕ) → (w ≡ get_or l i 0) ⊎ (get_or m w 0 ≢ 0) → w ∈ take (i + 1) l
      only w (inl e) = first_new l i h e
      only w (inr k) = first_old l i h (g.only k)

  pub mark_end : (i : ℕ) → length l ≤ i → CornerNumbers l → most_corners ≤ length m → MarkedTo l i m → Marked l m
  mark_end i h c r g = record { corners = c; room = r; all = λ k. g.all (rw (take_all i l h) k); only = λ k. rw (take_all i l h) at (g.only k) }

-- what m still marks stands in l from i on
pub record MarkedFrom (l : List ℕ) (i : ℕ) (m : List ℕ) : Type 0 where
  pub only : {w : ℕ} → get_or m w 0 ≢ 0 → w ∈ drop i l

module _ (l m : List ℕ) where
  pub unmark_more : (i : ℕ) → i < length l → get_or l i 0 < length m → MarkedFrom l i m → MarkedFrom l (i + 1) (set m (get_or l i 0) 0)
  unmark_more i h r g = record { only = λ {w} k. only w k (ℕ_discrete w (get_or l i 0)) }
    where
      later : (w : ℕ) → w ≢ get_or l i 0 → (w ≡ get_or l i 0) ⊎ (w ∈ drop (i + 1) l) → w ∈ drop (i + 1) l
      later w n (inl e) = absurd (n e)
      later w n (inr k) = k

      only : (w : ℕ) → get_or (set m (get_or l i 0) 0) w 0 ≢ 0 → Dec (w ≡ get_or l i 0) → w ∈ drop (i + 1) l
      only w k (yes e) = absurd (k (ap (λ (v : ℕ). get_or (set m (get_or l i 0) 0) v 0) e ∙ get_or-set_same m (get_or l i 0) 0 0 r))
      only w k (no n) =
          let old : w ∈ drop i l = g.only (λ z. k (get_or-set_other m (get_or l i 0) w 0 0 n ∙ z)) in
          later w n (rw add-one (Memᴰ.cases_cons (rw (drop-cons l i 0 h) at old)))

  pub unmark_end : (i : ℕ) → length l ≤ i → most_corners ≤ length m → MarkedFrom l i m → Unmarked m
  unmark_end i h r g = record { room = r; blank = record { blank = λ w. none w (ℕ_discrete (get_or m w 0) 0) } }
    where
      none : (w : ℕ) → Dec (get_or m w 0 ≡ 0) → get_or m w 0 ≡ 0
      none w (yes e) = e
      none w (no n) = absurd (Memᴰ.not-nil (rw (drop_of_length-le l h) at (g.only n)))

-- both ends of an edge are corners
pub edge_below : {n : ℕ} {T : List Row} {a b : ℕ} → Stage n T → Edge T a b → b < n
edge_below s e = s.below (s.both e).1

-- and so are the neighbours of a corner
pub neighbours_corners : {n : ℕ} (t : List ℕ) → StageTable n t → {v : ℕ} {l : List ℕ} → Neighbours (rows t) v l → CornerNumbers l
neighbours_corners t s f w m = let h = edge_below s.stage (f.only m) in let k = s.stage.many in omega arith
