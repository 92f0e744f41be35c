-- Each of 4 to 11 is not given where its opposite stands; together the opposites are the stages and skins.
use mathlib.Core.Path.{◌≡◌}
use mathlib.Core.List.{List, [], ◌∷◌}
use Prim.Native.Nat.{ℕ, zero, suc, ◌*◌, ◌<◌, ◌%◌}
use native.Mathlib.Omega.{arith}
use lib.IntN.{ℤ}
use lib.ListN.{length, get_or}
use Rattle.surface.specs.Lists.{Distinct, more}
use Rattle.surface.specs.Rows.{Row}
use Rattle.surface.specs.Stage.{Stage}
use Rattle.surface.proofs.Flat.{at_place}
use Rattle.corners.specs.Skin.{InRange, Skin}
use Rattle.faults.specs.Counts.{RowsFit, CornersFit, corners}
use Rattle.faults.specs.Words.{OutOfRange, NotBelow, Below, TwiceInRow, Apart, Twice, again, later, NoReverse, BothWays, Unused, AllUsed, ManyRings, OneRing, Parted, Connected, Closed}

-- 4
pub in_or_out : {xs : List ℤ} → InRange xs → ¬ OutOfRange xs
in_or_out g f = let h = g.range f.here in let k = f.far in omega arith

-- 5
pub below_or_not : {n : ℕ} {T : List Row} → Below n T → ¬ NotBelow n T
below_or_not g f = let h = g _ _ _ f.here in let k = f.past in omega arith

-- 6
pub twice_or_apart : {T : List Row} → Apart T → ¬ TwiceInRow T
twice_or_apart g f = g _ _ _ f.here f.same

-- 7
pub twice_or_once : {A : Type 0} {l : List A} → Distinct l → ¬ Twice l
twice_or_once (more n d) (again m) = n m
twice_or_once (more n d) (later t) = twice_or_once d t
twice_or_once {A = A} Rattle.surface.specs.Lists.none x3 = elim x3 [ ]

-- two places that hold the same
pub same_twice : {A : Type 0} (d : A) (l : List A) (i j : ℕ) → i < j → j < length l → get_or l i d ≡ get_or l j d → Twice l
same_twice d [] i j h k e = absurd (omega arith)
same_twice d (a ∷ l) i zero h k e = absurd (omega arith)
same_twice d (a ∷ l) zero (suc j) h k e = again {a = a} {l = l} (rw e (at_place l j d (omega arith)))
same_twice d (a ∷ l) (suc i) (suc j) h k e = later (same_twice d l i j (omega arith) (omega arith) e)

-- 8
pub one_or_both_ways : {T : List Row} → BothWays T → ¬ NoReverse T
one_or_both_ways g f = f.back (g _ _ f.goes)

-- 9
pub unused_or_all : {n : ℕ} {T : List Row} → AllUsed n T → ¬ Unused n T
unused_or_all g f = f.unused (g _ f.below)

-- 10
pub many_or_one_ring : {T : List Row} → OneRing T → ¬ ManyRings T
many_or_one_ring g f = f.apart (g _ _ _ f.one f.other)

-- 11
pub parted_or_connected : {T : List Row} → Connected T → ¬ Parted T
parted_or_connected g f = f.apart (g _ _ f.one f.other)

-- the opposites of 2, 5 to 8, 10 and 11 are a stage
pub stage_of : {n : ℕ} {T : List Row} → RowsFit (length T) → CornersFit n → Closed n T → OneRing T → Connected T → Stage n T
stage_of r c k o j = record {
  least = r.least;
  most = r.most;
  few = c.few;
  many = c.many;
  below = λ f. k.below _ _ _ f;
  apart = λ f. k.apart _ _ _ f;
  once = k.once;
  both = λ e. k.both _ _ e;
  ring = λ e g. o _ _ _ e g;
  joined = λ e g. j _ _ e g;
}

module _ {n : ℕ} {T : List Row} (s : Stage n T) where
  pub stage_rows : RowsFit (length T)
  stage_rows = record { least = s.least; most = s.most }

  pub stage_corners : CornersFit n
  stage_corners = record { few = s.few; many = s.many }

  pub stage_closed : Closed n T
  stage_closed = record { below = λ v p q f. s.below f; apart = λ v p q f. s.apart f; once = s.once; both = λ p q e. s.both e }

  pub stage_ring : OneRing T
  stage_ring v p q e g = s.ring e g

  pub stage_connected : Connected T
  stage_connected p q e g = s.joined e g

-- the coordinates of a skin
pub skin_corners : {n : ℕ} {T : List Row} {xs : List ℤ} → Skin n T xs → corners xs ≡ n
skin_corners k = let e = k.corners in omega arith

pub coordinates_length : (xs : List ℤ) → length xs % 3 ≡ 0 → length xs ≡ 3 * corners xs
coordinates_length xs h = omega arith
