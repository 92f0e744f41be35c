-- The refusals in order: what each answer comes to, and that stages and skins pass. A further number is one clause in its list, one pair of forms
-- (Words), one lemma that they exclude each other (Opposites) and one more test: the laws of lists do the rest.
use mathlib.Core.Path.{◌≡◌, refl, sym}
use mathlib.Core.Bool.{Bool, true, false}
use mathlib.Core.List.{List, ◌∷◌, ◌++◌}
use Prim.Native.Nat.{ℕ, ◌%◌}
use native.Mathlib.Omega.{arith}
use lib.IntN.{ℤ}
use lib.ListN.{length}
use Rattle.std.specs.Prelude.{Ok, Err, Result}
use Rattle.surface.specs.Rows.{Row, rows}
use Rattle.surface.specs.Stage.{Stage}
use Rattle.corners.specs.Skin.{InRange, Skin}
use Rattle.refusal.specs.declared.Refusal.{Refusal}
use Rattle.refusal.specs.declared.Refusal.TheVariants.{CountsOutside, CornerUnused}
use Rattle.refusal.specs.First.{Clause, ◌when◌, Refusals, First}
use Rattle.refusal.specs.Lesser.{either}
use Rattle.refusal.specs.Inner.{lesser_of, Rising}
use Rattle.refusal.proofs.Laws.{NoneBefore, NoneGiven, none_yet, ◌nor◌, all_nor, verdicts, first_one, rest_decides, rest_decided, given_first, passes_none, refused_before, refused_passes}
use Rattle.refusal.proofs.Either.{lesser_first}
use Rattle.refusal.proofs.Tells.{true_false}
use Rattle.faults.specs.Counts.{RowsFit, CornersFit, TableFits, CountsFit, CountsFitAt, corners}
use Rattle.faults.specs.Words.{Unused, AllUsed, OneRing, Connected, Closed}
use Rattle.faults.specs.Order.{only, ring_refusals, row_refusals, refusals_after_counts, refusals_at, CheckedStageAt}
use Rattle.faults.specs.Inner.{stage_refusals, CheckedRows, CheckedAt, CheckedFirst, CheckedStage}
use Rattle.faults.proofs.Opposites.{in_or_out, below_or_not, twice_or_apart, twice_or_once, one_or_both_ways, unused_or_all, many_or_one_ring, parted_or_connected, stage_of, stage_rows, stage_corners, stage_closed, stage_ring, stage_connected, skin_corners, coordinates_length}

-- a line asked of first tables only: it is not given, or it is
only_none : (first : Bool) (c : Clause Refusal) → (first ≡ true → ¬ c.given) → NoneGiven (only first c)
only_none true c n = n refl nor none_yet
only_none false c n = none_yet

only_given : (first : Bool) (c : Clause Refusal) → first ≡ true → c.given → First (only first c) (Err c.refusal)
only_given true c e g = given_first verdicts none_yet g
only_given false c e g = absurd (true_false e refl)

-- 5 to 11
module _ (first : Bool) (n : ℕ) (T : List Row) where
  refused : (a : Refusal) → First (row_refusals first n T) (Err a) → CheckedRows first n T (Err a)
  refused a f = record { holds = f; stage = λ e. refused_passes e; used = λ e. refused_passes e }

  -- by a line that is given, where none before it is
  pub refuse : {c : Clause Refusal} {m : Refusals} → NoneBefore (c ∷ m) (row_refusals first n T) → c.given → CheckedRows first n T (Err c.refusal)
  refuse h g = refused _ (given_first verdicts h g)

  -- none of 5 to 8
  module _ (closed : Closed n T) where
    past_8 : {m : Refusals} → NoneBefore m (only first (CornerUnused when Unused n T) ++ ring_refusals T) → NoneBefore m (row_refusals first n T)
    unfolding row_refusals
    past_8 h = below_or_not closed.below nor twice_or_apart closed.apart nor twice_or_once closed.once nor one_or_both_ways closed.both nor h

    pub refuse_9 : first ≡ true → Unused n T → CheckedRows first n T (Err CornerUnused)
    refuse_9 e p = refused _ (rest_decides verdicts (past_8 none_yet) _ (refused_before verdicts _ _ _ (only_given first (CornerUnused when Unused n T) e p)))

    module _ (used : first ≡ true → AllUsed n T) where
      pub past_9 : {m : Refusals} → NoneBefore m (ring_refusals T) → NoneBefore m (row_refusals first n T)
      past_9 h = past_8 (all_nor (only_none first (CornerUnused when Unused n T) (λ e. unused_or_all (used e))) h)

      pub past_11 : OneRing T → Connected T → NoneGiven (row_refusals first n T)
      past_11 ring connected = past_9 (many_or_one_ring ring nor parted_or_connected connected nor none_yet)

      pub pass : RowsFit (length T) → CornersFit n → OneRing T → Connected T → CheckedRows first n T (Ok tt)
      pass r c ring connected = record { holds = (passes_none verdicts _).1 (past_11 ring connected); stage = λ e. stage_of r c closed ring connected; used = λ e. used }

-- a table with its coordinates: 2, 4 and the rest
module _ (first : Bool) (xs : List ℤ) (t : List ℕ) where
  pub refuse_at : {c : Clause Refusal} {m : Refusals} → NoneBefore (c ∷ m) (refusals_at first xs t) → c.given → CheckedAt first xs t (Err c.refusal)
  refuse_at h g = record {
    holds = given_first verdicts h g;
    fits = λ e. refused_passes e;
    stage = λ e. refused_passes e;
    in_range = λ e. refused_passes e;
    used = λ e. refused_passes e;
  }

  pub rows_at : (v : Result Unit Refusal) → CountsFitAt xs t → InRange xs → CheckedRows first (corners xs) (rows t) v → CheckedAt first xs t v
  unfolding refusals_at refusals_after_counts
  rows_at v fit r k = record {
    holds = rest_decides verdicts ((λ n. n fit) nor in_or_out r nor none_yet) v k.holds;
    fits = λ e. fit;
    stage = k.stage;
    in_range = λ e. r;
    used = k.used;
  }

-- a first table that passes is a skin
pub first_at : {xs : List ℤ} {t : List ℕ} {v : Result Unit Refusal} → CheckedAt true xs t v → CheckedFirst xs t v
first_at {xs} k = record {
  holds = k.holds;
  fits = k.fits;
  skin = λ e. record { stage = k.stage e; corners = coordinates_length xs (k.fits e).coordinates.threes; in_range = k.in_range e; used = λ {v} h. k.used e refl v h };
}

pub stage_at : {xs : List ℤ} {t : List ℕ} {v : Result Unit Refusal} → CheckedAt false xs t v → CheckedStageAt xs t v
stage_at k = record { holds = k.holds; fits = k.fits; stage = k.stage; in_range = k.in_range }

-- a table with a told corner count: 2 and the rest
module _ (n : ℕ) (t : List ℕ) where
  pub refuse_2 : (¬ CountsFit n t) → CheckedStage n t (Err CountsOutside)
  unfolding stage_refusals
  refuse_2 p = record { holds = given_first verdicts none_yet p; fits = λ e. refused_passes e; stage = λ e. refused_passes e }

  pub rows_told : (v : Result Unit Refusal) → CountsFit n t → CheckedRows false n (rows t) v → CheckedStage n t v
  unfolding stage_refusals
  rows_told v fit k = record { holds = rest_decides verdicts ((λ c. c fit) nor none_yet) v k.holds; fits = λ e. fit; stage = k.stage }

-- a caller that has asked 2 itself gets the rest
pub after_2_at : (first : Bool) (xs : List ℤ) (t : List ℕ) (v : Result Unit Refusal) → CountsFitAt xs t → First (refusals_at first xs t) v → First (refusals_after_counts first xs t) v
unfolding refusals_at
after_2_at first xs t v fit f = rest_decided verdicts v f ((λ c. c fit) nor none_yet)

pub after_2 : (n : ℕ) (t : List ℕ) (v : Result Unit Refusal) → CountsFit n t → First (stage_refusals n t) v → First (row_refusals false n (rows t)) v
unfolding stage_refusals
after_2 n t v fit f = rest_decided verdicts v f ((λ c. c fit) nor none_yet)

-- no second verdict
pub one_first : {xs : List ℤ} {t : List ℕ} {v w : Result Unit Refusal} → CheckedFirst xs t v → CheckedFirst xs t w → v ≡ w
one_first k l = first_one verdicts _ k.holds l.holds

pub one_stage_at : {xs : List ℤ} {t : List ℕ} {v w : Result Unit Refusal} → CheckedStageAt xs t v → CheckedStageAt xs t w → v ≡ w
one_stage_at k l = first_one verdicts _ k.holds l.holds

pub one_stage : {n : ℕ} {t : List ℕ} {v w : Result Unit Refusal} → CheckedStage n t v → CheckedStage n t w → v ≡ w
one_stage k l = first_one verdicts _ k.holds l.holds

-- the other way: what is a stage or a skin passes
stage_none : (first : Bool) (n : ℕ) (T : List Row) → Stage n T → (first ≡ true → AllUsed n T) → NoneGiven (row_refusals first n T)
stage_none first n T s used = past_11 first n T (stage_closed s) used (stage_ring s) (stage_connected s)

module _ (t : List ℕ) (threes : length t % 3 ≡ 0) where
  stage_table : {n : ℕ} → Stage n (rows t) → TableFits t
  stage_table s = record { threes = threes; count = stage_rows s }

  pub stage_passes : (n : ℕ) → Stage n (rows t) → First (stage_refusals n t) (Ok tt)
  unfolding stage_refusals
  stage_passes n s =
      (passes_none verdicts _).1
      ((λ c. c (record { table = stage_table s; count = stage_corners s })) nor stage_none false n (rows t) s (λ e. absurd (true_false e refl)))

  module _ (xs : List ℤ) (even : length xs % 3 ≡ 0) where
    at_passes : (first : Bool) → Stage (corners xs) (rows t) → InRange xs → (first ≡ true → AllUsed (corners xs) (rows t)) → First (refusals_at first xs t) (Ok tt)
    unfolding refusals_at refusals_after_counts
    at_passes first s r used =
        (passes_none verdicts _).1
        ((λ c. c (record { table = stage_table s; coordinates = record { threes = even; count = stage_corners s } })) nor in_or_out r nor stage_none first (corners xs) (rows t) s used)

    pub stage_passes_at : Stage (corners xs) (rows t) → InRange xs → First (refusals_at false xs t) (Ok tt)
    stage_passes_at s r = at_passes false s r (λ e. absurd (true_false e refl))

  pub skin_passes : (n : ℕ) (xs : List ℤ) → Skin n (rows t) xs → First (refusals_at true xs t) (Ok tt)
  skin_passes n xs k =
      let e = k.corners in
      let c : n ≡ corners xs = sym (skin_corners k) in
      at_passes xs (omega arith) true (rw c at k.stage) k.in_range (λ h v l. k.used (omega arith))

  -- so what is refused is neither
  pub refused_no_stage : (n : ℕ) (a : Refusal) → First (stage_refusals n t) (Err a) → ¬ Stage n (rows t)
  refused_no_stage n a f s = refused_passes (first_one verdicts (stage_refusals n t) f (stage_passes n s))

  pub refused_no_skin : (n : ℕ) (xs : List ℤ) (a : Refusal) → First (refusals_at true xs t) (Err a) → ¬ Skin n (rows t) xs
  refused_no_skin n xs a f k = refused_passes (first_one verdicts (refusals_at true xs t) f (skin_passes n xs k))

refusals_rise : (xs : List ℤ) (t s : List ℕ) → Rising 0 (refusals_at false xs t) (refusals_at false xs s)
unfolding Rising refusals_at refusals_after_counts row_refusals
refusals_rise xs t s = (omega arith, refl, (omega arith, refl, (omega arith, refl, (omega arith, refl, (omega arith, refl, (omega arith, refl, (omega arith, refl, (omega arith, refl, tt))))))))

-- of two tables over the same coordinates: the lesser verdict is the first that holds of either
pub either_stage : (xs : List ℤ) (t s : List ℕ) (v w : Result Unit Refusal) → First (refusals_at false xs t) v → First (refusals_at false xs s) w →
    First (either (refusals_at false xs t) (refusals_at false xs s)) (lesser_of v w)
either_stage xs t s v w f g = lesser_first 0 (refusals_at false xs t) (refusals_at false xs s) (refusals_rise xs t s) v w f g
