-- From the verdict to the engine and back: what the engine is asked for, and what it leaves.
use mathlib.Core.Path.{◌≡◌, refl, ap}
use mathlib.Core.List.{List}
use Prim.Native.Nat.{ℕ, ◌/◌, ◌%◌}
use native.Mathlib.Omega.{arith}
use lib.IntN.{ℤ}
use lib.ListN.{length}
use Rattle.std.specs.Prelude.{Ok, Err, Some, None, Option}
use Rattle.refusal.specs.declared.Refusal.{Refusal}
use Rattle.faults.specs.Counts.{corners}
use Rattle.faults.proofs.Opposites.{coordinates_length}
use Rattle.length.specs.declared.Length.{Length}
use Rattle.length.specs.Limit.{limit_of}
use Rattle.length.proofs.Laws.{limit_most}
use Rattle.least.specs.Limited.{Allowed}
use Rattle.least.specs.Inner.{Measurable}
use Rattle.going.specs.Going.{CanGoOn, WentOn}
use Rattle.engine.proofs.Whole.{ready, went}
use Rattle.thin.specs.Order.{Asked, asked_by}
use Rattle.thin.specs.Thin.{ThinnedAs, refused, done}
use Rattle.thin.specs.Inner.{Fair, JudgedThinning}

module _ (a : Asked) (xs : List ℤ) (t : List ℕ) (room : ℕ) (j : JudgedThinning a xs t room (Ok tt)) where
  threes : length t % 3 ≡ 0
  threes = (j.fits refl).table.threes

  pub thin_ready : (l : List ℕ) → length l ≡ room → CanGoOn (corners xs) t (length t / 3) l 0
  thin_ready l e = let h = j.room_enough refl in ready t threes (j.skin refl).stage l (omega arith)

  pub thin_measured : (b : Option ℕ) → a ≡ Ok b → Fair a → Measurable b (corners xs) xs
  thin_measured None e f = tt
  thin_measured (Some c) e f = record {
    usable = rw e at f;
    corners = coordinates_length xs (j.fits refl).coordinates.threes;
    in_range = (j.skin refl).in_range;
  }

  -- the engine's outcome from 0 is the thinning's
  pub thin_done : (b : Option ℕ) → a ≡ Ok b → (l : List ℕ) → length l ≡ room → (k : ℕ) (t' l' : List ℕ) → WentOn (Allowed b xs) t (length t / 3) l 0 k t' l' → ThinnedAs a xs t l (Ok k) t' l'
  thin_done b e l h k t' l' o = let w = went t threes o in done (rw h j.holds) (j.skin refl) e w.run (ap Ok w.count) w.table w.logged

pub thin_refused : {a : Asked} {xs : List ℤ} {t l : List ℕ} {room : ℕ} {r : Refusal} → JudgedThinning a xs t room (Err r) → length l ≡ room → ThinnedAs a xs t l (Err r) t l
thin_refused {r = r} j e = refused {e = r} (rw e j.holds) refl refl refl

-- the limit reader gives a fair bound
pub fair_limit : (l : Length) → Fair (asked_by (limit_of l))
fair_limit l = go (limit_of l) refl
  where
    go : (r : Option ℕ) → limit_of l ≡ r → Fair (asked_by r)
    go (Some c) e = limit_most l e
    go None e = refl
