-- What the calls answer, from the verdict on the stages.
use mathlib.Core.Path.{◌≡◌, refl, ◌∙◌, ap}
use mathlib.Core.List.{List, [], ◌∷◌}
use Prim.Native.Nat.{ℕ}
use lib.IntN.{ℤ, pos}
use Rattle.std.specs.Prelude.{Ok, Err, Result}
use Rattle.surface.specs.Rows.{rows}
use Rattle.refusal.specs.declared.Refusal.{Refusal}
use Rattle.refusal.specs.Told.{Told, done, refused}
use Rattle.refusal.specs.Inner.{lesser_of}
use Rattle.refusal.proofs.Either.{lesser_passes}
use Rattle.refusal.specs.Outcome.{outcome}
use Rattle.refusal.proofs.Outcome.{passing, refusing}
use Rattle.faults.specs.Order.{CheckedStageAt}
use Rattle.faults.proofs.Opposites.{coordinates_length}
use Rattle.faults.proofs.Order.{either_stage}
use Rattle.figure.specs.Sum.{sixfold}
use Rattle.figure.specs.Inner.{WithCoordinates}
use Rattle.wide.specs.declared.Wide.{Wide}
use Rattle.wide.specs.Wide.{Exact}
use Rattle.wide.specs.Rounding.{figure, change}
use Rattle.figure.proofs.Sizes.{stage_coordinates}
use Rattle.volume.specs.Report.{VolumeReport, ChangeReport, ExactReport, summed, unsummed}

module _ {xs : List ℤ} {t : List ℕ} {v : Result Unit Refusal} (c : CheckedStageAt xs t v) where
  -- a stage that passed has its corners in the coordinates
  pub checked_coordinates : v ≡ Ok tt → WithCoordinates (rows t) xs
  checked_coordinates e = stage_coordinates (c.stage e) (coordinates_length xs (c.fits e).coordinates.threes) (c.in_range e)

  pub volume_done : v ≡ Ok tt → {f : ℤ} → f ≡ figure (sixfold xs (rows t)) → VolumeReport xs t (done (f ∷ []))
  volume_done e {f} h = record { verdict = v; checked = c; tells = ap (λ z. done (z ∷ [])) h ∙ passing (figure (sixfold xs (rows t)) ∷ []) e }

  pub volume_refused : {r : Refusal} → v ≡ Err r → VolumeReport xs t (refused r)
  volume_refused e = record { verdict = v; checked = c; tells = refusing (figure (sixfold xs (rows t)) ∷ []) e }

  pub exact_done : v ≡ Ok tt → {w : Wide} → Exact (sixfold xs (rows t)) w → ExactReport xs t (done (w.whole ∷ pos w.rest ∷ []))
  exact_done e h = summed (rw e at c) h refl

  pub exact_refused : {r : Refusal} → v ≡ Err r → ExactReport xs t (refused r)
  exact_refused e = unsummed (rw e at c) refl

-- two stages over the same coordinates
module _ {xs : List ℤ} {t s : List ℕ} {v w : Result Unit Refusal} (c : CheckedStageAt xs t v) (d : CheckedStageAt xs s w) where
  from_both : {a : Told} → a ≡ outcome (lesser_of v w) (change (sixfold xs (rows t)) (sixfold xs (rows s)) ∷ []) → ChangeReport xs t s a
  from_both h = record {
    verdict = lesser_of v w;
    first = either_stage xs t s v w c.holds d.holds;
    earlier_stage = λ p. c.stage (lesser_passes v w p).0;
    later_stage = λ p. d.stage (lesser_passes v w p).1;
    in_range = λ p. c.in_range (lesser_passes v w p).0;
    tells = h;
  }

  pub change_done : lesser_of v w ≡ Ok tt → {f : ℤ} → f ≡ change (sixfold xs (rows t)) (sixfold xs (rows s)) → ChangeReport xs t s (done (f ∷ []))
  change_done e h = from_both (ap (λ z. done (z ∷ [])) h ∙ passing (change (sixfold xs (rows t)) (sixfold xs (rows s)) ∷ []) e)

  pub change_refused : {r : Refusal} → lesser_of v w ≡ Err r → ChangeReport xs t s (refused r)
  change_refused e = from_both (refusing (change (sixfold xs (rows t)) (sixfold xs (rows s)) ∷ []) e)
