-- What a sheet in its form holds is within the library's limits.
use mathlib.Core.Bool.{true}
use mathlib.Core.List.{List}
use Prim.Native.Nat.{ℕ, ◌*◌}
use native.Mathlib.Omega.{arith}
use lib.IntN.{ℤ}
use lib.ListN.{take}
use Rattle.std.specs.Prelude.{Result}
use Rattle.refusal.specs.declared.Refusal.{Refusal}
use Rattle.surface.proofs.Flat.{rows_length}
use Rattle.refusal.specs.First.{First}
use Rattle.faults.specs.Counts.{CountsFitAt}
use Rattle.faults.specs.Order.{refusals_at, refusals_after_counts}
use Rattle.faults.proofs.Order.{after_2_at}
use Rattle.form.specs.Inner.{Held, FormRead}

module _ {n m : ℕ} {xs : List ℤ} {t : List ℕ} (held : Held n m xs t) where
  -- a sheet's limits are within the library's
  library_fits : CountsFitAt xs t
  library_fits =
      let fit = held.counts in
      let a = fit.few in let b = fit.many in let c = fit.least in let d = fit.most in
      let cs = held.corners in
      let rs = held.rows in
      let e = rows_length m t (omega arith) in
      record {
        table = record { threes = omega arith; count = record { least = omega arith; most = omega arith } };
        coordinates = record { threes = omega arith; count = record { few = omega arith; many = omega arith } };
      }

  -- so what is left to be asked is 4 to 11
  pub held_refusals : (v : Result Unit Refusal) → First (refusals_at true xs t) v → First (refusals_after_counts true xs t) v
  held_refusals v k = after_2_at true xs t v library_fits k

pub its_held : {b : List ℕ} {n m : ℕ} {xroom : List ℤ} {troom : List ℕ} → FormRead b n m xroom troom → Held n m (take (n * 3) xroom) (take (m * 3) troom)
its_held f = record { counts = f.counts; corners = f.sheet.corners; rows = f.sheet.rows }
