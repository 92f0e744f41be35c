-- What the call answers, from its verdict: a stand-in is a corner below the count, so its distance is there.
use mathlib.Core.Path.{◌≡◌, refl, ◌∙◌, ap}
use mathlib.Core.List.Memᴰ
use mathlib.Core.List.{List, [], ◌∷◌}
use Prim.Native.Nat.{ℕ, ◌<◌}
use native.Mathlib.Decide.{ℕ_discrete}
use native.Mathlib.Omega.{arith}
use lib.IntN.{ℤ, pos}
use Rattle.std.specs.Prelude.{Ok, Err, Result}
use Rattle.surface.specs.Record.{Record}
use Rattle.refusal.specs.declared.Refusal.{Refusal}
use Rattle.refusal.specs.Told.{done, refused}
use Rattle.refusal.proofs.Outcome.{passing, refusing}
use Rattle.record.specs.Layout.{records}
use Rattle.faults.specs.Counts.{corners}
use Rattle.distance.specs.Corners.{squared_distance_lem}
use Rattle.distance.specs.Inner.{Has}
use Rattle.standin.specs.StandIn.{stand_in, moves}
use Rattle.shift.specs.Inner.{BelowIn, Clear, CheckedShift}
use Rattle.shift.specs.Report.{shift_of, ShiftReport}
use Rattle.standin.proofs.Following.{moved_on, stayed}

rest_below : {n : ℕ} {k : Record} {l : List Record} → BelowIn n (k ∷ l) → BelowIn n l
rest_below b = record { kept = λ m. b.kept (Memᴰ.tail m); removed = λ m. b.removed (Memᴰ.tail m) }

-- a stand-in is below the count
pub stand_in_below : {n : ℕ} (v : ℕ) (l : List Record) → v < n → BelowIn n l → stand_in v l < n
unfolding stand_in
stand_in_below v [] h b = h
stand_in_below {n} v (k ∷ l) h b = go (ℕ_discrete v k.removed) (λ w i. stand_in_below w l i (rest_below b))
  where
    go : Dec (v ≡ k.removed) → ((w : ℕ) → w < n → stand_in w l < n) → stand_in v (k ∷ l) < n
    go (yes e) rec = rw (moved_on k l e).0 (rec k.kept (b.kept (Memᴰ.head refl)))
    go (no ne) rec = rw (stayed k l ne).0 (rec v h)

module _ {xs : List ℤ} {log : List ℕ} {v : ℕ} where
  -- a corner below the count is in the coordinates, and so is the stand-in
  pub asked_has : Clear xs log v → Has xs v
  asked_has c = let t = c.fits.coordinates.threes in let h = c.asked in omega arith

  pub stand_in_has : Clear xs log v → {w : ℕ} → w ≡ stand_in v (records log) → Has xs w
  stand_in_has c e =
      let t = c.fits.coordinates.threes in
      let h : stand_in v (records log) < corners xs = stand_in_below v (records log) c.asked c.below in
      omega arith

  module _ {a : Result Unit Refusal} (c : CheckedShift xs log v a) where
    pub shift_done : a ≡ Ok tt → {w k d : ℕ} → w ≡ stand_in v (records log) → k ≡ moves v (records log) → d ≡ squared_distance_lem xs v w → ShiftReport xs log v (done (pos w ∷ pos k ∷ pos d ∷ []))
    unfolding shift_of
    shift_done p {w} {k} {d} ew ek ed =
        let far : d ≡ squared_distance_lem xs v (stand_in v (records log)) = ed ∙ ap (λ z. squared_distance_lem xs v z) ew in
        record { verdict = a; first = c.holds; tells = (λ i. done (pos (ew i) ∷ pos (ek i) ∷ pos (far i) ∷ [])) ∙ passing (shift_of xs log v) p }

    pub shift_refused : {r : Refusal} → a ≡ Err r → ShiftReport xs log v (refused r)
    shift_refused p = record { verdict = a; first = c.holds; tells = refusing (shift_of xs log v) p }
