-- The two rows that leave, as they are found one after the other, are the record.
use mathlib.Core.Path.{◌≡◌, refl, sym, ◌∙◌}
use mathlib.Core.List.Memᴰ
use mathlib.Core.List.{List, [], ◌∷◌}
use Prim.Native.Nat.{ℕ, ◌+◌, ◌*◌, ◌≤◌, ◌<◌}
use native.Mathlib.Decide.{dec_le}
use native.Mathlib.Omega.{arith}
use lib.ListN.{length, get_or}
use Rattle.surface.specs.Rows.{Row, row, rows}
use Rattle.surface.specs.Contract.{Stays}
use Rattle.surface.specs.Record.{at, leaving}
use Rattle.surface.proofs.Flat.{rows_at}
use Rattle.surface.proofs.Leaving.{leaving_out}
use Rattle.surface.proofs.TwoPlaces.{Two, two_places}
use Rattle.record.specs.declared.Corner.{Corner}
use Rattle.record.specs.declared.Leaving.{Leaving}
use Rattle.leaving.specs.Leaving.{MayStep, row_at, SomeLeaves, NextLeaving, Recorded}
use Rattle.leaving.proofs.Leave.{leaving_two}

module _ (t : List ℕ) (a b : ℕ) (g : MayStep t a b) where
  abbrev T : List Row
  T = rows t

  abbrev zero_row : Row
  zero_row = row 0 0 0

  two : Two T (leaving a b T)
  two = two_places g.corners T a b g.table.stage g.meets

  -- places of rows and of numbers
  fits : {p : ℕ} → p < length T → 3 * p + 3 ≤ length t
  fits {p} h = let e = g.table.count in omega arith

  unfits : {p : ℕ} → 3 * p + 3 ≤ length t → p < length T
  unfits {p} h = let e = g.table.count in omega arith

  stands : {p : ℕ} → p < length T → get_or T p zero_row ≡ row_at t p
  stands {p} h = rows_at p t zero_row h

  leaves_i : ¬ Stays a b (row_at t two.i)
  leaves_i =
      let h : two.i < length T = let o = two.order in let k = two.inside in omega arith in
      rw (sym (stands h) ∙ two.at_i zero_row)
      (leaving_out a b T {i = two.i} {r = two.r} (rw two.is (Memᴰ.head refl))).1

  leaves_j : ¬ Stays a b (row_at t two.j)
  leaves_j =
      rw (sym (stands two.inside) ∙ two.at_j zero_row)
      (leaving_out a b T {i = two.j} {r = two.z} (rw two.is (Memᴰ.tail (Memᴰ.head refl)))).1

  pub some_first : SomeLeaves a b t 0
  some_first = record { place = two.i; from = omega arith; inside = fits (let o = two.order in let k = two.inside in omega arith); leaves = leaves_i }

  module _ (e : Leaving) (first : NextLeaving a b t 0 e) where
    -- the first that leaves comes no later than the earlier of the two
    before : e.place.0 ≤ two.i
    before = go (dec_le e.place.0 two.i)
      where
        go : Dec (e.place.0 ≤ two.i) → e.place.0 ≤ two.i
        go (yes h) = h
        go (no h) = absurd (leaves_i (first.passed two.i (omega arith) (omega arith)))

    pub some_second : SomeLeaves a b t (e.place.0 + 1)
    some_second = let h = before in record { place = two.j; from = let o = two.order in omega arith; inside = fits two.inside; leaves = leaves_j }

    module _ (l : Leaving) (second : NextLeaving a b t (e.place.0 + 1) l) where
      record_is : leaving a b T ≡ at e.place.0 (row e.a.0 e.b.0 e.c.0) ∷ at l.place.0 (row l.a.0 l.b.0 l.c.0) ∷ []
      record_is =
          let hi = unfits first.inside in
          let hj = unfits second.inside in
          let o = second.from in
          let ei = stands hi in
          let ej = stands hj in
          leaving_two a b T e.place.0 l.place.0 zero_row two (omega arith) hj (rw ei first.leaves) (rw ej second.leaves)
          ∙ (λ k. at e.place.0 ((ei ∙ sym first.stands) k) ∷ at l.place.0 ((ej ∙ sym second.stands) k) ∷ [])

      -- the record of the step
      pub recorded : (kept removed : Corner) → kept.0 ≡ a → removed.0 ≡ b → Recorded t a b (record { kept = kept; removed = removed; earlier = e; later = l })
      recorded kept removed ek er = record { kept_is = ek; removed_is = er; record_is = record_is }
