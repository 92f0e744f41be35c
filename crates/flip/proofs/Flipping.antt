-- What the slots found say of the flip: it is refused as 02 says, or its two rows stand where the slots are, and the new ones come in their places.
use mathlib.Core.Path.{◌≡◌, refl, sym, ◌∙◌}
use mathlib.Core.Bool.{true, false}
use mathlib.Core.List.{List}
use Prim.Native.Nat.{ℕ, suc, ◌*◌, ◌/◌, ◌≤◌, ◌<◌}
use native.Mathlib.Omega.{arith}
use lib.ListN.{length, get_or}
use Rattle.std.specs.Prelude.{Option, Some, None, Ok, Err, IsSome, is_some}
use Rattle.surface.specs.Limits.{most_corners}
use Rattle.surface.specs.Rows.{row, rows, Turned, turn_0, turn_1, turn_2}
use Rattle.surface.specs.Table.{Follows}
use Rattle.surface.specs.Stage.{Stage}
use Rattle.surface.proofs.Flat.{row_from}
use Rattle.flips.specs.Undo.{put_rows_lem}
use Rattle.flips.proofs.Places.{stands_row}
use Rattle.record.specs.declared.Corner.{Corner}
use Rattle.record.specs.declared.Leaving.{Leaving}
use Rattle.slots.specs.Slot.{next_slot, Whole, Under}
use Rattle.slots.proofs.Slots.{at_follows, next_0, next_1, next_2, Third, third_0, third_1, third_2, third, under_more, whole_rows}
use Rattle.slots.proofs.Staged.{table_whole, table_under}
use Rattle.neighbours.specs.Around.{Charted}
use Rattle.edges.specs.Sweep.{Found}
use Rattle.ends.specs.Rows.{row_of}
use Rattle.chart.specs.Chart.{InChains, SlotIs}
use Rattle.chart.proofs.Looking.{found_from, found_to, none_found, found_edge}
use Rattle.flipped.specs.declared.FlipRefusal.TheVariants.{EdgeMissing, EdgeBlocked}
use Rattle.fliplog.specs.InnerMeant.{meant}
use Rattle.flip.specs.Refused.{missing, blocked}
use Rattle.flip.specs.Inner.{third_at, RowAt, new_rows_lem, Tries}
use Rattle.flip.proofs.Rowwise.{slots_inside}

-- the chains of a stage, with one for every number that a corner may have
pub stage_chains : {t last prev : List ℕ} → Charted t last prev → most_corners ≤ length last → InChains t last prev
stage_chains c h = record { whole = table_whole c.table; under = under_more (table_under c.table) (let m = c.table.stage.many in omega arith); chained = c.chained }

-- and back
pub stage_charted : {n : ℕ} {t last prev : List ℕ} → Stage n (rows t) → InChains t last prev → Charted t last prev
stage_charted {n} {t} s k = record { corners = n; table = record { count = sym (whole_rows t k.whole.threes); stage = s }; chained = k.chained }

-- the row of a slot is turned to it
turned_at : (t : List ℕ) (e : ℕ) → Turned (row_from t (3 * (e / 3))) (get_or t e 0) (get_or t (next_slot e) 0) (get_or t (next_slot (next_slot e)) 0)
turned_at t e = go (third e)
  where
    go : Third e → Turned (row_from t (3 * (e / 3))) (get_or t e 0) (get_or t (next_slot e) 0) (get_or t (next_slot (next_slot e)) 0)
    go (third_0 i k) = let q : e / 3 ≡ i = omega arith in rw (q, k, next_0 i, next_1 i) (turn_0 refl)
    go (third_1 i k) = let q : e / 3 ≡ i = omega arith in rw (q, k, next_1 i, next_2 i) (turn_2 refl)
    go (third_2 i k) = let q : e / 3 ≡ i = omega arith in rw (q, k, next_2 i, next_0 i) (turn_1 refl)

module _ (t : List ℕ) (w : Whole t) {a b e : ℕ} (f : Found t a b (suc e)) where
  pub slot_inside : e < length t
  slot_inside = let u = f.upto in omega arith

  pub place_inside : e / 3 < length (rows t)
  place_inside = let h = slot_inside in let k = whole_rows t w.threes in omega arith

  -- its corners are numbers of the table
  pub first_small : {n : ℕ} → Under t n → a < n
  first_small u = rw (found_from f) at (u.under e slot_inside)

  pub third_small : {n : ℕ} → Under t n → third_at t e < n
  third_small u = u.under (next_slot (next_slot e)) (slots_inside t w e slot_inside).1

  follows_third : Follows (rows t) a b (third_at t e)
  follows_third = rw (found_from f, found_to f) at (at_follows t w.threes e slot_inside)

  turned_third : (r : Leaving) → RowAt t (e / 3) r → Turned (row_of r) a b (third_at t e)
  turned_third r k = rw (stands_row t k.stands).1 (rw (found_from f, found_to f) at (turned_at t e))

-- what was found, by equal corners
pub found_as : (t : List ℕ) {a b a' b' : ℕ} (r : Option ℕ) → a ≡ a' → b ≡ b' → SlotIs t a b r → SlotIs t a' b' r
found_as t r e g f = rw (sym e, sym g) f

module _ {t last prev : List ℕ} (c : Charted t last prev) where
  abbrev w : Whole t
  w = table_whole c.table

module _ {t last prev : List ℕ} (c : Charted t last prev) {a b : ℕ} where
  -- 30
  pub edge_missing : Found t a b 0 → Tries t a b (Err EdgeMissing) t
  unfolding Tries
  edge_missing f = (missing (none_found t (w c).threes a b f) refl, refl)

  module _ {x : ℕ} (f : Found t a b (suc x)) where
    -- an edge has its reverse
    pub reverse_found : (r : Option ℕ) → SlotIs t b a r → IsSome r
    reverse_found None g = absurd (none_found t (w c).threes b a g (c.table.stage.both (found_edge t (w c).threes a b x f)))
    reverse_found (Some y) g = refl

    module _ {y : ℕ} (g : Found t b a (suc y)) where
      -- 31
      pub edge_blocked : (r : Option ℕ) → SlotIs t (third_at t x) (third_at t y) r → is_some r ≡ true → Tries t a b (Err EdgeBlocked) t
      unfolding Tries
      edge_blocked None h e = absurd (cc)
      edge_blocked (Some z) h e =
          (blocked (record { c = third_at t x; d = third_at t y; first = follows_third t (w c) f; second = follows_third t (w c) g; edge = found_edge t (w c).threes (third_at t x) (third_at t y) z h }) refl, refl)

      module _ (first second : Leaving) (r₁ : RowAt t (x / 3) first) (r₂ : RowAt t (y / 3) second) where
        -- done
        pub flip_logs : (r : Option ℕ) → SlotIs t (third_at t x) (third_at t y) r → is_some r ≡ false → (t' : List ℕ) {A B C D : Corner} → A.0 ≡ a → B.0 ≡ b → C.0 ≡ third_at t x → D.0 ≡ third_at t y →
            rows t' ≡ put_rows_lem (meant (new_rows_lem (record { first = first; second = second }) A B C D)) (rows t) → Tries t a b (Ok (record { first = first; second = second })) t'
        unfolding Tries
        flip_logs (Some z) h n t' ea eb ec ed left = absurd (cc)
        flip_logs None h n t' ea eb ec ed left = record {
          c = third_at t x;
          d = third_at t y;
          stands_1 = rw r₁.place r₁.stands;
          turned_1 = turned_third t (w c) f first r₁;
          stands_2 = rw r₂.place r₂.stands;
          turned_2 = turned_third t (w c) g second r₂;
          no_edge = none_found t (w c).threes (third_at t x) (third_at t y) h;
          leaves = left ∙ (λ i. put_rows_lem (record { place_1 = first.place.0; row_1 = row (ec i) (ea i) (ed i); place_2 = second.place.0; row_2 = row (ec i) (ed i) (eb i) }) (rows t));
        }
