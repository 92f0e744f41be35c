-- The local rule from the two rows that stand at a record's places.
use mathlib.Core.Path.{◌≡◌, refl, sym, ◌∙◌, ap}
use mathlib.Core.Bool.{Bool, true, false}
use mathlib.Core.List.{List}
use Prim.Native.Nat.{ℕ, ◌%◌, ◌≤◌, ◌<◌}
use native.Mathlib.Omega.{arith}
use lib.ListN.{length}
use Rattle.std.specs.Prelude.{Option, Some, None, is_some, not}
use Rattle.refusal.specs.InnerTells.{Tells}
use Rattle.refusal.proofs.Tells.{tells_true, tells_false}
use Rattle.surface.specs.Rows.{Row, row, rows, Turned, turn_0, turn_1, turn_2}
use Rattle.surface.specs.Table.{Follows, Edge}
use Rattle.surface.proofs.Once.{turn}
use Rattle.growth.proofs.Regrow.{Third, third_0, third_1, third_2, third}
use Rattle.flips.specs.Undo.{put_rows_lem}
use Rattle.flips.specs.InnerUndoable.{Undoable}
use Rattle.flips.proofs.Places.{stands_in, stands_one, stands_inside}
use Rattle.record.specs.declared.Corner.{Corner}
use Rattle.record.specs.declared.Leaving.{Leaving}
use Rattle.slots.specs.Slot.{Whole, Under}
use Rattle.slots.proofs.Slots.{follows_at}
use Rattle.ends.specs.Rows.{row_of, PairIs}
use Rattle.chart.specs.Chart.{SlotIs, Numbered}
use Rattle.chart.proofs.Looking.{none_found, found_edge}
use Rattle.fliplog.specs.declared.FlipRecord.{FlipRecord}
use Rattle.fliplog.specs.InnerMeant.{meant}
use Rattle.flip.specs.Inner.{RowAt}
use Rattle.unflip.specs.Inner.{Wrote, Undoes}

-- a row has one third corner to a directed edge
pub turned_one : {r : Row} {a b c d : ℕ} → Turned r a b c → Turned r a b d → c ≡ d
turned_one {r} {a} {b} {c} {d} t u = go (third t u)
  where
    go : Third a b c a b d → c ≡ d
    go (third_0 i j l) = sym l
    go (third_1 i j l) = cc
    go (third_2 i j l) = cc

-- what a pair of third corners says, and that there is none
pub paired : {a b : ℕ} {r z : Row} {x y : Corner} → PairIs a b r z (Some (x, y)) → Turned r a b x.0 × Turned z b a y.0
unfolding PairIs
paired p = p

pub unpaired : {a b : ℕ} {r z : Row} → PairIs a b r z None → (x y : ℕ) → Turned r a b x → Turned z b a y → ⊥
unfolding PairIs
unpaired p = p

first_of : Row → ℕ
first_of (row i j k) = i

second_of : Row → ℕ
second_of (row i j k) = j

third_of : Row → ℕ
third_of (row i j k) = k

module _ (t : List ℕ) (r : FlipRecord) where
  -- a record whose place is past the table is not undone
  pub past_first : length (rows t) ≤ r.first.place.0 → ¬ Undoable (rows t) (meant r)
  past_first h u = let k = stands_inside u.stands_1 in omega arith

  pub past_second : length (rows t) ≤ r.second.place.0 → ¬ Undoable (rows t) (meant r)
  past_second h u = let k = stands_inside u.stands_2 in omega arith

  module _ {upper lower : Leaving} (p : RowAt t r.first.place.0 upper) (q : RowAt t r.second.place.0 lower) where
    -- the rule tells what stands there
    upper_is : (u : Undoable (rows t) (meant r)) → row_of upper ≡ row u.c u.a u.d
    upper_is u = stands_one p.stands u.stands_1

    lower_is : (u : Undoable (rows t) (meant r)) → row_of lower ≡ row u.c u.d u.b
    lower_is u = stands_one q.stands u.stands_2

    pub rule_wrote : Undoable (rows t) (meant r) → Wrote upper lower r
    unfolding first_of second_of third_of
    rule_wrote u =
        let c : upper.a.0 ≡ u.c = ap first_of (upper_is u) in
        let a : upper.b.0 ≡ u.a = ap second_of (upper_is u) in
        let d : upper.c.0 ≡ u.d = ap third_of (upper_is u) in
        let c' : lower.a.0 ≡ u.c = ap first_of (lower_is u) in
        let d' : lower.b.0 ≡ u.d = ap second_of (lower_is u) in
        let b : lower.c.0 ≡ u.b = ap third_of (lower_is u) in
        record { same_c = c ∙ sym c'; same_d = d ∙ sym d'; turned_1 = rw (a, b, c) u.turned_1; turned_2 = rw (a, b, d) u.turned_2 }

    pub rule_no_edge : (u : Undoable (rows t) (meant r)) → ¬ Edge (rows t) upper.b.0 lower.c.0
    unfolding second_of third_of
    rule_no_edge u =
        let a : upper.b.0 ≡ u.a = ap second_of (upper_is u) in
        let b : lower.c.0 ≡ u.b = ap third_of (lower_is u) in
        rw (a, b) u.no_edge

    -- and what stands there with no edge between a and b is the rule
    pub rule_holds : Wrote upper lower r → ¬ Edge (rows t) upper.b.0 lower.c.0 → Undoable (rows t) (meant r)
    rule_holds w n = record {
      a = upper.b.0;
      b = lower.c.0;
      c = upper.a.0;
      d = upper.c.0;
      turned_1 = w.turned_1;
      turned_2 = w.turned_2;
      stands_1 = p.stands;
      stands_2 = rw (w.same_c, w.same_d) q.stands;
      no_edge = n;
    }

    -- whether the edge is found tells the rule
    pub rule_tells : length t % 3 ≡ 0 → Wrote upper lower r → (e : Option ℕ) → SlotIs t upper.b.0 lower.c.0 e → (none : Bool) → is_some e ≡ not none → Tells none (Undoable (rows t) (meant r)) (¬ Undoable (rows t) (meant r))
    rule_tells three w None f true s = tells_true (rule_holds w (none_found t three _ _ f))
    rule_tells three w None f false s = absurd (cc)
    rule_tells three w (Some e) f true s = absurd (cc)
    rule_tells three w (Some e) f false s = tells_false (λ u. rule_no_edge u (found_edge t three _ _ e f))

-- the numbers of a row that is turned to numbers below n are below n
turned_small : (r : Leaving) {a b c n : ℕ} → Turned (row_of r) a b c → a < n → b < n → c < n → Numbered r n
unfolding first_of second_of third_of
turned_small r (turn_0 e) ha hb hc = record { a = rw (ap first_of e) ha; b = rw (ap second_of e) hb; c = rw (ap third_of e) hc }
turned_small r (turn_1 e) ha hb hc = record { a = rw (ap first_of e) hb; b = rw (ap second_of e) hc; c = rw (ap third_of e) ha }
turned_small r (turn_2 e) ha hb hc = record { a = rw (ap first_of e) hc; b = rw (ap second_of e) ha; c = rw (ap third_of e) hb }

-- a record that is undone fits the table: its places are the table's, and so are its numbers
module _ (t : List ℕ) (w : Whole t) (n : ℕ) (small : Under t n) (r : FlipRecord) (u : Undoable (rows t) (meant r)) where
  number_small : {v p q : ℕ} → Follows (rows t) v p q → v < n
  number_small f = let s = follows_at t w.threes f in rw s.is_v at (small.under s.e s.inside)

  cad : Follows (rows t) u.c u.a u.d
  cad = record { by = row u.c u.a u.d; here = stands_in u.stands_1; turned = turn_0 refl }

  cdb : Follows (rows t) u.c u.d u.b
  cdb = record { by = row u.c u.d u.b; here = stands_in u.stands_2; turned = turn_0 refl }

  pub rule_fits : ((r.first.place.0 < length (rows t)) × Numbered r.first n) × ((r.second.place.0 < length (rows t)) × Numbered r.second n)
  rule_fits =
      let a = number_small (turn cad) in
      let b = number_small (turn (turn cdb)) in
      let c = number_small cad in
      let d = number_small (turn cdb) in
      ((stands_inside u.stands_1, turned_small r.first u.turned_1 a b c), (stands_inside u.stands_2, turned_small r.second u.turned_2 b a d))

module _ (t : List ℕ) (r : FlipRecord) where
  pub undo_stays : ¬ Undoable (rows t) (meant r) → Undoes t (meant r) false t
  unfolding Undoes
  undo_stays n = (n, refl)

  pub undo_done : (t' : List ℕ) → Undoable (rows t) (meant r) → rows t' ≡ put_rows_lem (meant r) (rows t) → Undoes t (meant r) true t'
  unfolding Undoes
  undo_done t' u e = (u, e)
