-- The local rule from its parts, and what fails where a part fails; and that the answer is that of the scope's own words.
use mathlib.Core.Path.{◌≡◌, refl, sym, ◌∙◌}
use mathlib.Core.Logic.{◌≢◌}
use mathlib.Core.List.{List}
use Prim.Native.Nat.{ℕ, ◌/◌, ◌≤◌}
use native.Mathlib.Omega.{arith}
use lib.ListN.{length}
use Rattle.std.specs.Prelude.{Some, None}
use Rattle.surface.specs.Rows.{Row, rows}
use Rattle.surface.specs.Table.{Edge, Used}
use Rattle.surface.specs.Stage.{Stage}
use Rattle.surface.specs.InnerStageTable.{StageTable}
use Rattle.surface.specs.Record.{Record}
use Rattle.surface.proofs.Following.{re_edge}
use Rattle.growth.specs.Grow.{Ends}
use Rattle.growth.specs.InnerLocal.{Local}
use Rattle.growth.proofs.Accepting.{ends_one}
use Rattle.record.specs.declared.Corner.{Corner}
use Rattle.noted.specs.Noted.{Round, IsNoted, BothNoted}
use Rattle.ends.specs.Rows.{EndsAre}
use Rattle.accept.specs.Test.{InBounds, Answered}
use Rattle.slots.proofs.Slots.{under_more}
use Rattle.slots.proofs.Staged.{table_whole, table_under}
use Rattle.noted.proofs.Notes.{near_edge, edge_near}

module _ (n : ℕ) (T : List Row) (k : Record) (s : Stage n T) where
  pub local_bounds : Local n T k → InBounds n (length T) k
  local_bounds l = record { lower = l.lower; below = l.below; in_order = l.in_order; inside = l.inside; room = l.room }

  -- the record tells x and y
  pub same_ends : (l : Local n T k) {x y : ℕ} → Ends k.kept k.removed k.row_1 k.row_2 x y → (l.x ≡ x) × (l.y ≡ y)
  same_ends l e = ends_one a≢b (off_a l.at_x) (off_b l.at_x) (off_a l.at_y) (off_b l.at_y) l.ends e
    where
      a≢b : k.kept ≢ k.removed
      a≢b e = let h = l.lower in omega arith

      off_a : {p : ℕ} → Edge T k.kept p → p ≢ k.kept
      off_a g e = s.apart g.1 (sym e)

      off_b : {p : ℕ} → Edge T k.kept p → p ≢ k.removed
      off_b g e = l.unused (k.kept, re_edge e refl (s.both g))

  module _ {x y : ℕ} (e : Ends k.kept k.removed k.row_1 k.row_2 x y) where
    pub local : InBounds n (length T) k → ¬ Used T k.removed → x ≢ y → Edge T k.kept x → Edge T k.kept y → Local n T k
    local b u d gx gy = record {
      lower = b.lower;
      below = b.below;
      unused = u;
      in_order = b.in_order;
      inside = b.inside;
      room = b.room;
      x = x;
      y = y;
      ends = e;
      differ = d;
      at_x = gx;
      at_y = gy;
    }

-- the answers of the test, as it goes through the parts
module _ (n : ℕ) (t : List ℕ) (k : Record) (w : StageTable n t) where
  rows_told : length t / 3 ≡ length (rows t)
  rows_told = let e = w.count in omega arith

  pub out_of_bounds : ¬ InBounds n (length t / 3) k → Answered n (rows t) k None
  unfolding Answered
  out_of_bounds m l = m (rw rows_told (local_bounds n (rows t) k w.stage l))

  pub removed_used : Used (rows t) k.removed → Answered n (rows t) k None
  unfolding Answered
  removed_used u l = l.unused u

  pub no_such_rows : EndsAre k.kept k.removed k.row_1 k.row_2 None → Answered n (rows t) k None
  unfolding Answered EndsAre
  no_such_rows m l = m l.x l.y l.ends

  module _ (x y : Corner) (e : EndsAre k.kept k.removed k.row_1 k.row_2 (Some (x, y))) (at : List ℕ) (under : n ≤ length at) (r : Round t k.kept at) where
    pub not_two_near : ¬ BothNoted at x.0 y.0 → Answered n (rows t) k None
    unfolding Answered EndsAre
    not_two_near m l =
        let h = same_ends n (rows t) k w.stage l e in
        m (record { differ = λ q. l.differ (h.0 ∙ q ∙ sym h.1); at_x = noted (re_edge refl h.0 l.at_x); at_y = noted (re_edge refl h.1 l.at_y) })
      where
        noted : {p : ℕ} → Edge (rows t) k.kept p → IsNoted at p
        noted g = edge_near t (table_whole w) k.kept at (under_more (table_under w) under) r g

    pub all_holds : InBounds n (length t / 3) k → ¬ Used (rows t) k.removed → BothNoted at x.0 y.0 → Answered n (rows t) k (Some (x, y))
    unfolding Answered EndsAre local
    all_holds b u d = (local n (rows t) k w.stage e (rw rows_told at b) u d.differ (edge d.at_x) (edge d.at_y), refl, refl)
      where
        edge : {p : ℕ} → IsNoted at p → Edge (rows t) k.kept p
        edge g = near_edge t (table_whole w) k.kept at (under_more (table_under w) under) r g
