-- A record grown back: the walk, the two rows put in, and that what then stands in front is the one table that is accepted.
use mathlib.Core.Path.{◌≡◌, refl, sym, ◌∙◌, ap}
use mathlib.Core.Bool.{true, false}
use mathlib.Core.List.{List, ◌++◌}
use Prim.Native.Nat.{ℕ, ◌+◌, ◌*◌, ◌≤◌}
use native.Mathlib.Omega.{arith}
use lib.ListN.{length, drop}
use lib.Seq.{length-take-le}
use Rattle.surface.specs.Rows.{Row, rows}
use Rattle.surface.specs.InnerStageTable.{StageTable}
use Rattle.surface.specs.Record.{Record, placed}
use Rattle.surface.proofs.Following.{re_edge}
use Rattle.surface.proofs.Flat.{flat_rows, rows_length}
use Rattle.growth.specs.Grow.{put, put_back}
use Rattle.growth.specs.Accept.{Accepted}
use Rattle.growth.proofs.Put.{put_length}
use Rattle.growth.proofs.Accepting.{local_accepts}
use Rattle.growth.proofs.Main.{accepted_local}
use Rattle.record.specs.declared.Corner.{Corner}
use Rattle.std.specs.Prelude.{Some, None}
use Rattle.noted.specs.Noted.{Round}
use Rattle.accept.specs.Test.{Answered}
use Rattle.grow.specs.Walk.{Walkable, Renamed}
use Rattle.record.specs.Front.{standing, filled, front_rows}
use Rattle.grow.specs.Room.{GrewBack}
use Rattle.record.proofs.Front.{standing_length, standing_filled, filled_again}

module _ (n m : ℕ) (k : Record) (room : List ℕ) (w : StageTable n (front_rows m room)) (fits : 3 * (m + 2) ≤ length room) where
  many : length (standing m room) ≡ m
  many = standing_length m room (omega arith)

  pub not_grown : Answered n (standing m room) k None → GrewBack n m k room false room
  unfolding Answered GrewBack
  not_grown a = (λ T g. a ((accepted_local n (standing m room) w.stage k).0 (T, g)), refl)

  module _ (x y : Corner) (a : Answered n (standing m room) k (Some (x, y))) where
    pub walkable : (at : List ℕ) → n ≤ length at → Round (front_rows m room) k.kept at → Walkable (front_rows m room) at k.kept x.0 y.0
    unfolding Answered
    walkable at h r = record { corners = n; table = w; fits = h; round = r; at_x = re_edge refl (sym a.1) a.0.at_x; at_y = re_edge refl (sym a.2) a.0.at_y }

    pub earlier_inside : k.place_1 ≤ m
    unfolding Answered
    earlier_inside = let l = a.0 in let h = l.in_order in let i = l.inside in let q = many in omega arith

    pub later_inside : k.place_2 ≤ m + 1
    unfolding Answered
    later_inside = let l = a.0 in let i = l.inside in let q = many in omega arith

    pub grown : (t : List ℕ) → length t ≡ length (front_rows m room) → Renamed k.kept k.removed x.0 y.0 (front_rows m room) t → (room₂ : List ℕ) →
        room₂ ≡ filled (put_back (placed k) (standing m (t ++ drop (3 * m) room))) (t ++ drop (3 * m) room) → GrewBack n m k room true room₂
    unfolding Answered GrewBack
    grown t same r room₂ e = (T, accepted, e ∙ (λ i. filled (put_back (placed k) (in_front i)) (whole i)) ∙ filled_again (rows t) T room grows)
      where
        T : List Row
        T = put_back (placed k) (rows t)

        accepted : Accepted n (standing m room) k T
        accepted = local_accepts n (standing m room) k w.stage a.0 T (record { middle = rows t; each = rw (sym a.1, sym a.2) r; whole = refl })

        three : length t ≡ 3 * m
        three = same ∙ length-take-le (3 * m) room (omega arith)

        count : length (rows t) ≡ m
        count = rows_length m t three

        whole : t ++ drop (3 * m) room ≡ filled (rows t) room
        whole = sym (λ i. flat_rows m t three i ++ drop (3 * count i) room)

        in_front : standing m (t ++ drop (3 * m) room) ≡ rows t
        in_front = ap (standing m) whole ∙ standing_filled m (rows t) room count

        grows : length (rows t) ≤ length T
        grows = unfold put_back in
            (let p = put_length k.place_1 k.row_1 (rows t) in let q = put_length k.place_2 k.row_2 (put k.place_1 k.row_1 (rows t)) in omega arith)
