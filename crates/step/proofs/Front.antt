-- A step on the front of a lent table, and what many steps leave of it.
use mathlib.Core.Path.{◌≡◌, refl, sym, ◌∙◌, ap}
use mathlib.Core.List.{List, ◌++◌, append_assoc}
use Prim.Native.Nat.{ℕ, ◌+◌, ◌-◌, ◌*◌, ◌≤◌}
use native.Mathlib.Omega.{arith}
use lib.ListN.{length, take, drop, replicate, take-append-drop, replicate-append-replicate}
use lib.Seq.{take-take, length-take-le, drop-append-le}
use Rattle.surface.specs.Rows.{Row, rows, flat}
use Rattle.surface.specs.Stage.{Stage}
use Rattle.surface.specs.InnerStageTable.{StageTable}
use Rattle.surface.specs.Record.{Replays}
use Rattle.surface.proofs.Flat.{flat_rows, rows_length}
use Rattle.surface.proofs.Main.{contraction}
use Rattle.record.specs.declared.Record.{Record}
use Rattle.record.specs.Meant.{meant}
use Rattle.record.specs.Front.{front_rows}
use Rattle.step.specs.Front.{SteppedFront, Fallen}

module _ {n : ℕ} {t₀ : List ℕ} {r₀ : ℕ} where
  -- before any step
  pub fallen_none : 3 * r₀ ≤ length t₀ → StageTable n (front_rows r₀ t₀) → Fallen n t₀ r₀ t₀ r₀
  fallen_none h s = let e : r₀ - r₀ ≡ 0 = omega arith in record { inside = h; table = s; fewer = omega arith; same = refl; rest = rw e refl }

  module _ (t : List ℕ) (r : ℕ) (g : Fallen n t₀ r₀ t r) where
    abbrev T : List Row
    T = rows (front_rows r t)

    front_length : length (front_rows r t) ≡ 3 * r
    front_length = length-take-le (3 * r) t g.inside

    pub rows_many : length T ≡ r
    rows_many = rows_length r (front_rows r t) front_length

    pub rows_four : 4 ≤ r
    rows_four = let h = g.table.stage.least in omega (arith, rows_many)

    module _ {a b : ℕ} (e : Record) (t' : List ℕ) (w : SteppedFront t r a b e t') (same : length t' ≡ length t) where
      short : length (front_rows r t) - 6 ≡ 3 * (r - 2)
      short = omega (arith, front_length)

      -- what is left in front
      pub front_replays : Replays T (meant e) (rows (front_rows (r - 2) t'))
      front_replays =
          rw (ap (λ m. take m (front_rows r t')) short ∙ take-take (3 * (r - 2)) (3 * r) t' (omega arith))
          at w.stepped.replays

      now_length : length (front_rows (r - 2) t') ≡ 3 * (r - 2)
      now_length = let h = g.inside in length-take-le (3 * (r - 2)) t' (omega (arith, same))

      stage : Stage n (rows (front_rows (r - 2) t'))
      stage = rw front_replays.leaves at (contraction n T g.table.stage _ _ front_replays.meets)

      -- and past it
      rest_on : drop (3 * (r - 2)) t' ≡ replicate (3 * (r₀ - (r - 2))) 0 ++ drop (3 * r₀) t₀
      rest_on =
          let f = rows_four in
          let h = g.inside in
          let z = g.fewer in
          let n : length (front_rows r t') ≡ 3 * r = length-take-le (3 * r) t' (omega (arith, same)) in
          let m : 6 + 3 * (r₀ - r) ≡ 3 * (r₀ - (r - 2)) = omega arith in
          ap (drop (3 * (r - 2))) (sym (take-append-drop (3 * r) t'))
          ∙ drop-append-le (3 * (r - 2)) (front_rows r t') (drop (3 * r) t') (omega arith)
          ∙ (λ i. (ap (λ q. drop q (front_rows r t')) (sym short) ∙ w.stepped.cleared) i ++ (w.past ∙ g.rest) i)
          ∙ sym (append_assoc (replicate 6 0) (replicate (3 * (r₀ - r)) 0) (drop (3 * r₀) t₀))
          ∙ ap (λ q. q ++ drop (3 * r₀) t₀) (replicate-append-replicate 6 (3 * (r₀ - r)) 0 ∙ ap (λ q. replicate q 0) m)

      -- one step more
      pub fallen_on : Fallen n t₀ r₀ t' (r - 2)
      fallen_on = let h = g.inside in let z = g.fewer in record {
        inside = omega (arith, same);
        table = record { count = now_length ∙ ap (λ m. 3 * m) (sym (rows_length (r - 2) (front_rows (r - 2) t') now_length)); stage = stage };
        fewer = omega arith;
        same = same ∙ g.same;
        rest = rest_on;
      }

    -- the whole table: its rows, zeros, and the caller's numbers
    pub fallen_left : t ≡ flat T ++ (replicate (3 * r₀ - length (flat T)) 0 ++ drop (3 * r₀) t₀)
    fallen_left =
        let f : flat T ≡ front_rows r t = flat_rows r (front_rows r t) front_length in
        let z = g.fewer in
        let m : 3 * r₀ - length (flat T) ≡ 3 * (r₀ - r) = ap (λ q. 3 * r₀ - length q) f ∙ omega (arith, front_length) in
        sym (take-append-drop (3 * r) t) ∙ ap (λ q. front_rows r t ++ q) g.rest ∙ (λ i. sym f i ++ (replicate (sym m i) 0 ++ drop (3 * r₀) t₀))
