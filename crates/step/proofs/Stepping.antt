-- The step as its parts make it: the two rows found, the others moved up, the rest cleared.
use mathlib.Core.Path.{◌≡◌, sym, ◌∙◌, ap}
use mathlib.Core.List.{List, ◌++◌}
use Prim.Native.Nat.{ℕ, ◌+◌, ◌-◌}
use native.Mathlib.Omega.{arith}
use lib.ListN.{length, take, drop, replicate}
use lib.Seq.{take_at, drop_at}
use Rattle.surface.specs.Rows.{Row, rows}
use Rattle.surface.specs.Contract.{contract}
use Rattle.surface.proofs.Main.{two_fewer}
use Rattle.record.specs.declared.Record.{Record}
use Rattle.shrink.specs.Flat.{after}
use Rattle.shrink.proofs.Moving.{after_rows, after_threes}
use Rattle.leaving.specs.Leaving.{MayStep, Recorded}
use Rattle.step.specs.Step.{Stepped}

module _ (t : List ℕ) (a b : ℕ) (g : MayStep t a b) where
  abbrev T : List Row
  T = rows t

  module _ (k : Record) (w : Recorded t a b k) where
    pub step_done : (t' : List ℕ) → t' ≡ after a b t ++ replicate (length t - length (after a b t)) 0 → Stepped t a b k t'
    step_done t' e = record {
      kept_is = ek;
      removed_is = er;
      replays = record {
        lower = rw (ek, er) g.rises;
        meets = rw (ek, er) g.meets;
        leaves = rw (ek, er) (sym (after_rows a b t) ∙ ap rows (sym front));
        record_is = rw (ek, er) w.record_is;
      };
      cleared = ap (drop (length t - 6)) e ∙ drop_at (after a b t) (replicate (length t - length (after a b t)) 0) (length t - 6) stay ∙ ap (λ m. replicate m 0) six;
    }
      where
        ek : k.kept.0 ≡ a
        ek = w.kept_is

        er : k.removed.0 ≡ b
        er = w.removed_is

        stay : length (after a b t) ≡ length t - 6
        stay =
            let c = g.table.count in
            let w : length T ≡ 2 + length (contract a b T) = two_fewer g.corners T g.table.stage a b g.meets in
            let th = after_threes a b t in
            let r : length (rows (after a b t)) ≡ length (contract a b T) = ap length (after_rows a b t) in
            omega arith

        six : length t - length (after a b t) ≡ 6
        six =
            let c = g.table.count in
            let h = g.table.stage.least in
            let e = stay in
            omega arith

        front : take (length t - 6) t' ≡ after a b t
        front = ap (take (length t - 6)) e ∙ take_at (after a b t) (replicate (length t - length (after a b t)) 0) (length t - 6) stay
