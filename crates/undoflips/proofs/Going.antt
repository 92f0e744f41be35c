-- The records of a flip log undone one by one, the last first: after so many, the table is that reached, and the chains are its own.
use mathlib.Core.Path.{◌≡◌, refl, ◌∙◌, sym}
use mathlib.Core.Bool.{true, false}
use mathlib.Core.List.{List, reverse}
use Prim.Native.Nat.{ℕ, ◌+◌, ◌-◌, ◌*◌, ◌<◌}
use native.Mathlib.Omega.{arith}
use lib.ListN.{length, drop, length-reverse}
use Rattle.std.specs.Prelude.{Ok, Err}
use Rattle.follow.proofs.Leading.{leads_keep}
use Rattle.follow.proofs.Upto.{Upto, upto_none, upto_all, upto_fails, upto_more}
use Rattle.surface.specs.Rows.{rows}
use Rattle.surface.specs.Stage.{Stage}
use Rattle.surface.specs.InnerStageTable.{StageTable}
use Rattle.flips.specs.Flip.{Flip}
use Rattle.flips.proofs.Flips.{undone, not_undone}
use Rattle.neighbours.specs.Around.{Charted}
use Rattle.laid.specs.Laid.{count, items}
use Rattle.laid.proofs.Laws.{first_length, items_back}
use Rattle.chart.specs.Chart.{InChains}
use Rattle.chart.proofs.Looking.{chained_flat}
use Rattle.flip.proofs.Flipping.{stage_charted}
use Rattle.flipped.specs.declared.FlipRefusal.TheVariants.{UndoFails}
use Rattle.flipped.specs.declared.FlipHalt.TheVariants.{Stopped}
use Rattle.fliplog.specs.Layout.{width, flip_in, flip_log}
use Rattle.unflip.specs.Inner.{Undoes}
use Rattle.undoflips.specs.Outcome.{undoing}
use Rattle.undoflips.specs.Inner.{AnyStage, UndoneOn}

-- after so many records, on a table that is a stage of any corner count told
pub record Going (t log : List ℕ) (done : ℕ) (t' last prev : List ℕ) : Type 0 where
  pub upto : (n : ℕ) → StageTable n t → Upto (undoing n t log) done (rows t')
  pub size : length t' ≡ length t
  pub chains : InChains t' last prev

module _ (t log : List ℕ) (g : AnyStage t) where
  many_items : length (reverse (items flip_log log)) ≡ count flip_log log
  many_items = length-reverse (items flip_log log) ∙ first_length flip_log (count flip_log log) log

  pub going_none : {last prev : List ℕ} → InChains t last prev → Going t log 0 t last prev
  going_none k = record { upto = λ n s. upto_none (undoing n t log); size = refl; chains = k }

  module _ (done : ℕ) (t' last prev : List ℕ) (w : Going t log done t' last prev) where
    -- an undone record leaves a stage
    stage : (n : ℕ) → StageTable n t → Stage n (rows t')
    stage n s = leads_keep (Stage n) (λ T T₁ k z u. u.stage) s.stage (w.upto n s).led

    pub charted : Charted t' last prev
    charted = stage_charted {n = g.corners} (stage g.corners g.table) w.chains

    pub done_all : done ≡ count flip_log log → UndoneOn t log (Ok (count flip_log log)) t'
    done_all h = rw (sym h) (record { followed = λ n s. record { state = rows t'; reached = upto_all (undoing n t log) (w.upto n s) (omega (arith, many_items, h)); left = chained_flat w.chains } })

    module _ (more : done < count flip_log log) where
      -- the record before those done
      abbrev pub next : Flip
      next = flip_in (drop (width * (count flip_log log - 1 - done)) log)

      more_items : done < length (reverse (items flip_log log))
      more_items = omega (arith, many_items, more)

      pub next_fails : (t'' : List ℕ) → Undoes t' next false t'' → UndoneOn t log (Err (Stopped UndoFails done)) t''
      unfolding Undoes
      next_fails t'' f = record {
        followed = λ n s. record {
          state = rows t';
          reached = upto_fails (undoing n t log) (w.upto n s) more_items next (items_back flip_log log done next more) {r = UndoFails} (not_undone f.0, refl);
          left = f.1 ∙ chained_flat w.chains;
        };
      }

      pub next_done : (t'' : List ℕ) {last' prev' : List ℕ} → Undoes t' next true t'' → length t'' ≡ length t' → InChains t'' last' prev' → Going t log (done + 1) t'' last' prev'
      unfolding Undoes
      next_done t'' f same c = record {
        upto = λ n s. upto_more (undoing n t log) (w.upto n s) more_items next (items_back flip_log log done next more) (rw f.1 (undone (stage n s) f.0));
        size = same ∙ w.size;
        chains = c;
      }
