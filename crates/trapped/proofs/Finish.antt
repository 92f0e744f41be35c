-- Corners are finished one after another; with those below u finished, the least edge of u upward is the least of all. Sentences are of source 000.
use mathlib.Core.Path.{◌≡◌, sym, ◌∙◌}
use mathlib.Core.List.{List, [], ◌∷◌}
use Prim.Native.Nat.{ℕ, suc, ◌≤◌, ◌<◌}
use native.Mathlib.Decide.{ℕ_discrete, dec_lt}
use native.Mathlib.Omega.{arith}
use Rattle.surface.specs.Rows.{Row, row}
use Rattle.surface.specs.Table.{edges}
use Rattle.surface.specs.Stage.{Stage}
use Rattle.surface.specs.Link.{Meets}
use Rattle.surface.specs.Contract.{contract, renumber, replace, stays?, holds?}
use Rattle.run.specs.Run.{NotAfter, lower, level, Qualifies, Least, Over}
use Rattle.computed.proofs.Passing.{passes_stage}
use Rattle.computed.proofs.Linking.{linked_sound, linked_whole}
use Rattle.trapped.specs.Trapped.{Any, Finished, NextAt}
use Rattle.trapped.proofs.Trap.{meets_back, trap}

pub none_finished : (T : List Row) → Finished T 0
none_finished T w h = absurd (omega arith)

module _ (n : ℕ) (T : List Row) (s : Stage n T) where
  -- section 4: "once vertex u becomes trapped, it cannot become a loose vertex again as the result of a topology-preserving edge contraction"
  pub finished_step : {a b u : ℕ} → Meets T a b → Finished T u → Finished (contract a b T) u
  finished_step {a} {b} m fin w h = trap n T a b s m (fin w h)

  -- section 4.1: u is worked on by "all edges [u,v] of K such that p(v) is false", the corners not finished. They are enough: with no edge of u upward left u is trapped
  pub finished_on : {u : ℕ} → Finished T u → ((h : ℕ) → u < h → ¬ Meets T u h) → Finished T (suc u)
  finished_on {u} fin q w h v m = go (ℕ_discrete w u) (dec_lt u v) (ℕ_discrete u v)
    where
      go : Dec (w ≡ u) → Dec (u < v) → Dec (u ≡ v) → ⊥
      go (no k) d e = fin w (omega arith) v m
      go (yes k) (yes d) e = q v d (rw k at m)
      go (yes k) (no d) (yes e) = s.apart m.edge.1 (k ∙ e)
      go (yes k) (no d) (no e) = fin v (omega arith) w (meets_back n T s m)

  -- section 2: "A triangulation is irreducible if and only if all of its vertices are trapped". So no edge qualifies, whatever the limit
  pub finished_all : {u : ℕ} {P : ℕ → ℕ → Type 0} → n ≤ u → Finished T u → Over P T
  finished_all h fin = record { over = λ a b q. let k = s.below q.meets.edge.1 in fin a (omega arith) b q.meets }

  -- not in 000 or 004, where any edge of u will do: the least of u is the least of all
  pub least_at : {u h : ℕ} → Finished T u → NextAt T u h → Least Any T u h
  least_at {u} {h} fin k = record {
    does = record { meets = k.meets; allowed = tt; rises = k.rises };
    first = λ q. go _ _ q (dec_lt u _) (ℕ_discrete u _);
  }
    where
      go : (c d : ℕ) → Qualifies Any T c d → Dec (u < c) → Dec (u ≡ c) → NotAfter u h c d
      go c d q (yes i) j = lower i
      go c d q (no i) (yes j) = let r = q.rises in level j (k.first (omega arith) (rw (sym j) at q.meets))
      go c d q (no i) (no j) = absurd (fin c (omega arith) d q.meets)

-- `finished_on` cannot do without the lower corners: of the edges to higher ones alone Lemma 5 does not hold. On these rows 4 has none that meets the condition, and has one after 3 went into 0
abbrev eight : List Row
eight = row 0 1 2 ∷ row 0 2 4 ∷ row 0 3 5 ∷ row 0 4 3 ∷ row 0 5 1 ∷ row 1 4 2 ∷ row 1 5 4 ∷ row 3 4 5 ∷ []

eight_stage : Stage 6 eight
unfolding edges
eight_stage = passes_stage 6 eight tt

pub higher_returns : Stage 6 eight × ((h : ℕ) → 4 < h → ¬ Meets eight 4 h) × Meets eight 0 3 × Meets (contract 0 3 eight) 4 5
unfolding edges contract renumber replace stays? holds? ℕ_discrete
higher_returns = (eight_stage, none, linked_sound 0 3 eight tt, linked_sound 4 5 (contract 0 3 eight) tt)
  where
    none : (h : ℕ) → 4 < h → ¬ Meets eight 4 h
    none h i m =
        let k = eight_stage.below (eight_stage.both m.edge).1 in
        let e : ◌≡◌ {A = ℕ} h 5 = omega arith in
        linked_whole 4 5 eight (rw e at m)
