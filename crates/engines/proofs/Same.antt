-- What the two engines leave, each by its own relation: the plain one the run of least edges (`Run`), the quick one the run corner by corner
-- (`ByCorner`). The theory of `trapped` makes them one; no engine's proof reads the other's.
use mathlib.Core.Path.{◌≡◌, sym, ◌∙◌, ap}
use mathlib.Core.List.{List, ◌++◌}
use Prim.Native.Nat.{ℕ, ◌+◌, ◌-◌, ◌*◌}
use lib.IntN.{ℤ}
use lib.ListN.{length, take, drop, replicate}
use Rattle.std.specs.Prelude.{None, Option}
use Rattle.surface.specs.Rows.{Row, rows, flat}
use Rattle.surface.specs.Stage.{Stage}
use Rattle.surface.specs.Record as surface
use Rattle.run.proofs.Main.{run_one}
use Rattle.trapped.specs.Trapped.{Any}
use Rattle.trapped.specs.ByCorner.{ByCorner}
use Rattle.trapped.proofs.Order.{by_corner_run, run_by_corner}
use Rattle.record.specs.Layout.{log_of, room_for}
use Rattle.record.specs.Front.{front_rows}
use Rattle.least.specs.Limited.{Allowed}
use Rattle.going.specs.Going.{WentBy, WentOn}

module _ {t : List ℕ} {r : ℕ} {l : List ℕ} {d : ℕ} where
  -- another run with the same records and the same last stage leaves the same
  went_as : {R Q : List Row → List surface.Record → List Row → Type 0} {k : ℕ} {t' l' : List ℕ} → ((log : List surface.Record) (last : List Row) → R (rows (front_rows r t)) log last → Q (rows (front_rows r t)) log last) →
      WentBy R t r l d k t' l' → WentBy Q t r l d k t' l'
  went_as f w = record { log = w.log; last = w.last; run = f w.log w.last w.run; count = w.count; table = w.table; logged = w.logged }

  -- one run leaves one thing
  pub went_one : {R : List Row → List surface.Record → List Row → Type 0} → ((T T' T'' : List Row) (a b : List surface.Record) → R T a T' → R T b T'' → (a ≡ b) × (T' ≡ T'')) →
      {k k₂ : ℕ} {t' l' t'' l'' : List ℕ} → WentBy R t r l d k t' l' → WentBy R t r l d k₂ t'' l'' → (k ≡ k₂) × (t' ≡ t'') × (l' ≡ l'')
  went_one one {k} {k₂} {t'} {l'} {t''} {l''} a b = (count, a.table ∙ (λ i. flat (last i) ++ (replicate (3 * r - length (flat (last i))) 0 ++ drop (3 * r) t)) ∙ sym b.table, a.logged ∙ (λ i. take (room_for d) l ++ (log_of (log i) ++ drop (room_for (count i)) l)) ∙ sym b.logged)
    where
      log : a.log ≡ b.log
      log = (one _ _ _ _ _ a.run b.run).0

      last : a.last ≡ b.last
      last = (one _ _ _ _ _ a.run b.run).1

      count : k ≡ k₂
      count = a.count ∙ ap (λ z. d + length z) log ∙ sym b.count

  module _ {n : ℕ} (s : Stage n (rows (front_rows r t))) where
    -- the quick engine leaves the plain one's run, and the plain one a run corner by corner
    pub quick_as_plain : {k : ℕ} {t' l' : List ℕ} → WentBy (ByCorner n) t r l d k t' l' → WentOn Any t r l d k t' l'
    quick_as_plain w = went_as (λ log last q. by_corner_run n s q) w

    pub plain_as_quick : {k : ℕ} {t' l' : List ℕ} → WentOn Any t r l d k t' l' → WentBy (ByCorner n) t r l d k t' l'
    plain_as_quick w = went_as (λ log last q. run_by_corner n s q) w

    -- both leave the same count, table and log
    pub engines_same : {k k₂ : ℕ} {t' l' t'' l'' : List ℕ} → WentOn Any t r l d k t' l' → WentBy (ByCorner n) t r l d k₂ t'' l'' → (k ≡ k₂) × (t' ≡ t'') × (l' ≡ l'')
    engines_same a b = went_one (λ T T' T'' p q. run_one) a (quick_as_plain b)

-- without a limit every edge is allowed
pub free : {b : Option ℕ} (xs : List ℤ) {t : List ℕ} {r : ℕ} {l : List ℕ} {d k : ℕ} {t' l' : List ℕ} → b ≡ None → WentOn Any t r l d k t' l' → WentOn (Allowed b xs) t r l d k t' l'
free xs e w = rw e w
