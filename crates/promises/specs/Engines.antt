-- Request 7 of document 02: "A quick engine." What is promised of thinning by two engines. Which of them runs is no promise, since both leave the same: it is read in the code, of
-- `engines` and `thin`, and `tests/crates` looks who names which.
use Rattle.std.specs.Prelude.{◌≡◌, List, ℕ, ℤ, Result, None, Option}
use Rattle.refusal.specs.declared.Refusal.{Refusal}
use Rattle.surface.specs.Rows.{Row}
use Rattle.surface.specs.Stage.{Stage}
use Rattle.surface.specs.Record.{Record}
use Rattle.run.specs.Run.{Run}
use Rattle.trapped.specs.Trapped.{Any}
use Rattle.trapped.specs.ByCorner.{ByCorner}
use Rattle.length.specs.declared.Order.{Order}
use Rattle.record.specs.Front.{standing}
use Rattle.least.specs.Limited.{Allowed}
use Rattle.going.specs.Going.{WentBy, WentOn}
use Rattle.thin.specs.Thin.{Thinned}

pub record Engines : Type 0 where
  -- "it leaves the same table and log as the plain one on every input": what call 1 answers and leaves, and what call 20 does, refused or done, under any
  -- order, number for number. Both lines name the relation that the `ensures` of `thin` and that of `thin_plain` state.
  pub same : (o : Order) {xs : List ℤ} {t l : List ℕ} {a plain : Result ℕ Refusal} {t₁ t-plain l₁ l-plain : List ℕ} → Thinned o xs t l a t₁ l₁ → Thinned o xs t l plain t-plain l-plain →
      (a ≡ plain) × (t₁ ≡ t-plain) × (l₁ ≡ l-plain)
  -- the same of the engines, each by the relation that its own `go_on` ensures, the plain one's where it is lent no limit: it takes the least edge of all again and
  -- again, the quick one "finishes one corner before the next". From the stage in front of t, and whatever records the log has already, both leave one count, table and log.
  pub own : (xs : List ℤ) {n : ℕ} {t : List ℕ} {r : ℕ} {l : List ℕ} {d k-plain k : ℕ} {t-plain l-plain t₁ l₁ : List ℕ} → Stage n (standing r t) → WentOn (Allowed None xs) t r l d k-plain t-plain l-plain →
      WentBy (ByCorner n) t r l d k t₁ l₁ → (k-plain ≡ k) × (t-plain ≡ t₁) × (l-plain ≡ l₁)
  -- and of the two orders, whatever program follows them: from a stage they have the same records and the same last stage
  pub orders : {n : ℕ} {T T' : List Row} {log : List Record} → Stage n T → (Run Any T log T' → ByCorner n T log T') × (ByCorner n T log T' → Run Any T log T')
  -- what the quick engine's `go_on` ensures leaves nothing to choose by itself, with no word of the plain one, nor of a stage
  pub quick_one : {n : ℕ} {t : List ℕ} {r : ℕ} {l : List ℕ} {d k k₂ : ℕ} {t₁ l₁ t₂ l₂ : List ℕ} → WentBy (ByCorner n) t r l d k t₁ l₁ → WentBy (ByCorner n) t r l d k₂ t₂ l₂ →
      (k ≡ k₂) × (t₁ ≡ t₂) × (l₁ ≡ l₂)
  -- nor does what the plain one's ensures, with a limit or none, and with no word of the quick one
  pub plain_one : (b : Option ℕ) (xs : List ℤ) {t : List ℕ} {r : ℕ} {l : List ℕ} {d k k₂ : ℕ} {t₁ l₁ t₂ l₂ : List ℕ} → WentOn (Allowed b xs) t r l d k t₁ l₁ → WentOn (Allowed b xs) t r l d k₂ t₂ l₂ →
      (k ≡ k₂) × (t₁ ≡ t₂) × (l₁ ≡ l₂)
