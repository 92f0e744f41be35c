-- A job of one void: its net is its own sum.
use mathlib.Core.Path.{◌≡◌, refl, sym, ◌∙◌, ap}
use mathlib.Core.List.{List, [], ◌∷◌}
use Prim.Native.Nat.{ℕ, zero, suc, ◌≤◌}
use native.Mathlib.Omega.{arith}
use lib.IntN.{ℤ, nat_abs, +ℤ_idr}
use Rattle.nest.specs.declared.Kind.TheVariants.{Void, Other}
use Rattle.std.specs.Prelude.{Some, None, Result, Ok}
use Rattle.wide.specs.Rounding.{figure}
use Rattle.jobform.specs.declared.Entry.{Entry}
use Rattle.jobform.specs.JobSheet.{JobSheetOf}
use Rattle.nest.specs.Limits.{most_sum}
use Rattle.nest.specs.Questions.{void_letter, kind, At, Every, Marked, Named, Alternates, Deep, top, below, SumIn}
use Rattle.nest.specs.Net.{added, Nets, told_sum}
use Rattle.job.specs.declared.JobRefusal.{JobRefusal}
use Rattle.job.specs.Outcome.{JobAnswered}
use Rattle.job.specs.Inner.{Passing}
use Rattle.job.proofs.Laws.{told_net, accepted}

-- a void that stands in nothing
abbrev pub alone : ℤ → Entry
alone z = record { letter = void_letter; name = None; sum = z }

module _ (z : ℤ) where
  alone_net : (net : ℕ → ℤ) → Nets (alone z ∷ []) (told_sum (alone z ∷ [])) net → net 0 ≡ z
  unfolding added
  alone_net net n = n.of_void 0 (alone z) refl refl ∙ +ℤ_idr z

  nowhere : {j : ℕ} → None ≡ Some j → ⊥
  nowhere e = cc

  unnamed : (i : ℕ) (e : Entry) {j : ℕ} → At (alone z ∷ []) i e → e.name ≡ Some j → ⊥
  unnamed zero e a n = nowhere (ap (λ x. x.name) a ∙ n)
  unnamed (suc i) e a n = a

  alone_shallow : {i d : ℕ} → Deep (alone z ∷ []) i d → d ≤ 8
  alone_shallow (top e a n) = omega arith
  alone_shallow {i} (below e a n p) = absurd (unnamed i e a n)

  marked : Every Marked (alone z ∷ [])
  marked zero e a h = let k : Void ≡ Other = ap kind a ∙ h in cc
  marked (suc i) e a h = a

  named : Every Named (alone z ∷ [])
  named zero e a = rw (sym a) tt
  named (suc i) e a = absurd a

  alternates : Every Alternates (alone z ∷ [])
  alternates i e a j d n b h = unnamed i e a n

  sums : nat_abs z ≤ most_sum → Every SumIn (alone z ∷ [])
  sums small zero e a = rw (sym a) small
  sums small (suc i) e a = absurd a

  -- its answer is the figure of its own sum
  pub alone_figure : nat_abs z ≤ most_sum → {b : List ℕ} {a : Result ℤ JobRefusal} → JobSheetOf b (alone z ∷ []) → JobAnswered b a → a ≡ Ok (figure z)
  alone_figure small {b} {a} s w =
      let p : Passing (alone z ∷ []) = record { marked = marked; named = named; alternates = alternates; shallow = (λ i e h d q. alone_shallow q); sums = sums small } in
      let f = accepted s (record { some = omega arith; few = omega arith }) p w in
      f.1 ∙ ap Ok (told_net z (rw (sym f.1) w) s alone_net)
