-- Why the first question that is not answered well is the answer, and that a job which passes has its net.
use mathlib.Core.Path.{◌≡◌, refl, sym, ◌∙◌, ap}
use mathlib.Core.List.{List, [], ◌∷◌, map}
use Prim.Native.Nat.{ℕ, zero, suc, ◌-◌, ◌≤◌, ◌<◌}
use native.Mathlib.Omega.{arith}
use lib.IntN.{ℤ, pos, nat_abs}
use lib.ListN.{length, get_or}
use Rattle.std.specs.Prelude.{Ok, Err, Result}
use Rattle.refusal.specs.First.{Clause}
use Rattle.refusal.proofs.Laws.{Verdicts, NoneBefore, ◌nor◌, none_yet, given_first, passes_none}
use Rattle.wide.specs.Rounding.{figure}
use Rattle.jobform.specs.declared.Entry.{Entry}
use Rattle.jobform.specs.Limits.{most_entries}
use Rattle.nest.specs.Limits.{most_depth, most_sum}
use Rattle.nest.specs.Questions.{At, Every, SumIn}
use Rattle.nest.specs.Inner.{net_within, Summable}
use Rattle.nest.proofs.Netting.{Sound, nets_there, top_net}
use Rattle.job.specs.declared.JobRefusal.{JobRefusal}
use Rattle.job.specs.Inner.{asked, AskedFirst, Passing, Judged, Settled, worked_out}

-- ---- verdicts of a job are told apart

pub verdicts : Verdicts {R = JobRefusal} {A = Result Unit JobRefusal} (Ok tt) Err
verdicts = record { one = λ e. cc; none = λ e. cc }

-- ---- the job that passes

module _ {es : List Entry} (some : 0 < length es) (p : Passing es) where
  sound : Sound es
  sound = record { some = some; marked = p.marked; named = p.named; alternates = p.alternates; shallow = p.shallow }

  pub worth : {f : ℤ} → AskedFirst es (Ok tt) → f ≡ figure (net_within (most_depth - 1) es 0) → Settled es (Ok f)
  worth first e = let n = nets_there sound in worked_out _ first n (ap Ok (e ∙ ap figure (sym (top_net sound n))))

-- sums found to be in range can be added up
in_range : (es : List Entry) → Every SumIn es → (k : ℕ) → nat_abs (get_or (map (λ e. e.sum) es) k (pos 0)) ≤ most_sum
in_range es small k = go es small k
  where
    go : (es : List Entry) → ((i : ℕ) (e : Entry) → At es i e → nat_abs e.sum ≤ most_sum) → (k : ℕ) → nat_abs (get_or (map (λ e. e.sum) es) k (pos 0)) ≤ most_sum
    go [] small k = omega arith
    go (e ∷ es) small zero = small 0 e refl
    go (e ∷ es) small (suc k) = go es (λ i d a. small (suc i) d a) k

pub summable : {es : List Entry} → length es ≤ most_entries → Judged es (Ok tt) → Summable es
summable {es} few judged = record { few = few; small = in_range es (judged.passing refl).sums }

-- ---- the first that is not answered well, or all are

module _ {es : List Entry} where
  pub stopped : {c : Clause JobRefusal} {m : List (Clause JobRefusal)} → NoneBefore (c ∷ m) (asked es) → c.given → Judged es (Err c.refusal)
  stopped before given = record { first = given_first verdicts before given; passing = λ e. absurd (verdicts.none e) }

  pub all_well : Passing es → Judged es (Ok tt)
  unfolding asked
  all_well p = record {
    first = (passes_none verdicts (asked es)).1 ((λ n. n p.marked) nor (λ n. n p.named) nor (λ n. n p.alternates) nor (λ n. n p.shallow) nor (λ n. n p.sums) nor none_yet);
    passing = λ e. p;
  }
