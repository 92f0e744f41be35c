-- Why each answer to a sheet is right, and that there is no second one.
use mathlib.Core.Path.{◌≡◌, refl, sym, ◌∙◌, ap, subst}
use mathlib.Core.Logic.{◌⊎◌, inl, inr}
use mathlib.Core.List.{List, [], ◌∷◌}
use Prim.Native.Nat.{ℕ, ◌≤◌, ◌<◌}
use native.Mathlib.Omega.{arith}
use lib.IntN.{ℤ, ℤ_discrete}
use lib.ListN.{length, take}
use Rattle.std.specs.Prelude.{Result, Ok, Err}
use Rattle.refusal.specs.First.{Clause, ◌when◌, FirstOf}
use Rattle.refusal.proofs.Laws.{NoneBefore, ◌nor◌, none_yet, first_one, rest_decides, given_first, passes_none}
use Rattle.wide.specs.Rounding.{figure}
use Rattle.jobform.specs.declared.Entry.{Entry}
use Rattle.jobform.specs.Limits.{most_job_bytes, most_entries}
use Rattle.jobform.specs.JobSheet.{JobSheetOf, NoJobSheet}
use Rattle.jobform.specs.Inner.{JobRead, BadJob, too_long, no_sheet}
use Rattle.jobform.proofs.Forming.{one_job}
use Rattle.nest.specs.Questions.{Counted}
use Rattle.nest.specs.Net.{Nets, told_sum}
use Rattle.nest.proofs.Netting.{Sound, top_net}
use Rattle.job.specs.declared.JobRefusal.{JobRefusal}
use Rattle.job.specs.declared.JobRefusal.TheVariants.{SheetForm, JobCount}
use Rattle.job.specs.Outcome.{Fails, job_refusals, JobFirst, JobAnswered, refused, answered}
use Rattle.job.specs.Inner.{asked, Settled, turned_down, worked_out, AskedFirst}
use Rattle.job.proofs.Judging.{verdicts}

-- ---- a question asked of a sheet, and of its entries

pub fails_there : {b : List ℕ} {es : List Entry} {Good : List Entry → Type 0} → JobSheetOf b es → Fails b Good → ¬ Good es
fails_there {Good = Good} s f g = f.not (subst Good (one_job f.sheet s) g)

pub fails_of : {b : List ℕ} {es : List Entry} {Good : List Entry → Type 0} → JobSheetOf b es → ¬ Good es → Fails b Good
fails_of {es = es} s n = record { es = es; sheet = s; not = n }

-- two lists of the same refusals, each given where the other is
data Alike : List (Clause JobRefusal) → List (Clause JobRefusal) → Type 1 where
  end : Alike [] []
  next : {c d : Clause JobRefusal} {l m : List (Clause JobRefusal)} → c.refusal ≡ d.refusal → (c.given → d.given) → (d.given → c.given) → Alike l m → Alike (c ∷ l) (d ∷ m)

here : {b : List ℕ} {es : List Entry} {Good : List Entry → Type 0} {r : JobRefusal} {l m : List (Clause JobRefusal)} → JobSheetOf b es → Alike l m → Alike ((r when (¬ Good es)) ∷ l) ((r when Fails b Good) ∷ m)
here s a = next refl (fails_of s) (fails_there s) a

alike_first : {l m : List (Clause JobRefusal)} (v : Result Unit JobRefusal) → Alike l m → FirstOf (Ok tt) Err l v → FirstOf (Ok tt) Err m v
unfolding FirstOf
alike_first v end f = f
alike_first v (next e to from a) (inl p) = inl (to p.0, p.1 ∙ ap Err e)
alike_first v (next e to from a) (inr p) = inr (λ d. p.0 (from d), alike_first v a p.1)

-- ---- form and count

pub bad_form : {b : List ℕ} → BadJob b → JobAnswered b (Err SheetForm)
unfolding job_refusals
bad_form (too_long h) = refused (given_first verdicts none_yet h) refl
bad_form (no_sheet size none) = refused (given_first verdicts ((λ h. (let k = h in omega arith)) nor none_yet) none) refl

module _ {b : List ℕ} {count : ℕ} {room : List Entry} (r : JobRead b count room) where
  not_long : ¬ (most_job_bytes < length b)
  not_long h = let k = r.size in omega arith

  is_sheet : ¬ NoJobSheet b
  is_sheet none = none r.es r.sheet

  pub bad_count : (count ≡ 0) ⊎ (most_entries < count) → JobAnswered b (Err JobCount)
  unfolding job_refusals
  bad_count h = refused (given_first verdicts (not_long nor is_sheet nor none_yet) (fails_of r.sheet (λ c. go h c))) refl
    where
      go : (count ≡ 0) ⊎ (most_entries < count) → Counted r.es → ⊥
      go (inl z) c = let k = c.some in let m = r.many in omega arith
      go (inr z) c = let k = c.few in let m = r.many in omega arith

  -- ---- the questions

  module _ (some : count ≡ 0 → ⊥) (few : count ≤ most_entries) where
    -- what is kept is the entries, where the room takes the most
    pub kept : most_entries ≤ length room → take count room ≡ r.es
    kept h = ap (λ (n : ℕ). take n room) (sym r.many) ∙ r.kept (let m = r.many in omega arith)

    counted : Counted r.es
    counted = let m = r.many in record { some = (let e = some in omega arith); few = omega arith }

    -- each question fails of the sheet where it fails of its entries, and only there
    pub their_first : (v : Result Unit JobRefusal) → AskedFirst r.es v → JobFirst b v
    unfolding job_refusals asked
    their_first v f =
        rest_decides verdicts (not_long nor is_sheet nor (λ c. fails_there r.sheet c counted) nor none_yet) v (alike_first v (here r.sheet (here r.sheet (here r.sheet (here r.sheet (here r.sheet end))))) f)

    pub settled : {a : Result ℤ JobRefusal} → Settled r.es a → JobAnswered b a
    settled (turned_down f e) = refused (their_first _ f) e
    settled (worked_out net f n e) = answered r.es net (their_first _ f) r.sheet n e

-- ---- no second answer

-- what stands against nothing has no question that fails
holds_not_not : {b : List ℕ} {es : List Entry} {Good : List Entry → Type 0} → JobSheetOf b es → ¬ Fails b Good → ¬ (¬ Good es)
holds_not_not s none n = none (fails_of s n)

-- so its entries are sound, unless that is absurd: enough where two numbers are compared
sound_not_not : {b : List ℕ} {es : List Entry} → JobFirst b (Ok tt) → JobSheetOf b es → ¬ (¬ Sound es)
unfolding job_refusals
sound_not_not {b} {es} first s none = go ((passes_none verdicts (job_refusals b)).0 first)
  where
    go : NoneBefore [] (job_refusals b) → ⊥
    go (l nor f nor c nor k nor n nor a nor d nor z nor none_yet) = holds_not_not s c (λ c. holds_not_not s k (λ k. holds_not_not s n (λ n. holds_not_not s a (λ a. holds_not_not s d (λ d. none (record { some = c.some; marked = k; named = n; alternates = a; shallow = d }))))))

pub one_net : {b : List ℕ} {es : List Entry} {net net' : ℕ → ℤ} → JobFirst b (Ok tt) → JobSheetOf b es → Nets es (told_sum es) net → Nets es (told_sum es) net' → net 0 ≡ net' 0
one_net {net = net} {net'} first s n m = go (ℤ_discrete (net 0) (net' 0))
  where
    go : Dec (net 0 ≡ net' 0) → net 0 ≡ net' 0
    go (yes e) = e
    go (no d) = absurd (sound_not_not first s (λ k. d (top_net k n ∙ sym (top_net k m))))

pub one_answer : {b : List ℕ} {a a' : Result ℤ JobRefusal} → JobAnswered b a → JobAnswered b a' → a ≡ a'
one_answer {b} (refused f e) (refused g h) = e ∙ ap Err (verdicts.one (first_one verdicts (job_refusals b) f g)) ∙ sym h
one_answer {b} (refused f e) (answered es net g s n h) = absurd (verdicts.none (first_one verdicts (job_refusals b) f g))
one_answer {b} (answered es net f s n e) (refused g h) = absurd (verdicts.none (first_one verdicts (job_refusals b) g f))
one_answer {b} (answered es net f s n e) (answered es' net' g u m h) =
    let same = one_job s u in
    e ∙ ap (λ z. Ok (figure z)) (one_net f s n (subst (λ x. Nets x (told_sum x) net') same m)) ∙ sym h
