-- Request 5: the half cubic metre of the whole station.
use mathlib.Core.Path.{◌≡◌, refl, sym, ◌∙◌, ap, subst}
use mathlib.Core.List.{List, [], ◌∷◌}
use Prim.Native.Nat.{ℕ, ◌≤◌}
use lib.IntN.{ℤ, pos, ◌+ℤ◌, ◌-ℤ◌, ◌*ℤ◌, nat_abs}
use lib.ListN.{length}
use Rattle.std.specs.Prelude.{Result, Ok, Err}
use Rattle.surface.specs.Rows.{rows}
use Rattle.refusal.specs.Told.{Told, done}
use Rattle.refusal.proofs.Outcome.{refused_done, outcome_one}
use Rattle.faults.specs.Order.{CheckedStageAt}
use Rattle.faults.proofs.Order.{one_stage_at}
use Rattle.wide.specs.Rounding.{divisor, figure, WithinHalf, Nearest}
use Rattle.wide.proofs.Rounded.{figure_near, figure_nearest}
use Rattle.figure.specs.Sum.{sixfold}
use Rattle.figure.proofs.Sizes.{sum_size}
use Rattle.volume.specs.Report.{VolumeReport, ExactReport, unsummed, summed}
use Rattle.volume.proofs.Laws.{checked_coordinates, volume_done}
use Rattle.jobform.specs.declared.Entry.{Entry}
use Rattle.jobform.specs.JobSheet.{JobSheetOf}
use Rattle.jobform.proofs.Forming.{one_job}
use Rattle.nest.specs.Limits.{most_sum}
use Rattle.nest.specs.Questions.{At}
use Rattle.nest.specs.Net.{added, stands, is_void, is_solid, Nets, told_sum}
use Rattle.nest.proofs.Entries.{at_get}
use Rattle.job.specs.declared.JobRefusal.{JobRefusal}
use Rattle.job.specs.Answer as jobs
use Rattle.job.specs.Outcome.{JobAnswered, refused, answered}
use Rattle.job.proofs.Numbers as JobNumbers
use Rattle.job.proofs.Answering.{one_net}
use Rattle.job.proofs.Writing.{written}
use Rattle.job.proofs.Laws.{the_net, accepted}
use Rattle.job.proofs.One.{alone, alone_figure}
use Rattle.promises.specs.Stations.{NetTold, Filled, Stations}

-- ---- what is told is a net

net_told : (a : Result ℤ JobRefusal) {f : ℤ} → jobs.told a ≡ done (f ∷ []) → a ≡ Ok f
net_told (Ok g) {f} e = let k = ap (λ (t : Told). t.values) e in let same : g ≡ f = cc in ap Ok same
net_told (Err r) e = absurd (JobNumbers.refused_done r e)

module _ {b : List ℕ} {es : List Entry} {f : ℤ} (w : NetTold b es f) where
  told_figure : JobAnswered b (Ok f)
  told_figure = rw (sym (net_told w.answer w.tells)) w.answered

  its_one : {net net' : ℕ → ℤ} → Nets es (told_sum es) net → Nets es (told_sum es) net' → net 0 ≡ net' 0
  its_one {net} {net'} n m = go told_figure
    where
      go : JobAnswered b (Ok f) → net 0 ≡ net' 0
      go (refused first e) = absurd cc
      go (answered es' worked first s k e) = one_net first w.sheet n m

  its_nets : (net : ℕ → ℤ) × Nets es (told_sum es) net
  its_nets = go told_figure
    where
      go : JobAnswered b (Ok f) → (net : ℕ → ℤ) × Nets es (told_sum es) net
      go (refused first e) = absurd cc
      go (answered es' net first s n e) = (net, subst (λ x. Nets x (told_sum x) net) (one_job w.sheet s) n)

  module _ {net : ℕ → ℤ} (n : Nets es (told_sum es) net) where
    its_figure : f ≡ figure (net 0)
    its_figure = the_net told_figure w.sheet n

    within_half : WithinHalf (net 0) f
    within_half = rw its_figure (figure_near (net 0))

    half_away : Nearest (net 0) f
    half_away = rw its_figure (figure_nearest (net 0))

-- ---- sums that are filled in from stages

record SumOf (xs : List ℤ) (t : List ℕ) (z : ℤ) : Type 0 where
  pub checked : CheckedStageAt xs t (Ok tt)
  pub is : z ≡ sixfold xs (rows t)

sum_of : {xs : List ℤ} {t : List ℕ} {z : ℤ} → Filled xs t z → SumOf xs t z
sum_of {xs} {t} {z} f = go f.report
  where
    go : ExactReport xs t (done (f.whole ∷ pos f.rest ∷ [])) → SumOf xs t z
    go (unsummed {r} c e) = absurd (refused_done r (sym e))
    go (summed {w} c x e) =
        let k = ap (λ (a : Told). a.values) e in
        let p : f.whole ≡ w.whole = cc in
        let q : f.rest ≡ w.rest = cc in
        record { checked = c; is = f.line ∙ (λ i. pos divisor *ℤ p i +ℤ pos (q i)) ∙ x.is }

in_range : {xs : List ℤ} {t : List ℕ} {z : ℤ} → Filled xs t z → nat_abs z ≤ most_sum
in_range f = let s = sum_of f in rw s.is (sum_size (checked_coordinates s.checked refl))

filled_own : (es : List Entry) {xs : List ℤ} {t : List ℕ} (i : ℕ) (e : Entry) → Filled xs t e.sum → At es i e → told_sum es i ≡ sixfold xs (rows t)
filled_own es i e f a = at_get (λ d. d.sum) (pos 0) es i e a ∙ (sum_of f).is

-- nets of the same own sums
same_own : {es : List Entry} {own own' net : ℕ → ℤ} → ((i : ℕ) (e : Entry) → At es i e → own i ≡ own' i) → Nets es own net → Nets es own' net
same_own {es} {net = net} same n = record {
  of_void = λ i e a q. n.of_void i e a q ∙ ap (λ z. z -ℤ added net (stands is_solid es i) (length es)) (same i e a);
  of_solid = λ i e a q. n.of_solid i e a q ∙ ap (λ z. z -ℤ added net (stands is_void es i) (length es)) (same i e a);
}

alone_volume : {xs : List ℤ} {t : List ℕ} {z : ℤ} {b : List ℕ} {a : Result ℤ JobRefusal} {v : Told} → Filled xs t z → JobSheetOf b (alone z ∷ []) → JobAnswered b a → VolumeReport xs t v → jobs.told a ≡ v
alone_volume {xs} {t} {z} f s w r =
    let x = sum_of f in
    let there : VolumeReport xs t (done (figure (sixfold xs (rows t)) ∷ [])) = volume_done x.checked refl refl in
    ap jobs.told (alone_figure z (in_range f) s w)
    ∙ ap (λ y. done (figure y ∷ [])) x.is
    ∙ outcome_one (figure (sixfold xs (rows t)) ∷ []) (one_stage_at there.checked r.checked) there.tells r.tells

pub stations : Stations
stations = record {
  writes = written;
  accepts = λ s c marked named alternates shallow sums w.
      (let a = accepted s c (record { marked = marked; named = named; alternates = alternates; shallow = shallow; sums = sums }) w in
      (a.0, ap jobs.told a.1));
  nets = its_nets;
  one_net = λ w n m. its_one w n m;
  near = λ w n. within_half w n;
  nearest = λ w n. half_away w n;
  nested = λ {b} {es} xs t w filled. (let n = its_nets w in (n.0, same_own (λ i e a. filled_own es i e (filled i e a) a) n.1));
  volumes = λ {b} {es} xs t w filled n. within_half w (same_own (λ i e a. sym (filled_own es i e (filled i e a) a)) n);
  bound = refl;
  fits = in_range;
  one_void = alone_volume;
}
