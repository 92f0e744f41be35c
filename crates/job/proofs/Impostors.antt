-- Wrong programs: each is asked a job to which the right answer is shown, and what it answers does not satisfy the words of the contract.
use mathlib.Core.Path.{◌≡◌, refl, sym, ◌∙◌, ap, subst}
use mathlib.Core.Bool.{true, false, cond}
use mathlib.Core.List.{List, [], ◌∷◌, map}
use Prim.Native.Nat.{ℕ, zero, suc, ◌+◌, ◌*◌, ◌%◌, ◌^◌, ◌≤◌, ◌<◌}
use native.Mathlib.Omega.{arith}
use lib.IntN.{ℤ, pos, neg_ℤ, ◌+ℤ◌, ◌-ℤ◌, nat_abs}
use lib.ListN.{length, replicate, length-replicate, get_or}
use Rattle.std.specs.Prelude.{Option, Some, None, Ok, Err}
use Rattle.ints.proofs.Ints.{abs_neg}
use Rattle.refusal.proofs.Laws.{◌nor◌, none_yet, given_first}
use Rattle.wide.specs.Rounding.{figure}
use Rattle.jobform.specs.declared.Entry.{Entry}
use Rattle.text.specs.Decimal.{digits, decimal}
use Rattle.text.proofs.Digits.{below_digits}
use Rattle.jobform.specs.JobSheet.{ShortName, InForm, AllInForm, job_text, JobSheetOf}
use Rattle.nest.specs.declared.Kind.{Kind}
use Rattle.nest.specs.declared.Kind.TheVariants.{Void, Solid, Other}
use Rattle.nest.specs.Questions.{void_letter, solid_letter, kind, At, Every, Counted, Marked, NameGood, Named, Deep, top, below}
use Rattle.nest.specs.Limits.{most_sum}
use Rattle.nest.specs.Net.{is_void, is_solid, stands, added, Nets, told_sum}
use Rattle.nest.proofs.Entries.{at_get}
use Rattle.nest.proofs.Netting.{added_agree, added_nothing}
use Rattle.job.specs.declared.JobRefusal.TheVariants.{JobName, JobAlternation}
use Rattle.job.specs.Outcome.{job_refusals, JobFirst, JobAnswered, refused}
use Rattle.job.specs.Inner.{Passing}
use Rattle.job.proofs.Judging.{verdicts}
use Rattle.job.proofs.Answering.{fails_of, fails_there, one_answer}
use Rattle.job.proofs.Laws.{told_net, answers}

abbrev void : Option ℕ → ℤ → Entry
void n z = record { letter = void_letter; name = n; sum = z }

abbrev solid : Option ℕ → ℤ → Entry
solid n z = record { letter = solid_letter; name = n; sum = z }

-- a station and n solids directly in it
abbrev star : ℕ → ℤ → ℤ → List Entry
star n x y = void None x ∷ replicate n (solid (Some 0) y)

-- a station with a pillar
abbrev pair : ℤ → ℤ → List Entry
pair x y = star 1 x y

-- and a void in the pillar
abbrev three : ℤ → ℤ → ℤ → List Entry
three x y z = void None x ∷ solid (Some 0) y ∷ void (Some 1) z ∷ []

-- ---- their sheets

module _ (z : ℤ) (small : nat_abs z < 10 ^ 18) where
  short_sum : length (decimal (nat_abs z)) ≤ 18
  short_sum = below_digits (nat_abs z) 18 (omega arith) small

  void_form : (n : Option ℕ) → ShortName n → InForm (void n z)
  void_form n h = record { capital = record { least = omega arith; most = omega arith }; short_name = h; short_sum = short_sum }

  solid_form : (n : Option ℕ) → ShortName n → InForm (solid n z)
  solid_form n h = record { capital = record { least = omega arith; most = omega arith }; short_name = h; short_sum = short_sum }

short_number : (j : ℕ) → j < 10 ^ 6 → length (decimal j) ≤ 6
short_number j h = below_digits j 6 (omega arith) h

pair_sheet : (x y : ℤ) → nat_abs x < 10 ^ 18 → nat_abs y < 10 ^ 18 → JobSheetOf (job_text (pair x y)) (pair x y)
pair_sheet x y p q = record {
  text = refl;
  short = (short_number 2 (omega arith), tt);
  form = (void_form x p None tt, (solid_form y q (Some 0) (short_number 0 (omega arith)), tt));
}

three_sheet : (x y z : ℤ) → nat_abs x < 10 ^ 18 → nat_abs y < 10 ^ 18 → nat_abs z < 10 ^ 18 → JobSheetOf (job_text (three x y z)) (three x y z)
three_sheet x y z p q r = record {
  text = refl;
  short = (short_number 3 (omega arith), tt);
  form = (void_form x p None tt, (solid_form y q (Some 0) (short_number 0 (omega arith)), (void_form z r (Some 1) (short_number 1 (omega arith)), tt)));
}

-- ---- and their nets, by the two sentences

pair_net : (x y : ℤ) (net : ℕ → ℤ) → Nets (pair x y) (told_sum (pair x y)) net → net 0 ≡ x -ℤ (pos 0 +ℤ (y -ℤ pos 0))
unfolding added
pair_net x y net n = n.of_void 0 (void None x) refl refl ∙ ap (λ u. x -ℤ (pos 0 +ℤ u)) (n.of_solid 1 (solid (Some 0) y) refl refl)

three_net : (x y z : ℤ) (net : ℕ → ℤ) → Nets (three x y z) (told_sum (three x y z)) net → net 0 ≡ x -ℤ ((pos 0 +ℤ (y -ℤ (pos 0 +ℤ (z -ℤ pos 0)))) +ℤ pos 0)
unfolding added
three_net x y z net n =
    n.of_void 0 (void None x) refl refl
    ∙ ap (λ u. x -ℤ ((pos 0 +ℤ u) +ℤ pos 0)) (n.of_solid 1 (solid (Some 0) y) refl refl ∙ ap (λ w. y -ℤ (pos 0 +ℤ w)) (n.of_void 2 (void (Some 1) z) refl refl))

-- ---- each of them passes

-- kinds and names told apart by numbers
abbrev kind_number : Kind → ℕ
kind_number Void = 0
kind_number Solid = 1
kind_number Other = 2

abbrev name_number : Option ℕ → ℕ
name_number None = 0
name_number (Some j) = suc j

kinds_apart : {k l : Kind} → (kind_number k ≡ kind_number l → ⊥) → k ≡ l → ⊥
kinds_apart apart e = apart (ap kind_number e)

names_apart : {n m : Option ℕ} → (name_number n ≡ name_number m → ⊥) → n ≡ m → ⊥
names_apart apart e = apart (ap name_number e)

pair_counted : {x y : ℤ} → Counted (pair x y)
pair_counted = record { some = omega arith; few = omega arith }

-- an entry is the station or one of the solids
of_star : (P : ℕ → Entry → Type 0) (n : ℕ) (x y : ℤ) → P 0 (void None x) → ((k : ℕ) → P (suc k) (solid (Some 0) y)) → (i : ℕ) (e : Entry) → At (star n x y) i e → P i e
of_star P n x y station others zero e a = subst (P 0) a station
of_star P n x y station others (suc k) e a = subst (P (suc k)) (all_one n k a) (others k)
  where
    all_one : (n k : ℕ) → At (replicate n (solid (Some 0) y)) k e → solid (Some 0) y ≡ e
    all_one zero k a = absurd a
    all_one (suc n) zero a = a
    all_one (suc n) (suc k) a = all_one n k a

module _ (x y : ℤ) (small : nat_abs x ≤ most_sum) (small' : nat_abs y ≤ most_sum) (n : ℕ) where
  station_deep : {d : ℕ} → Deep (star n x y) 0 d → d ≤ 1
  station_deep (top e a m) = omega arith
  station_deep (below e a m p) = absurd (names_apart (λ k. (let z = k in omega arith)) (ap (λ d. d.name) a ∙ m))

  solid_deep : (k : ℕ) {d : ℕ} → Deep (star n x y) (suc k) d → d ≤ 8
  solid_deep k (top e a m) = omega arith
  solid_deep k (below {j = j} {d = d} e a m p) =
      let named : e.name ≡ Some 0 = of_star (λ i c. (i ≡ 0 → ⊥) → c.name ≡ Some 0) n x y (λ z. absurd (z refl)) (λ k z. refl) (suc k) e a (λ z. (let q = z in omega arith)) in
      let first : ◌≡◌ {A = ℕ} (suc j) 1 = ap name_number (sym m ∙ named) in
      let zeroth : j ≡ 0 = omega arith in
      let h = station_deep (subst (λ (i : ℕ). Deep (star n x y) i d) zeroth p) in
      omega arith

  star_alternates : (k j : ℕ) (d : Entry) → Some 0 ≡ Some j → At (star n x y) j d → ¬ (kind (solid (Some 0) y) ≡ kind d)
  star_alternates k zero d m a h = kinds_apart (λ q. (let z = q in omega arith)) (h ∙ sym (ap kind a))
  star_alternates k (suc j) d m a h = names_apart (λ q. (let z = q in omega arith)) m

  star_passing : Passing (star n x y)
  star_passing = record {
    marked = of_star (λ i e. ¬ (kind e ≡ Other)) n x y (kinds_apart (λ q. (let z = q in omega arith))) (λ k. kinds_apart (λ q. (let z = q in omega arith)));
    named = of_star (λ i e. NameGood i e.name) n x y tt (λ k. omega arith);
    alternates = of_star (λ i e. (j : ℕ) (d : Entry) → e.name ≡ Some j → At (star n x y) j d → ¬ (kind e ≡ kind d)) n x y (λ j d m a h. names_apart (λ q. (let z = q in omega arith)) m) star_alternates;
    shallow = of_star (λ i e. (d : ℕ) → Deep (star n x y) i d → d ≤ 8) n x y (λ d p. (let h = station_deep p in omega arith)) (λ k d p. solid_deep k p);
    sums = of_star (λ i e. nat_abs e.sum ≤ most_sum) n x y small (λ k. small');
  }

-- no entry stands deeper than its own place
place_deep : {es : List Entry} → Every Named es → {i d : ℕ} → Deep es i d → d ≤ suc i
place_deep named (top e a m) = omega arith
place_deep {es} named {i} (below {j = j} e a m p) = let g = named i e a in let h = place_deep named p in go i (subst (NameGood i) m g) h
  where
    go : (i : ℕ) {d : ℕ} → NameGood i (Some j) → d ≤ suc j → suc d ≤ suc i
    go zero g h = absurd g
    go (suc i) g h = omega arith

module _ (x y z : ℤ) (small : nat_abs x ≤ most_sum) (small' : nat_abs y ≤ most_sum) (small'' : nat_abs z ≤ most_sum) where
  of_three : (P : ℕ → Entry → Type 0) → P 0 (void None x) → P 1 (solid (Some 0) y) → P 2 (void (Some 1) z) → (i : ℕ) (e : Entry) → At (three x y z) i e → P i e
  of_three P a b c zero e q = subst (P 0) q a
  of_three P a b c (suc zero) e q = subst (P 1) q b
  of_three P a b c (suc (suc zero)) e q = subst (P 2) q c
  of_three P a b c (suc (suc (suc i))) e q = absurd q

  three_named : Every Named (three x y z)
  three_named = of_three (λ i e. NameGood i e.name) tt (omega arith) (omega arith)

  three_passing : Passing (three x y z)
  three_passing = record {
    marked = of_three (λ i e. ¬ (kind e ≡ Other)) (kinds_apart (λ q. (let k = q in omega arith))) (kinds_apart (λ q. (let k = q in omega arith))) (kinds_apart (λ q. (let k = q in omega arith)));
    named = three_named;
    alternates = of_three (λ i e. (j : ℕ) (d : Entry) → e.name ≡ Some j → At (three x y z) j d → ¬ (kind e ≡ kind d)) (λ j d m a h. names_apart (λ q. (let k = q in omega arith)) m) pillar room;
    shallow = of_three (λ i e. (d : ℕ) → Deep (three x y z) i d → d ≤ 8) (λ d p. (let h = place_deep three_named p in omega arith)) (λ d p. (let h = place_deep three_named p in omega arith)) (λ d p. (let h = place_deep three_named p in omega arith));
    sums = of_three (λ i e. nat_abs e.sum ≤ most_sum) small small' small'';
  }
    where
      pillar : (j : ℕ) (d : Entry) → Some 0 ≡ Some j → At (three x y z) j d → ¬ (kind (solid (Some 0) y) ≡ kind d)
      pillar zero d m a h = kinds_apart (λ q. (let k = q in omega arith)) (h ∙ sym (ap kind a))
      pillar (suc j) d m a h = names_apart (λ q. (let k = q in omega arith)) m

      room : (j : ℕ) (d : Entry) → Some 1 ≡ Some j → At (three x y z) j d → ¬ (kind (void (Some 1) z) ≡ kind d)
      room zero d m a h = names_apart (λ q. (let k = q in omega arith)) m
      room (suc zero) d m a h = kinds_apart (λ q. (let k = q in omega arith)) (h ∙ sym (ap kind a))
      room (suc (suc j)) d m a h = names_apart (λ q. (let k = q in omega arith)) m

-- ---- the impostors

two_figures : (a b : ℕ) → pos a ≡ pos b → (a ≡ b → ⊥) → ⊥
two_figures a b e apart = apart (ap nat_abs e)

two_below : (a b : ℕ) → neg_ℤ (pos a) ≡ neg_ℤ (pos b) → (a ≡ b → ⊥) → ⊥
two_below a b e apart = apart (sym (abs_neg (pos a)) ∙ ap nat_abs e ∙ abs_neg (pos b))

-- each entry rounded before it is taken off: one cubic metre for a sum of 3,000,000, and none taken off it for one of 2,999,999; the net is a
-- six-millionth, and its figure 0
pub each_rounded : JobAnswered (job_text (pair (pos 3000000) (pos 2999999))) (Ok (pos 0)) × ¬ JobAnswered (job_text (pair (pos 3000000) (pos 2999999))) (Ok (figure (pos 3000000) -ℤ figure (pos 2999999)))
unfolding figure
each_rounded =
    let s = pair_sheet (pos 3000000) (pos 2999999) (omega arith) (omega arith) in
    let n = pair_net (pos 3000000) (pos 2999999) in
    (answers s pair_counted (star_passing (pos 3000000) (pos 2999999) (omega arith) (omega arith) 1) _ n, λ a. two_figures 1 0 (told_net _ a s n) (λ e. (let k = e in omega arith)))

-- a solid added: 2 for a station of 1 with a pillar of 1, where nothing is left
pub solid_added : JobAnswered (job_text (pair (pos 6000000) (pos 6000000))) (Ok (pos 0)) × ¬ JobAnswered (job_text (pair (pos 6000000) (pos 6000000))) (Ok (figure (pos 6000000 +ℤ pos 6000000)))
unfolding figure
solid_added =
    let s = pair_sheet (pos 6000000) (pos 6000000) (omega arith) (omega arith) in
    let n = pair_net (pos 6000000) (pos 6000000) in
    (answers s pair_counted (star_passing (pos 6000000) (pos 6000000) (omega arith) (omega arith) 1) _ n, λ a. two_figures 2 0 (told_net _ a s n) (λ e. (let k = e in omega arith)))

-- what stands two levels down taken off again: 1 for the station of 3 whose net is 2
pub taken_off_again : JobAnswered (job_text (three (pos 18000000) (pos 12000000) (pos 6000000))) (Ok (pos 2)) × ¬ JobAnswered (job_text (three (pos 18000000) (pos 12000000) (pos 6000000))) (Ok (figure ((pos 18000000 -ℤ (pos 12000000 -ℤ pos 6000000)) -ℤ pos 6000000)))
unfolding figure
taken_off_again =
    let s = three_sheet (pos 18000000) (pos 12000000) (pos 6000000) (omega arith) (omega arith) (omega arith) in
    let n = three_net (pos 18000000) (pos 12000000) (pos 6000000) in (
      answers s (record { some = omega arith; few = omega arith }) (three_passing (pos 18000000) (pos 12000000) (pos 6000000) (omega arith) (omega arith) (omega arith)) _ n,
      λ a. two_figures 1 2 (told_net _ a s n) (λ e. (let k = e in omega arith)),
    )

-- ---- a sum taken modulo 2^64

-- 32 of the largest sums pass 2^64
abbrev largest : ℕ
largest = most_sum

module _ (x y : ℤ) where
  solids_form : (n : ℕ) → nat_abs y < 10 ^ 18 → AllInForm (replicate n (solid (Some 0) y))
  solids_form zero q = tt
  solids_form (suc n) q = (solid_form y q (Some 0) (short_number 0 (omega arith)), solids_form n q)

  solid_at : (n k : ℕ) → k < n → At (replicate n (solid (Some 0) y)) k (solid (Some 0) y)
  solid_at zero k h = absurd (omega arith)
  solid_at (suc n) zero h = refl
  solid_at (suc n) (suc k) h = solid_at n k (omega arith)

  -- nothing stands in a solid, and every solid in the station
  no_voids : (n i m : ℕ) → stands is_void (replicate n (solid (Some 0) y)) i m ≡ false
  no_voids zero i m = refl
  no_voids (suc n) i zero = refl
  no_voids (suc n) i (suc m) = no_voids n i m

  none_in : (n i m : ℕ) → stands is_void (star n x y) i m ≡ false
  none_in n i zero = refl
  none_in n i (suc m) = no_voids n i m

  solids_in : (n m : ℕ) → m < n → stands is_solid (replicate n (solid (Some 0) y)) 0 m ≡ true
  solids_in zero m h = absurd (omega arith)
  solids_in (suc n) zero h = refl
  solids_in (suc n) (suc m) h = solids_in n m (omega arith)

  its_sum : (n k : ℕ) → k < n → get_or (map (λ e. e.sum) (replicate n (solid (Some 0) y))) k (pos 0) ≡ y
  its_sum n k h = at_get (λ e. e.sum) (pos 0) (replicate n (solid (Some 0) y)) k (solid (Some 0) y) (solid_at n k h)

  leaf : (n : ℕ) (net : ℕ → ℤ) → Nets (star n x y) (told_sum (star n x y)) net → (k : ℕ) → k < n → net (suc k) ≡ y -ℤ pos 0
  leaf n net nets k h =
      nets.of_solid (suc k) (solid (Some 0) y) (solid_at n k h) refl
      ∙ (λ i. its_sum n k h i -ℤ (added_agree net net (stands is_void (star n x y) (suc k)) (λ m. false) (length (star n x y)) (λ m q. none_in n (suc k) m) (λ m q t. refl) ∙ added_nothing net (length (star n x y))) i)

star_sum : (x : ℤ) (n : ℕ) (net : ℕ → ℤ) → Nets (star n x (pos largest)) (told_sum (star n x (pos largest))) net → (m : ℕ) → m ≤ n → added net (stands is_solid (star n x (pos largest)) 0) (suc m) ≡ pos (m * largest)
unfolding added
star_sum x n net nets zero h = refl
star_sum x n net nets (suc m) h =
    let a = star_sum x n net nets m (omega arith) in
    let b = ap (λ t. cond t (net (suc m)) (pos 0)) (solids_in x (pos largest) n m h) ∙ leaf x (pos largest) n net nets m h in
    let e : m * largest + largest ≡ suc m * largest = omega arith in
    (λ i. a i +ℤ b i) ∙ ap pos e

module _ (n : ℕ) where
  star_sheet : n < 10 ^ 5 → JobSheetOf (job_text (star n (neg_ℤ (pos largest)) (pos largest))) (star n (neg_ℤ (pos largest)) (pos largest))
  star_sheet h = record {
    text = refl;
    short = (short_number (length (star n (neg_ℤ (pos largest)) (pos largest))) (omega (arith, length-replicate n (solid (Some 0) (pos largest)))), tt);
    form = (void_form (neg_ℤ (pos largest)) (omega arith) None tt, solids_form (neg_ℤ (pos largest)) (pos largest) n (omega arith));
  }

  star_net : (net : ℕ → ℤ) → Nets (star n (neg_ℤ (pos largest)) (pos largest)) (told_sum (star n (neg_ℤ (pos largest)) (pos largest))) net → net 0 ≡ neg_ℤ (pos largest) -ℤ pos (n * largest)
  star_net net nets =
      nets.of_void 0 (void None (neg_ℤ (pos largest))) refl refl
      ∙ ap (λ z. neg_ℤ (pos largest) -ℤ z) (ap (λ (m : ℕ). added net (stands is_solid (star n (neg_ℤ (pos largest)) (pos largest)) 0) (suc m)) (length-replicate n (solid (Some 0) (pos largest))) ∙ star_sum (neg_ℤ (pos largest)) n net nets n (omega arith))

-- a station of the largest sum below zero with 31 solids of the largest above it: the net is 32 of them below zero, which past 2^64 would come
-- round to another figure
pub comes_round : JobAnswered (job_text (star 31 (neg_ℤ (pos largest)) (pos largest))) (Ok (neg_ℤ (pos 4096000000000))) × ¬ JobAnswered (job_text (star 31 (neg_ℤ (pos largest)) (pos largest))) (Ok (figure (neg_ℤ (pos (32 * largest % 2 ^ 64)))))
unfolding figure
comes_round =
    let s = star_sheet 31 (omega arith) in (
      answers s (record { some = omega arith; few = omega arith }) (star_passing (neg_ℤ (pos largest)) (pos largest) (omega arith) (omega arith) 31) _ (star_net 31),
      λ a. two_below 1021542654382 4096000000000 (told_net _ a s (star_net 31)) (λ e. (let k = e in omega arith)),
    )

-- ---- the order of 22 and 23 exchanged

-- a void that stands in a void, and a solid that names no earlier entry: 22 is asked first, so 23 is not the answer
abbrev muddle : List Entry
muddle = void None (pos 0) ∷ void (Some 0) (pos 0) ∷ solid (Some 7) (pos 0) ∷ []

muddle_sheet : JobSheetOf (job_text muddle) muddle
muddle_sheet = record {
  text = refl;
  short = (short_number 3 (omega arith), tt);
  form = (void_form (pos 0) (omega arith) None tt, (void_form (pos 0) (omega arith) (Some 0) (short_number 0 (omega arith)), (solid_form (pos 0) (omega arith) (Some 7) (short_number 7 (omega arith)), tt)));
}

muddle_size : length (job_text muddle) ≡ 30
unfolding decimal digits
muddle_size = refl

muddle_marked : Every Marked muddle
muddle_marked zero e a = rw (sym a) (kinds_apart (λ q. (let k = q in omega arith)))
muddle_marked (suc zero) e a = rw (sym a) (kinds_apart (λ q. (let k = q in omega arith)))
muddle_marked (suc (suc zero)) e a = rw (sym a) (kinds_apart (λ q. (let k = q in omega arith)))
muddle_marked (suc (suc (suc i))) e a = absurd a

misnamed : ¬ Every Named muddle
misnamed every = let h = every 2 (solid (Some 7) (pos 0)) refl in omega arith

misnamed_first : JobFirst (job_text muddle) (Err JobName)
unfolding job_refusals
misnamed_first = given_first verdicts (
    (λ h. (let k = muddle_size in omega arith))
    nor (λ none. none muddle muddle_sheet)
    nor (λ f. fails_there muddle_sheet f (record { some = omega arith; few = omega arith }))
    nor (λ f. fails_there muddle_sheet f muddle_marked)
    nor none_yet) (fails_of muddle_sheet misnamed)

pub asked_too_early : JobAnswered (job_text muddle) (Err JobName) × ¬ JobAnswered (job_text muddle) (Err JobAlternation)
asked_too_early = (refused misnamed_first refl, λ a. (let e = one_answer (refused misnamed_first refl) a in cc))
