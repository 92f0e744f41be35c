-- Flipping a list has one outcome, since its tables are stages, where a flip is one; and what it leaves, done or stopped, in table and log.
use mathlib.Core.Path.{◌≡◌, refl, sym, ◌∙◌, ap}
use mathlib.Core.List.{List, [], ◌∷◌, ◌++◌, append-nil, append_assoc}
use Prim.Native.Nat.{ℕ, suc, ◌*◌, ◌≤◌, ◌<◌}
use native.Mathlib.Omega.{arith}
use lib.ListN.{length, take, drop}
use lib.Seq.{length-take-le, drop_at}
use Rattle.std.specs.Prelude.{Ok, Err, Result}
use Rattle.follow.specs.Follow.{Outcome}
use Rattle.follow.specs.Leads.{Leads, no_step, one_step}
use Rattle.follow.proofs.Leading.{leads_keep}
use Rattle.follow.proofs.Following as following
use Rattle.follow.proofs.Following.{Plain, outcome_one}
use Rattle.follow.proofs.Within.{within, outcome_within}
use Rattle.follow.proofs.Upto.{Upto, outcome_upto}
use Rattle.surface.specs.Rows.{Row, rows, flat}
use Rattle.surface.specs.Table.{Arrow, ◌⇒◌}
use Rattle.surface.specs.Stage.{Stage}
use Rattle.surface.proofs.Flat.{rows_flat}
use Rattle.flips.specs.Flip.{Flip, Flips}
use Rattle.flips.specs.Kept.{StageKept}
use Rattle.flips.proofs.Keeping.{kept_none, kept_on, flip_keeps}
use Rattle.flips.proofs.Flips.{flip_one, missing_blocked, missing_flips, blocked_flips}
use Rattle.refusal.specs.declared.Refusal.{Refusal}
use Rattle.refusal.specs.First.{First}
use Rattle.refusal.proofs.Laws.{verdicts, first_one, refused_one, refused_passes, rest_decides, passed, none_yet, ◌nor◌}
use Rattle.faults.proofs.Order.{after_2, stage_passes}
use Rattle.laid.specs.Laid.{laid, count, items, in_front}
use Rattle.laid.proofs.Laws.{first_length, laid_length, front_laid, front_length}
use Rattle.flipped.specs.declared.FlipRefusal.{FlipRefusal}
use Rattle.flipped.specs.declared.FlipHalt.{FlipHalt}
use Rattle.flipped.specs.declared.FlipHalt.TheVariants.{Refused}
use Rattle.flipped.specs.Answer.{told, FlipsTold}
use Rattle.flipped.proofs.Telling.{flipped_apart, did}
use Rattle.fliplog.specs.Layout.{edge_list, width, flip_log}
use Rattle.fliplog.proofs.Logging.{flip_log_sound}
use Rattle.flip.specs.Refused.{missing, blocked}
use Rattle.fliplist.specs.Outcome.{FlipFits, flip_room, flip_refusals, Reached, FlipsOn, FlipStops, TableAndLog, flipping, FlippedAs}
use Rattle.fliplist.specs.Left.{FlipsLeft}
use Rattle.fliplist.proofs.Keeping.{whole_table, kept_flat}

module _ (n : ℕ) where
  -- the table is a stage
  abbrev pub OnStage : Reached → Type 0
  OnStage s = Stage n s.table

  keeps : (s s' : Reached) (i : Arrow) → OnStage s → FlipsOn s i s' → StageKept n s.table s'.table
  keeps s s' (a ⇒ b) z f = flip_keeps z f.1

  -- flips keep a stage
  pub flips_keep : {s s' : Reached} {es : List Arrow} → OnStage s → Leads FlipsOn s es s' → StageKept n s.table s'.table
  flips_keep {s} z w = leads_keep (λ (x : Reached). StageKept n s.table x.table) (λ x y i m f. kept_on m (keeps x y i m.after f)) (kept_none z) w

  step : (s s₁ s₂ : Reached) (i : Arrow) → OnStage s → FlipsOn s i s₁ → FlipsOn s i s₂ → s₁ ≡ s₂
  step s s₁ s₂ (a ⇒ b) z f g =
      let e = flip_one z f.1 g.1 in
      λ j. record { table = e.1 j; log = (f.2 ∙ ap (λ k. s.log ++ (k ∷ [])) e.0 ∙ sym g.2) j }

  apart : (s s' : Reached) (i : Arrow) (r : FlipRefusal) → OnStage s → FlipStops s i r → FlipsOn s i s' → ⊥
  apart s s' (a ⇒ b) r z (missing m e) f = missing_flips m f.1
  apart s s' (a ⇒ b) r z (blocked j e) f = blocked_flips z j f.1

  reason : (s : Reached) (i : Arrow) (r q : FlipRefusal) → FlipStops s i r → FlipStops s i q → r ≡ q
  reason s (a ⇒ b) r q (missing m e) (missing o f) = e ∙ sym f
  reason s (a ⇒ b) r q (missing m e) (blocked j f) = absurd (missing_blocked m j)
  reason s (a ⇒ b) r q (blocked j e) (missing m f) = absurd (missing_blocked m j)
  reason s (a ⇒ b) r q (blocked j e) (blocked o f) = e ∙ sym f

-- an edge of a stage is flipped to one table with one record, or is refused by one number
pub flipping_plain : (n : ℕ) (t edges l : List ℕ) → Plain (within (OnStage n) (flipping n t edges l))
flipping_plain n t edges l = record {
  refusal = λ f g. refused_one (first_one verdicts _ f g);
  passing = λ f g. refused_passes (first_one verdicts _ f g.0);
  step = λ s s₁ s₂ i f g. step n s s₁ s₂ i f.0 f.1 g.1;
  apart = λ {s} {t = s'} {i} {r} f g. apart n s s' i r f.0 f.1 g.1;
  reason = λ {s} {i} {r} {q} f g. reason n s i r q f.1 g.1;
}

module _ {n : ℕ} {t edges l : List ℕ} where
  on_stages : {a : Result ℕ FlipHalt} {t' l' : List ℕ} → FlippedAs n t edges l a t' l' → Outcome (within (OnStage n) (flipping n t edges l)) a (record { table = t'; log = l' })
  on_stages w = outcome_within (OnStage n) (flipping n t edges l) (λ h. h.1) (λ s s' i z f. (keeps n s s' i z f).after) w.outcome

  -- no second outcome satisfies the same words
  pub flipped_one : {a b : Result ℕ FlipHalt} {t₁ t₂ l₁ l₂ : List ℕ} → FlippedAs n t edges l a t₁ l₁ → FlippedAs n t edges l b t₂ l₂ → (a ≡ b) × (t₁ ≡ t₂) × (l₁ ≡ l₂)
  flipped_one v w =
      let e = outcome_one (within (OnStage n) (flipping n t edges l)) (flipping_plain n t edges l) (on_stages v) (on_stages w) in
      (e.0, ap (λ (b : TableAndLog). b.table) e.1, ap (λ (b : TableAndLog). b.log) e.1)

  -- what is refused before any flip is unchanged
  pub refused_same : {r : Refusal} {t' l' : List ℕ} → FlippedAs n t edges l (Err (Refused r)) t' l' → (t' ≡ t) × (l' ≡ l)
  refused_same w =
      let e = following.refused_same (flipping n t edges l) flipped_apart w.outcome in
      (ap (λ (b : TableAndLog). b.table) e, ap (λ (b : TableAndLog). b.log) e)

-- a stage within its counts and with room passes
pub flip_passes : (n : ℕ) (t edges l : List ℕ) → FlipFits n t edges → flip_room edges ≤ length l → Stage n (rows t) → First (flip_refusals n t edges l) (Ok tt)
flip_passes n t edges l fits h s = unfold flip_refusals in
    rest_decides verdicts ((λ k. k fits) nor (λ k. omega arith) nor none_yet) _ (after_2 n t (Ok tt) fits.counts (stage_passes t fits.counts.table.threes n s))

not_less : {i j : ℕ} → ¬ (i < j) → j ≤ i
not_less h = omega arith

-- what passes is whole rows, and has room
module _ (n : ℕ) (t edges l : List ℕ) (f : First (flip_refusals n t edges l) (Ok tt)) where
  passed_table : flat (rows t) ≡ t
  unfolding flip_refusals
  passed_table = whole_table n t (λ m. (passed verdicts _ _ f).0 (λ k. m k.counts))

  passed_room : flip_room edges ≤ length l
  unfolding flip_refusals
  passed_room = not_less (passed verdicts _ _ (passed verdicts _ _ f).1).0

-- the step of a record: some flip logs it
abbrev pub LoggedBy : List Row → Flip → List Row → Type 0
LoggedBy T k T' = (a : ℕ) × (b : ℕ) × Flips T a b k T'

-- flips log a record each
pub logged : {s s' : Reached} (es : List Arrow) → Leads FlipsOn s es s' → (ks : List Flip) × Leads LoggedBy s.table ks s'.table × (s'.log ≡ s.log ++ ks) × (length ks ≡ length es)
logged {s} [] (no_step e) = ([], no_step (ap (λ (z : Reached). z.table) e), ap (λ (z : Reached). z.log) (sym e) ∙ sym (append-nil s.log), refl)
logged {s} ((a ⇒ b) ∷ es) (one_step f w) =
    let r = logged es w in
    (f.0 ∷ r.0, one_step (a, b, f.1) r.1, r.2 ∙ ap (λ z. z ++ r.0) f.2 ∙ append_assoc s.log (f.0 ∷ []) r.0, ap suc r.3)

-- k flips told
module _ {n : ℕ} {t edges l : List ℕ} {a : Result ℕ FlipHalt} {t' l' : List ℕ} (w : FlippedAs n t edges l a t' l') {k : ℕ} (d : FlipsTold k (told a)) where
  led : (First (flip_refusals n t edges l) (Ok tt) × Stage n (rows t)) × (s : Reached) × Upto (flipping n t edges l) k s × (record { table = t'; log = l' } ≡ (flipping n t edges l).left s)
  led = outcome_upto (flipping n t edges l) flipped_apart (did a d) w.outcome

  passes : First (flip_refusals n t edges l) (Ok tt)
  passes = led.0.0

  -- where they lead
  abbrev s : Reached
  s = led.1

  is_table : t' ≡ flat s.table
  is_table = ap (λ (b : TableAndLog). b.table) led.3

  is_log : l' ≡ in_front flip_log s.log l
  is_log = ap (λ (b : TableAndLog). b.log) led.3

  state : record { table = rows t'; log = s.log } ≡ s
  state = λ j. record { table = (ap rows is_table ∙ rows_flat s.table) j; log = s.log }

  listed : k ≤ count edge_list edges
  listed = let h = led.2.within in let e = first_length edge_list (count edge_list edges) edges in omega arith

  many : length s.log ≡ k
  many = let r = logged (take k (items edge_list edges)) led.2.led in ap length r.2 ∙ r.3 ∙ length-take-le k (items edge_list edges) led.2.within

  inside : width * length s.log ≤ length l
  inside = let h = passed_room n t edges l passes in let i = listed in let j = many in omega arith

  front : take (width * k) l' ≡ laid flip_log s.log
  front = (λ j. take (width * sym many j) (is_log j)) ∙ front_laid flip_log flip_log_sound s.log l

  past : drop (width * k) l' ≡ drop (width * k) l
  past =
      (λ j. drop (width * sym many j) (is_log j))
      ∙ drop_at (laid flip_log s.log) (drop (width * length s.log) l) (width * length s.log) (laid_length flip_log flip_log_sound s.log)
      ∙ ap (λ (m : ℕ). drop (width * m) l) many

  kept : StageKept n (rows t) s.table
  kept = flips_keep n led.0.1 led.2.led

  -- the table is whole rows
  pub flipped_table : flat (rows t) ≡ t
  flipped_table = passed_table n t edges l passes

  -- the first k listed edges are flipped, and their records stand in front of the log's room
  pub flips_left : FlipsLeft n t edges l k t' l'
  flips_left =
      let e = kept_flat kept flipped_table is_table in
      record {
        listed = listed;
        log = s.log;
        flips = rw state led.2.led;
        many = many;
        front = front;
        past = past;
        same_table = e.1;
        same_room = ap length is_log ∙ front_length flip_log flip_log_sound s.log l inside;
        kept = e.0;
      }
