-- Of any log that leads from a table to what stands in it, and so demand 2 of the log that thinning leaves: grown back it restores the first table, number
-- for number, and replayed it gives the last stage.
use mathlib.Core.Path.{◌≡◌, refl, sym, ◌∙◌, ap}
use mathlib.Core.List.{List, [], ◌∷◌, ◌++◌, append-nil}
use Prim.Native.Nat.{ℕ, zero, suc, ◌+◌, ◌-◌, ◌*◌, ◌/◌, ◌%◌, ◌≤◌}
use native.Mathlib.Nat.{mul-div_cancel_left}
use native.Mathlib.Omega.{arith}
use lib.IntN.{ℤ, pos}
use lib.ListN.{length, take, drop, replicate, length-append, length-replicate}
use lib.Seq.{drop-append-add}
use Rattle.std.specs.Prelude.{Ok, Result}
use Rattle.surface.specs.Rows.{Row, rows, flat}
use Rattle.surface.specs.Stage.{Stage}
use Rattle.surface.specs.Record.{Record, Replayed}
use Rattle.surface.proofs.Flat.{flat_length}
use Rattle.refusal.specs.Told as answers
use Rattle.faults.specs.Counts.{corners}
use Rattle.faults.proofs.Opposites.{stage_rows, stage_corners}
use Rattle.slots.proofs.Slots.{whole_rows}
use Rattle.run.specs.Run.{Taken}
use Rattle.run.proofs.Main.{taken_replayed, replayed_stage, replayed_rows}
use Rattle.record.specs.Layout.{width, log_of, count, room_for}
use Rattle.record.proofs.Log.{log_length, records_log}
use Rattle.length.specs.declared.Order.{Order}
use Rattle.least.specs.Limited.{Allowed}
use Rattle.thin.specs.Order.{Asked}
use Rattle.thin.specs.Thin.{Thinned}
use Rattle.thin.specs.Run.{RunOf}
use Rattle.thin.proofs.Main.{thinned_run, told_done}
use Rattle.record.specs.Front.{standing, filled, zeroed}
use Rattle.record.proofs.Front.{standing_front, zeroed_whole}
use Rattle.regrow.specs.declared.Halt.{Halt}
use Rattle.regrow.specs.Answer.{told}
use Rattle.growable.specs.Refusals.{GrowFits, room_need}
use Rattle.regrow.specs.Outcome.{GrownAs}
use Rattle.regrow.proofs.Main.{restores}
use Rattle.replay.specs.Outcome.{ReplayFits, ReplayedAs}
use Rattle.follow.specs.Leads.{no_step}
use Rattle.follow.proofs.Leading.{leads_one, leads_cut}
use Rattle.surface.proofs.Main.{left}
use Rattle.replay.proofs.Main.{replays_whole}
use Rattle.promises.specs.Thinning.{DoneWith}
use Rattle.promises.specs.Stages.{StageOf}
use Rattle.promises.proofs.Logged.{whole_log, front_log, rest_log}

drop_zeros : (m n : ℕ) → drop m (replicate {A = ℕ} n 0) ≡ replicate (n - m) 0
drop_zeros zero n = let e : n ≡ n - 0 = omega arith in ap (λ k. replicate k 0) e
drop_zeros (suc m) zero = let e : 0 ≡ 0 - suc m = omega arith in ap (λ k. replicate k 0) e
drop_zeros (suc m) (suc n) = let e : n - m ≡ suc n - suc m = omega arith in drop_zeros m n ∙ ap (λ k. replicate k 0) e

-- records m lead from the table t, a stage of whole rows, to the rows `last`, which t' holds; whoever wrote them
pub record Led (n : ℕ) (t : List ℕ) (m : List Record) (last : List Row) (t' : List ℕ) : Type 0 where
  pub whole : length t % 3 ≡ 0
  pub first : Stage n (rows t)
  pub leads : Replayed (rows t) m last
  pub table : t' ≡ zeroed last t

pub records_many : (m : List Record) → count (log_of m) ≡ length m
records_many m = ap (λ z. z / width) (log_length m) ∙ mul-div_cancel_left (length m) {n = width} (omega arith)

module _ {n : ℕ} {t : List ℕ} {m : List Record} {last : List Row} {t' : List ℕ} (w : Led n t m last t') where
  many : 3 * length (rows t) ≡ length t
  many = whole_rows t w.whole

  last_stage : Stage n last
  last_stage = replayed_stage w.first w.leads

  pub rows_left : {k : ℕ} → length m ≡ k → length (rows t) - 2 * k ≡ length last
  rows_left e = let a = replayed_rows w.first w.leads in omega arith

  stands : standing (length last) t' ≡ last
  stands = ap (standing (length last)) w.table ∙ standing_front (length last) last (replicate (length t - length (flat last)) 0) refl

  -- what is left in front is a stage
  pub led_leaves : {k : ℕ} → length m ≡ k → StageOf n (length (rows t) - 2 * k) t'
  led_leaves e = rw (rows_left e) (record { many = ap length stands; stage = rw stands last_stage })

  module _ (p q : List Record) (e : m ≡ p ++ q) {T₁ : List Row} (begun : Replayed (rows t) p T₁) where
    there : Stage n T₁
    there = replayed_stage w.first begun

    -- the rest of the log leads on to the last stage
    pub leads_rest : Replayed T₁ q last
    leads_rest = let c = leads_cut p (rw e at w.leads) in rw (leads_one (λ T T₁ T₂ k r q. left r q) c.1 begun) at c.2

    fits : GrowFits n (length last) (log_of q)
    fits = record {
      rows = stage_rows last_stage;
      corners = stage_corners last_stage;
      whole = let z = log_length q in omega arith;
      most = let a = records_many q in let b = replayed_rows there leads_rest in let c = there.most in omega arith;
    }

    enough : room_need (length last) (log_of q) ≤ length t'
    enough =
        let a = records_many q in
        let b = replayed_rows there leads_rest in
        let c = replayed_rows w.first begun in
        let f = ap length w.table ∙ length-append (flat last) (replicate (length t - length (flat last)) 0) in
        let z = length-replicate {A = ℕ} (length t - length (flat last)) 0 in
        let l = flat_length last in
        omega (arith, many)

    filled_left : filled T₁ t' ≡ zeroed T₁ t
    filled_left =
        let L = flat last in
        let a = flat_length T₁ in
        let b = flat_length last in
        let c = replayed_rows there leads_rest in
        let e : 3 * length T₁ ≡ length L + (3 * length T₁ - length L) = omega arith in
        let f : length t - length L - (3 * length T₁ - length L) ≡ length t - length (flat T₁) = omega arith in
        ap (λ z. flat T₁ ++ z)
        (ap (drop (3 * length T₁)) w.table
        ∙ ap (λ z. drop z (zeroed last t)) e
        ∙ drop-append-add L (replicate (length t - length L) 0) (3 * length T₁ - length L)
        ∙ drop_zeros (3 * length T₁ - length L) (length t - length L)
        ∙ ap (λ z. replicate z 0) f)

    -- the log after p grown back in any room in which the last stage stands: the rows before it
    pub led_restored_in : {k : ℕ} {room log : List ℕ} → length m ≡ k → log ≡ log_of q → standing (length (rows t) - 2 * k) room ≡ standing (length (rows t) - 2 * k) t' →
        room_need (length (rows t) - 2 * k) (log_of q) ≤ length room → {a : Result ℕ Halt} {r : List ℕ} → GrownAs n (length (rows t) - 2 * k) room log a r → (told a ≡ answers.done (pos (length q) ∷ [])) × (r ≡ filled T₁ room)
    led_restored_in {room = room} c l same h g =
        let s : standing (length last) room ≡ last = rw (rows_left c) at same ∙ stands in
        let o = restores fits (rw (rows_left c) at h) there (rw (records_log q, s) leads_rest) (rw (rows_left c, l) at g) in
        (ap told (o.0 ∙ ap Ok (records_many q)), o.1)

    -- where its last stage was left: the table before it
    pub led_restored_from : {k : ℕ} {log : List ℕ} → length m ≡ k → log ≡ log_of q → {a : Result ℕ Halt} {r : List ℕ} → GrownAs n (length (rows t) - 2 * k) t' log a r →
        (told a ≡ answers.done (pos (length q) ∷ [])) × (r ≡ zeroed T₁ t)
    led_restored_from c l g = let o = led_restored_in c l refl (rw (rows_left c) enough) g in (o.0, o.1 ∙ filled_left)

    -- p replayed on the first table: the stage it leads to
    pub led_replayed_to : {log : List ℕ} → log ≡ log_of p → {a : Result ℕ Halt} {r : List ℕ} → ReplayedAs n t log a r → (told a ≡ answers.done (pos (length p) ∷ [])) × (r ≡ zeroed T₁ t)
    led_replayed_to l g =
        let o = replays_whole {T' = T₁} forth w.first (rw (records_log p) begun) (rw l at g) in
        (ap told (o.0 ∙ ap Ok (records_many p)), o.1)
      where
        forth : ReplayFits n t (log_of p)
        forth = record {
          counts = record { table = record { threes = w.whole; count = stage_rows w.first }; count = stage_corners w.first };
          whole = let z = log_length p in omega arith;
          least = let a = records_many p in let b = replayed_rows w.first begun in let c = there.least in omega arith;
        }

  -- the whole log grown back restores the first table, number for number
  pub led_restored : {k : ℕ} {log : List ℕ} → length m ≡ k → log ≡ log_of m → {a : Result ℕ Halt} {r : List ℕ} → GrownAs n (length (rows t) - 2 * k) t' log a r →
      (told a ≡ answers.done (pos k ∷ [])) × (r ≡ t)
  led_restored c l g =
      let o = led_restored_from [] m refl (no_step refl) c l g in
      (o.0 ∙ ap (λ j. answers.done (pos j ∷ [])) c, o.1 ∙ zeroed_whole t (sym many))

  -- and replayed on the first table leaves what it left
  pub led_replayed : {k : ℕ} {log : List ℕ} → length m ≡ k → log ≡ log_of m → {a : Result ℕ Halt} {r : List ℕ} → ReplayedAs n t log a r → (told a ≡ answers.done (pos k ∷ [])) × (r ≡ t')
  led_replayed c l g =
      let o = led_replayed_to m [] (sym (append-nil m)) w.leads l g in
      (o.0 ∙ ap (λ j. answers.done (pos j ∷ [])) c, o.1 ∙ sym w.table)

-- ---- of thinning's log

pub run_led : {d : Asked} {xs : List ℤ} {t l : List ℕ} {k : ℕ} {t' l' : List ℕ} (w : RunOf d xs t l k t' l') → Led (corners xs) t w.log w.last t'
run_led w = record { whole = w.whole; first = w.skin.stage; leads = taken_replayed w.run.taken; table = w.table }

-- the log from record i on, i being how many p are, grown back in any room in which the last stage stands: the rows before record i
pub restored_in : {d : Asked} {xs : List ℤ} {t l : List ℕ} {k : ℕ} {t' l' : List ℕ} (w : RunOf d xs t l k t' l') (p q : List Record) → w.log ≡ p ++ q →
    {T₁ : List Row} → Taken (Allowed w.b xs) (rows t) p T₁ → {room : List ℕ} → standing (length (rows t) - 2 * k) room ≡ standing (length (rows t) - 2 * k) t' →
    room_need (length (rows t) - 2 * k) (log_of q) ≤ length room → {a : Result ℕ Halt} {r : List ℕ} → GrownAs (corners xs) (length (rows t) - 2 * k) room (drop (room_for (length p)) (take (room_for k) l')) a r →
    (told a ≡ answers.done (pos (length q) ∷ [])) × (r ≡ filled T₁ room)
restored_in w p q e h same enough g = led_restored_in (run_led w) p q e (taken_replayed h) (sym w.count) (rest_log w p q e) same enough g

-- where thinning left its table: the table before record i
pub restored_from : {d : Asked} {xs : List ℤ} {t l : List ℕ} {k : ℕ} {t' l' : List ℕ} (w : RunOf d xs t l k t' l') (p q : List Record) → w.log ≡ p ++ q →
    {T₁ : List Row} → Taken (Allowed w.b xs) (rows t) p T₁ → {a : Result ℕ Halt} {r : List ℕ} → GrownAs (corners xs) (length (rows t) - 2 * k) t' (drop (room_for (length p)) (take (room_for k) l')) a r →
    (told a ≡ answers.done (pos (length q) ∷ [])) × (r ≡ zeroed T₁ t)
restored_from w p q e h g = led_restored_from (run_led w) p q e (taken_replayed h) (sym w.count) (rest_log w p q e) g

-- a beginning of the log replayed on the first table: the stage it leads to
pub replayed_to : {d : Asked} {xs : List ℤ} {t l : List ℕ} {k : ℕ} {t' l' : List ℕ} (w : RunOf d xs t l k t' l') (p q : List Record) → w.log ≡ p ++ q →
    {T₁ : List Row} → Taken (Allowed w.b xs) (rows t) p T₁ → {a : Result ℕ Halt} {r : List ℕ} → ReplayedAs (corners xs) t (take (room_for (length p)) l') a r →
    (told a ≡ answers.done (pos (length p) ∷ [])) × (r ≡ zeroed T₁ t)
replayed_to w p q e h g = led_replayed_to (run_led w) p q e (taken_replayed h) (front_log w p q e) g

-- what tells 0 and k records is done with k
pub as_done : {o : Order} {xs : List ℤ} {t l : List ℕ} {k : ℕ} {t' l' : List ℕ} → DoneWith o xs t l k t' l' → Thinned o xs t l (Ok k) t' l'
as_done w = rw (told_done w.answer w.tells) at w.thinned

-- what thinning leaves in front is a stage
pub thinned_leaves : (o : Order) {xs : List ℤ} {t l : List ℕ} {k : ℕ} {t' l' : List ℕ} → Thinned o xs t l (Ok k) t' l' → StageOf (corners xs) (length (rows t) - 2 * k) t'
thinned_leaves o z = let w = thinned_run z in led_leaves (run_led w) (sym w.count)

-- growing back the whole log of any accepted thinning restores the first table, number for number
pub restored : (o : Order) {xs : List ℤ} {t l : List ℕ} {k : ℕ} {t' l' : List ℕ} → Thinned o xs t l (Ok k) t' l' → {a : Result ℕ Halt} {r : List ℕ} →
    GrownAs (corners xs) (length (rows t) - 2 * k) t' (take (room_for k) l') a r → (told a ≡ answers.done (pos k ∷ [])) × (r ≡ t)
restored o z g = let w = thinned_run z in led_restored (run_led w) (sym w.count) (whole_log w) g

-- replaying its log on the first table does every record, and leaves what thinning left
pub replayed : (o : Order) {xs : List ℤ} {t l : List ℕ} {k : ℕ} {t' l' : List ℕ} → Thinned o xs t l (Ok k) t' l' → {a : Result ℕ Halt} {r : List ℕ} →
    ReplayedAs (corners xs) t (take (room_for k) l') a r → (told a ≡ answers.done (pos k ∷ [])) × (r ≡ t')
replayed o z g = let w = thinned_run z in led_replayed (run_led w) (sym w.count) (whole_log w) g
