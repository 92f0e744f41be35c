-- Request 6: a flipped table is a stage of as many rows with the same used corners, so what holds of stages holds of it, and a number that is no used corner stays
-- none.
use mathlib.Core.Path.{◌≡◌, refl, sym, ◌∙◌, ap}
use mathlib.Core.Logic.{inl, inr}
use mathlib.Core.List.{List, [], ◌∷◌, ◌++◌, reverse}
use Prim.Native.Nat.{ℕ, ◌+◌, ◌-◌, ◌*◌, ◌≤◌, ◌<◌, ◌%◌}
use native.Mathlib.Decide.{dec_lt}
use native.Mathlib.Omega.{arith}
use lib.IntN.{ℤ, pos}
use lib.ListN.{length, take, length-take, length-reverse}
use lib.Seq.{take-append-add}
use Rattle.std.specs.Prelude.{Ok, Err, Result}
use Rattle.follow.specs.Leads.{Leads}
use Rattle.follow.specs.Follow.{Call, Followed, all, some, Outcome, refused, followed}
use Rattle.follow.proofs.Leading.{leads_cut, leads_keep}
use Rattle.follow.proofs.Following as following
use Rattle.follow.proofs.Following.{Apart, outcome_did, outcome_stopped}
use Rattle.follow.proofs.Upto.{outcome_upto}
use Rattle.surface.specs.Rows.{Row, rows, flat}
use Rattle.surface.specs.Table.{Arrow, ◌⇒◌}
use Rattle.surface.specs.Stage.{Stage}
use Rattle.surface.specs.InnerStageTable.{StageTable}
use Rattle.surface.proofs.Flat.{rows_fit, rows_flat}
use Rattle.corners.specs.Skin.{Skin}
use Rattle.refusal.specs.First.{First}
use Rattle.refusal.specs.Told as answers
use Rattle.refusal.proofs.Laws.{verdicts, first_one, refused_passes}
use Rattle.faults.specs.Counts.{CountsFit, corners}
use Rattle.faults.proofs.Opposites.{stage_rows, stage_corners}
use Rattle.slots.proofs.Slots.{whole_rows}
use Rattle.thin.specs.Answer as thinnings
use Rattle.thin.proofs.Main.{accepted}
use Rattle.volume.proofs.Main.{volume_near, change_near}
use Rattle.flips.specs.Flip.{Flip, NoEdge}
use Rattle.flips.specs.Undo.{Undone}
use Rattle.flips.specs.Kept.{StageKept}
use Rattle.flips.proofs.Flips.{flip_undoable, undone, twisted, unused_missing, unused_second_missing}
use Rattle.flips.proofs.Keeping.{kept_none, kept_on, flip_keeps, undo_keeps}
use Rattle.laid.specs.Laid.{count, items, WholeItems, in_front}
use Rattle.laid.proofs.Laws.{first_length}
use Rattle.flipped.specs.declared.FlipRefusal.{FlipRefusal}
use Rattle.flipped.specs.declared.FlipRefusal.TheVariants.{EdgeMissing, UndoFails}
use Rattle.flipped.specs.declared.FlipHalt.{FlipHalt}
use Rattle.flipped.specs.declared.FlipHalt.TheVariants.{Stopped}
use Rattle.flipped.specs.Answer.{told, stopped, FlipsTold, all_done, some_done, flipped}
use Rattle.flipped.proofs.Telling.{flipped_apart, finishes, stops as stops_by, did}
use Rattle.fliplog.specs.Layout.{edge_list, flip_log}
use Rattle.flip.specs.Refused as refusals
use Rattle.flip.specs.Refused.{FlipRefused}
use Rattle.fliplist.specs.Outcome.{flip_room, flip_refusals, Reached, FlipsOn, FlipStops, TableAndLog, flipping as listed, FlippedAs}
use Rattle.fliplist.proofs.Main as lists
use Rattle.fliplist.proofs.Main.{flips_keep, flipped_one, flip_passes, flips_left}
use Rattle.undoflips.specs.Outcome.{undoing, UndoneAs}
use Rattle.undoflips.proofs.Main as undoes
use Rattle.undoflips.proofs.Main.{undo_passes, undone_left}
use Rattle.undoflips.proofs.Restoring.{undo_restores}
use Rattle.promises.specs.Flipping.{NoEdgeNamed, first_unused_lem, second_unused, one_corner, ByFlips, no_call, then_flipped, then_undone, Flipping}

-- ---- what is accepted

-- so many items done are so many told
tells : {k : ℕ} {a : Result ℕ FlipHalt} → following.Did flipped k a → FlipsTold k (told a)
tells (following.all_done e) = all_done (ap told e)
tells (following.some_done {r} e) = some_done r (ap told e)

-- a stage of whole rows is within the limits
pub counts_fit_lem : {n : ℕ} {t : List ℕ} → length t % 3 ≡ 0 → Stage n (rows t) → CountsFit n t
counts_fit_lem threes s = record { table = record { threes = threes; count = stage_rows s }; count = stage_corners s }

module _ {n : ℕ} {t edges l : List ℕ} {a : Result ℕ FlipHalt} {t' l' : List ℕ} (w : FlippedAs n t edges l a t' l')
    (threes : length t % 3 ≡ 0) (s : Stage n (rows t)) (whole : WholeItems edge_list edges) (room : flip_room edges ≤ length l) where
  passes : First (flip_refusals n t edges l) (Ok tt)
  passes = flip_passes n t edges l (record { counts = counts_fit_lem threes s; whole = whole }) room s

  list_accepted : (k : ℕ) × FlipsTold k (told a)
  list_accepted = elim (outcome_did (listed n t edges l) w.outcome) [
    | inl x ↦ refused_passes (first_one verdicts _ x.1 passes)
    | inr x ↦ (x.1, tells x.2)
  ]

  done_whole : {z : Reached} → Leads FlipsOn (record { table = rows t; log = [] }) (items edge_list edges) z →
      (told a ≡ answers.done (pos (count edge_list edges) ∷ [])) × (t' ≡ flat z.table) × (l' ≡ in_front flip_log z.log l)
  done_whole v =
      let o = flipped_one w (record { outcome = followed (passes, s) (all v refl) refl }) in
      (ap told (o.0 ∙ ap Ok (first_length edge_list (count edge_list edges) edges)), o.1, o.2)

-- where all items are told, there are so many
all_told : {S I R Q A B : Type 0} (c : Call S I R Q A B) → Apart c.answers → {a : A} {b : B} → Outcome c a b → {k : ℕ} → a ≡ c.answers.finished k → k ≡ length c.items
all_told c x (refused h ea eb) p = absurd (x.refused_finished (sym ea ∙ p))
all_told c x (followed h (all w e) eb) p = x.finished_one (sym p ∙ e)
all_told c x (followed h (some done i rest q w f e) eb) p = absurd (x.finished_stopped (sym p ∙ e))

undo_accepted : {n : ℕ} {t log : List ℕ} {a : Result ℕ FlipHalt} {t' : List ℕ} → length t % 3 ≡ 0 → Stage n (rows t) → WholeItems flip_log log → UndoneAs n t log a t' → (k : ℕ) × FlipsTold k (told a)
undo_accepted {n} {t} {log} threes s whole w = elim (outcome_did (undoing n t log) w.outcome) [
  | inl x ↦ refused_passes (first_one verdicts _ x.1 (undo_passes n t log (record { counts = counts_fit_lem threes s; whole = whole }) s))
  | inr x ↦ (x.1, tells x.2)
]

-- ---- where it stops

stopped_by : (r q : FlipRefusal) (j k : ℕ) → ◌≡◌ {A = Result ℕ FlipHalt} (Err (Stopped r j)) (Err (Stopped q k)) → r ≡ q
stopped_by r q j k e = cc

-- where a call stops, its items are parted at one that fails on what is left
parted : {S I R Q A B : Type 0} (c : Call S I R Q A B) → Apart c.answers → ((r q : R) (j k : ℕ) → c.answers.stopped r j ≡ c.answers.stopped q k → r ≡ q) → {r : R} {k : ℕ} {b : B} →
    Outcome c (c.answers.stopped r k) b → (s : S) × (b ≡ c.left s) × (before : List I) × (i : I) × (after : List I) × (c.items ≡ before ++ i ∷ after) × (length before ≡ k) × c.FailsBy s i r
parted c x by {r} {k} {b} o = let z = outcome_stopped c x o in go z.1 z.3 z.2
  where
    go : (s : _) → b ≡ c.left s → Followed c (c.answers.stopped r k) s →
        (s : _) × (b ≡ c.left s) × (before : List _) × (i : _) × (after : List _) × (c.items ≡ before ++ i ∷ after) × (length before ≡ k) × c.FailsBy s i r
    go s e (all w p) = absurd (x.finished_stopped (sym p))
    go s e (some before i after {r = r₂} q w f p) = (s, e, before, i, after, q, sym (x.stopped_one p), rw (by r r₂ k (length before) p) f)

list_stops : {n : ℕ} {t edges l : List ℕ} {a : Result ℕ FlipHalt} {t' l' : List ℕ} → FlippedAs n t edges l a t' l' → (r : FlipRefusal) (k : ℕ) → told a ≡ stopped r k →
    (before : List Arrow) × (x y : ℕ) × (after : List Arrow) × (items edge_list edges ≡ before ++ (x ⇒ y) ∷ after) × (length before ≡ k) × FlipRefused (rows t') x y r
list_stops {n} {t} {edges} {l} {a} {t'} {l'} w r k p = go (parted (listed n t edges l) flipped_apart stopped_by (rw (stops_by a r k p) at w.outcome))
  where
    go : (s : Reached) × (record { table = t'; log = l' } ≡ (listed n t edges l).left s) × (before : List Arrow) × (e : Arrow) × (after : List Arrow) × (items edge_list edges ≡ before ++ e ∷ after)
        × (length before ≡ k) × FlipStops s e r →
        (before : List Arrow) × (x y : ℕ) × (after : List Arrow) × (items edge_list edges ≡ before ++ (x ⇒ y) ∷ after) × (length before ≡ k) × FlipRefused (rows t') x y r
    go (s, e, before, x ⇒ y, after, q, m, f) = (before, x, y, after, q, m, rw (ap (λ (b : TableAndLog). rows b.table) e ∙ rows_flat s.table) f)

log_stops : {n : ℕ} {t log : List ℕ} {a : Result ℕ FlipHalt} {t' : List ℕ} → UndoneAs n t log a t' → (r : FlipRefusal) (k : ℕ) → told a ≡ stopped r k →
    (r ≡ UndoFails) × (before : List Flip) × (i : Flip) × (after : List Flip) × (reverse (items flip_log log) ≡ before ++ i ∷ after) × (length before ≡ k) × ((T : List Row) → ¬ Undone n (rows t') i T)
log_stops {n} {t} {log} {a} {t'} w r k p =
    let z = parted (undoing n t log) flipped_apart stopped_by (rw (stops_by a r k p) at w.outcome) in
    let e : rows t' ≡ z.0 = ap rows z.1 ∙ rows_flat z.0 in
    (z.7.1, z.2, z.3, z.4, z.5, z.6, λ T u. z.7.0 T (rw e at u))

-- ---- an edge that is none

names_missing : {n : ℕ} {T T' : List Row} {x y : ℕ} → StageKept n T T' → NoEdgeNamed T (x ⇒ y) → NoEdge T' x y
names_missing k (first_unused_lem m) = unused_missing (λ u. m (k.used.1 u))
names_missing k (second_unused m) = unused_second_missing (λ u. m (k.used.1 u))
names_missing k (one_corner e) = twisted e k.after

names_stop : {n : ℕ} {T : List Row} (s : Reached) (e : Arrow) → StageKept n T s.table → NoEdgeNamed T e → FlipStops s e EdgeMissing
names_stop s (x ⇒ y) k m = refusals.missing (names_missing k m) refl

-- where as many flips as stand before it are told, the list stops there
module _ {n : ℕ} {t edges l : List ℕ} {a : Result ℕ FlipHalt} {t' l' : List ℕ} (w : FlippedAs n t edges l a t' l') {k : ℕ} (d : FlipsTold k (told a))
    (before : List Arrow) (e : Arrow) (after : List Arrow) (parts : items edge_list edges ≡ before ++ e ∷ after) (m : NoEdgeNamed (rows t) e) where
  stops_there : length before ≤ k → a ≡ Err (Stopped EdgeMissing (length before))
  stops_there h =
      let o = outcome_upto (listed n t edges l) flipped_apart (did a d) w.outcome in
      let i : k ≡ length before + (k - length before) = omega arith in
      let c = leads_cut before (rw (ap (take k) parts ∙ ap (λ (j : ℕ). take j (before ++ e ∷ after)) i ∙ take-append-add before (e ∷ after) (k - length before)) at o.2.led) in
      (flipped_one w (record { outcome = followed o.0 (some before e after parts c.1 (names_stop c.0 e (flips_keep n o.0.1 c.1) m) refl) refl })).0

  told_there : a ≡ Err (Stopped EdgeMissing (length before)) → k ≡ length before
  told_there p = go (did a d)
    where
      go : following.Did flipped k a → k ≡ length before
      go (following.all_done q) = absurd (flipped_apart.finished_stopped (sym q ∙ p))
      go (following.some_done q) = flipped_apart.stopped_one (sym q ∙ p)

  never_flipped : (k ≤ length before) × (k ≡ length before → told a ≡ stopped EdgeMissing k)
  never_flipped = (go (dec_lt (length before) k), λ j. ap told (stops_there (omega arith)) ∙ ap (stopped EdgeMissing) (sym j))
    where
      go : Dec (length before < k) → k ≤ length before
      go (yes h) = let z = told_there (stops_there (omega arith)) in omega arith
      go (no h) = omega arith

-- ---- tables that were flipped

-- a record undone over so many corners is undone over as many as the stage has
undone_over : {n m : ℕ} {T T' : List Row} {k : Flip} → Stage n T' → Undone m T' k T → Undone n T' k T
undone_over s u = rw u.is (undone s (flip_undoable u.stage u.flips))

-- what is refused leaves the table, and what is told keeps the stage, whatever corner count the call was given
kept_by_list : {n m : ℕ} {t edges l : List ℕ} {a : Result ℕ FlipHalt} {t' l' : List ℕ} → FlippedAs m t edges l a t' l' → Stage n (rows t) → StageKept n (rows t) (rows t') × (length t' ≡ length t)
kept_by_list {n} {m} {t} {edges} {l} w s = elim (outcome_did (listed m t edges l) w.outcome) [
  | inl x ↦ (let e = (lists.refused_same (rw x.2 at w)).0 in (rw e (kept_none s), ap length e))
  | inr x ↦ (let f = flips_left w (tells x.2) in (flips_keep n s f.flips, f.same_table))
]

kept_by_undoing : {n m : ℕ} {t log : List ℕ} {a : Result ℕ FlipHalt} {t' : List ℕ} → UndoneAs m t log a t' → Stage n (rows t) → StageKept n (rows t) (rows t') × (length t' ≡ length t)
kept_by_undoing {n} {m} {t} {log} w s = elim (outcome_did (undoing m t log) w.outcome) [
  | inl x ↦ (let e = undoes.refused_same (rw x.2 at w) in (rw e (kept_none s), ap length e))
  | inr x ↦ (let f = undone_left w (tells x.2) in
      (leads_keep (StageKept n (rows t)) (λ T T' i k u. kept_on k (undo_keeps (undone_over k.after u))) (kept_none s) f.undone, f.same_table))
]

kept : {n : ℕ} {t t' : List ℕ} → Stage n (rows t) → ByFlips t t' → StageKept n (rows t) (rows t') × (length t' ≡ length t)
kept s (no_call e) = (rw e (kept_none s), ap length e)
kept s (then_flipped b w) = let k = kept s b in let f = kept_by_list w k.0.after in (kept_on k.0 f.0, f.1 ∙ k.1)
kept s (then_undone b w) = let k = kept s b in let f = kept_by_undoing w k.0.after in (kept_on k.0 f.0, f.1 ∙ k.1)

stage_table : {n : ℕ} {t t' : List ℕ} → length t % 3 ≡ 0 → Stage n (rows t) → ByFlips t t' → StageTable n t'
stage_table {t = t} threes s b =
    let k = kept s b in
    let e = k.1 in
    let f = k.0.size in
    let i = whole_rows t threes in
    record { count = omega arith; stage = k.0.after }

skin_kept : {n : ℕ} {T T' : List Row} {xs : List ℤ} → Skin n T xs → StageKept n T T' → Skin n T' xs
skin_kept s k = record { stage = k.after; corners = s.corners; in_range = s.in_range; used = λ h. k.used.0 (s.used h) }

-- the numbers of rows that stand in front are whole rows
front_threes : (m : ℕ) (t : List ℕ) → length (rows (take (3 * m) t)) ≡ m → length (take (3 * m) t) % 3 ≡ 0
front_threes m t h = let i = rows_fit (take (3 * m) t) in let j = length-take (3 * m) t in omega arith

pub flipping : Flipping
flipping = record {
  each_keeps = λ s f. flip_keeps s f;
  each_undone_keeps = λ u. undo_keeps u;
  skins = λ s k. skin_kept s k;
  accepts = λ threes s whole room w. list_accepted w threes s whole room;
  does_all = λ threes s whole room w v. done_whole w threes s whole room v;
  whole = λ {n} {t} {edges} {l} {a} w {k} p. all_told (listed n t edges l) flipped_apart w.outcome (finishes a k p) ∙ first_length edge_list (count edge_list edges) edges;
  left = λ w d. flips_left w d;
  stops = λ w r k p. list_stops w r k p;
  missing = λ w d before e after parts m. never_flipped w d before e after parts m;
  undo_accepts = λ threes s whole w. undo_accepted threes s whole w;
  undo_whole = λ {n} {t} {log} {a} w {k} p.
      all_told (undoing n t log) flipped_apart w.outcome (finishes a k p) ∙ length-reverse (items flip_log log) ∙ first_length flip_log (count flip_log log) log;
  undone = λ w d. undone_left w d;
  undo_stops = λ w r k p. log_stops w r k p;
  restores = λ w d u. (let o = undo_restores w d u in (ap told o.0, o.1));
  keeps = λ s b. kept s b;
  volumes_near = λ threes s b e r a p. volume_near e r (stage_table threes s b) a p;
  changes_near = λ threes s b c e r a p. change_near e r (stage_table threes s b) (stage_table threes s c) a p;
  thins = λ o u threes s b room w.
      (let k = kept s.stage b in
      let e = k.1 in
      let z = accepted u (omega arith) (skin_kept s k.0) room w in
      (z.0, ap thinnings.told z.1));
  flips_stages = λ {n} {m} {t} s whole room w. list_accepted w (front_threes m t s.many) s.stage whole room;
}
