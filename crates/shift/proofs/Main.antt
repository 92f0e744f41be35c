-- The theorems on shifts: no second answer, the shift bound, stand-ins in use, and what is told of a log that thinning wrote.
use mathlib.Core.Path.{◌≡◌, refl, sym, ap, subst}
use mathlib.Core.Logic.{◌≢◌, inl, inr}
use mathlib.Core.List.Memᴰ
use mathlib.Core.List.{List, [], ◌∷◌, ◌++◌}
use Prim.Native.Nat.{ℕ, suc, ◌+◌, ◌*◌, ◌≤◌, ◌<◌}
use native.Mathlib.Decide.{ℕ_discrete}
use native.Mathlib.Omega.{arith}
use lib.ListN.{length}
use lib.IntN.{ℤ}
use Rattle.std.specs.Prelude.{Ok, Err, Result}
use Rattle.surface.specs.Lists.{◌∈◌}
use Rattle.surface.specs.Rows.{Row}
use Rattle.surface.specs.Table.{Used}
use Rattle.surface.specs.Stage.{Stage}
use Rattle.corners.specs.Skin.{InRange}
use Rattle.follow.specs.Leads.{no_step, one_step}
use Rattle.surface.specs.Record.{Record, Replayed}
use Rattle.surface.proofs.Counted.{used_new}
use Rattle.surface.proofs.Linked.{opposite}
use Rattle.refusal.specs.declared.Refusal.{Refusal}
use Rattle.refusal.specs.Told.{Told}
use Rattle.refusal.proofs.Laws.{first_one, verdicts}
use Rattle.refusal.proofs.Outcome.{tells_refusal, refused_done, outcome_one}
use Rattle.record.specs.Layout.{log_of}
use Rattle.record.proofs.Log.{log_length, records_log}
use Rattle.faults.specs.Counts.{corners}
use Rattle.faults.proofs.Opposites.{stage_corners}
use Rattle.distance.specs.Corners.{Short, squared_distance_lem}
use Rattle.distance.specs.InnerChain.{Chain, chain_none, chain_more}
use Rattle.distance.proofs.Shift.{chain_bound, distance_back}
use Rattle.run.specs.Run.{Taken}
use Rattle.run.proofs.Main.{step_stage, taken_allowed, taken_cut, taken_replayed}
use Rattle.standin.specs.StandIn.{stand_in, moves}
use Rattle.shift.specs.declared.Shifted.{Shifted}
use Rattle.shift.specs.Order.{ShiftFits}
use Rattle.shift.specs.Inner.{BelowIn}
use Rattle.shift.specs.Answer.{told}
use Rattle.shift.specs.Report.{ShiftReport, Bounded}
use Rattle.standin.proofs.Following.{moved_on, stayed}
use Rattle.shift.proofs.Checking.{all_clear}
use Rattle.shift.proofs.Reporting.{shift_done}

-- what is told tells the answer
pub told_one : (a b : Result Shifted Refusal) → told a ≡ told b → a ≡ b
told_one (Ok s) (Ok z) h =
    let vs = ap (λ (t : Told). t.values) h in
    let ev : s.stand_in.0 ≡ z.stand_in.0 = cc in
    let ek : s.count ≡ z.count = cc in
    let ed : s.squared ≡ z.squared = cc in
    λ i. Ok (record { stand_in = record { 0 = ev i }; count = ek i; squared = ed i })
told_one (Ok z) (Err s) h = absurd (refused_done s (sym h))
told_one (Err r) (Ok z) h = absurd (refused_done r h)
told_one (Err r) (Err s) h = ap Err (tells_refusal h)

-- no second answer meets the words of `shift`
pub shift_one : {xs : List ℤ} {log : List ℕ} {v : ℕ} (a b : Result Shifted Refusal) → ShiftReport xs log v (told a) → ShiftReport xs log v (told b) → a ≡ b
shift_one a b p q = told_one a b (outcome_one _ (first_one verdicts _ p.first q.first) p.tells q.tells)

-- ---- the shift bound

-- records whose edges are within a limit lead a corner by a chain of so many steps
module _ {xs : List ℤ} {L : ℕ} where
  onward_chain : {j u : ℕ} (v : ℕ) (l : List Record) → Chain xs L j u v → ((k : Record) → k ∈ l → Short xs L k.kept k.removed) → Chain xs L (j + moves v l) u (stand_in v l)
  unfolding stand_in moves
  onward_chain {j} v [] c s = let e : j ≡ j + 0 = omega arith in rw e at c
  onward_chain {j} {u} v (k ∷ l) c s = go (ℕ_discrete v k.removed) (λ i w d. onward_chain w l d (λ z m. s z (Memᴰ.tail m)))
    where
      go : Dec (v ≡ k.removed) → ((i w : ℕ) → Chain xs L i u w → Chain xs L (i + moves w l) u (stand_in w l)) → Chain xs L (j + moves v (k ∷ l)) u (stand_in v (k ∷ l))
      go (yes e) rest =
          let m = moved_on k l e in
          let short : Short xs L v k.kept = rw (distance_back xs v k.kept, e) (s k (Memᴰ.head refl)) in
          let n : j + moves v (k ∷ l) ≡ suc j + moves k.kept l = let z = m.1 in omega arith in
          rw (n, m.0) (rest (suc j) k.kept (chain_more c short))
      go (no ne) rest = let m = stayed k l ne in rw (m.0, m.1) (rest j v c)

-- for a log that steps wrote under a limit of L, the squared distance is at most k x k x L x L, k being the count
module _ {P : ℕ → ℕ → Type 0} (xs : List ℤ) (L : ℕ) (within : (a b : ℕ) → P a b → Short xs L a b) {T T' : List Row} where
  pub shift_bound : {l : List Record} → Taken P T l T' → (v : ℕ) → squared_distance_lem xs v (stand_in v l) ≤ moves v l * moves v l * L * L
  shift_bound {l} t v =
      let c = onward_chain v l (chain_none refl) (λ k m. within k.kept k.removed (taken_allowed t m).0) in
      let e : 0 + moves v l ≡ moves v l = omega arith in
      chain_bound (rw e at c)

-- ---- stand-ins in use

-- each corner in use before the steps has its stand-in in use after them
pub stand_in_used : {n : ℕ} {T T' : List Row} (l : List Record) → Stage n T → Replayed T l T' → (v : ℕ) → Used T v → Used T' (stand_in v l)
unfolding stand_in
stand_in_used [] s (no_step e) v u = rw e at u
stand_in_used {n} {T} {T'} (k ∷ l) s (one_step {u = T₁} r t) v u = go (ℕ_discrete v k.removed) (λ w x. stand_in_used l (step_stage s r) t w x)
  where
    still : {w : ℕ} → Used T w → w ≢ k.removed → Used T₁ w
    still x ne = let o = opposite n T s r.meets in rw r.leaves at (used_new n T k.kept k.removed o.0 o.1 s o.2 x ne)

    go : Dec (v ≡ k.removed) → ((w : ℕ) → Used T₁ w → Used T' (stand_in w l)) → Used T' (stand_in v (k ∷ l))
    go (yes e) rest = let lt = r.lower in rw (moved_on k l e).0 (rest k.kept (still (k.removed, r.meets.edge) (λ z. omega arith)))
    go (no ne) rest = rw (stayed k l ne).0 (rest v (still u ne))

-- ---- a log over the coordinates of a stage

-- kept and removed of each record are corners of the stage
replayed_below : {n : ℕ} {T T' : List Row} (l : List Record) → Stage n T → Replayed T l T' → BelowIn n l
replayed_below [] s t = record { kept = λ m. absurd (Memᴰ.not-nil m); removed = λ m. absurd (Memᴰ.not-nil m) }
replayed_below {n} {T} (k ∷ l) s (one_step r t) = go (replayed_below l (step_stage s r) t)
  where
    lower : k.kept < n
    lower = s.below r.meets.edge.1

    higher : k.removed < n
    higher = s.below (s.both r.meets.edge).1

    go : BelowIn n l → BelowIn n (k ∷ l)
    go b = record {
      kept = λ m. elim (Memᴰ.cases_cons m) [ inl e ↦ subst (λ (q : Record). q.kept < n) (sym e) lower | inr i ↦ b.kept i ];
      removed = λ m. elim (Memᴰ.cases_cons m) [ inl e ↦ subst (λ (q : Record). q.removed < n) (sym e) higher | inr i ↦ b.removed i ];
    }

module _ {n : ℕ} {T : List Row} {xs : List ℤ} (s : Stage n T) (three : length xs ≡ 3 * n) (range : InRange xs) {l : List Record} {T' : List Row} (t : Replayed T l T') (v : ℕ) (h : v < n) where
  many : corners xs ≡ n
  many = omega arith

  fit : ShiftFits xs (log_of l)
  fit = let k = log_length l in record { coordinates = record { threes = omega arith; count = rw many (stage_corners s) }; whole = omega arith }

  -- no shift is refused there, and the answer is stand-in, count and squared distance
  pub shift_there : ShiftReport xs (log_of l) v (told (Ok (record { stand_in = record { 0 = stand_in v l }; count = moves v l; squared = squared_distance_lem xs v (stand_in v l) })))
  shift_there =
      let c = many in
      let r = records_log l in
      let k = all_clear xs (log_of l) v fit range (omega arith) (rw (c, r) (replayed_below l s t)) in
      shift_done k refl (ap (stand_in v) (sym r)) (ap (moves v) (sym r)) refl

  pub log_shift : (a : Result Shifted Refusal) → ShiftReport xs (log_of l) v (told a) → a ≡ Ok (record { stand_in = record { 0 = stand_in v l }; count = moves v l; squared = squared_distance_lem xs v (stand_in v l) })
  log_shift a p = shift_one a _ p shift_there

-- so for a log that thinning wrote from a stage on under a limit of L, or a beginning of one, read with the corners it was written over, the bound holds of
-- what is told
pub log_shift_bound : {P : ℕ → ℕ → Type 0} {n : ℕ} {T T' : List Row} {xs : List ℤ} (L : ℕ) → Stage n T → length xs ≡ 3 * n → InRange xs → ((a b : ℕ) → P a b → Short xs L a b) → (l m : List Record) → Taken P T (l ++ m) T' →
    {v : ℕ} → v < n → (a : Result Shifted Refusal) → ShiftReport xs (log_of l) v (told a) → Bounded L a
log_shift_bound {xs = xs} L s three range within l m t {v} h a p =
    let c = taken_cut l t in
    record {
      corner = stand_in v l;
      k = moves v l;
      squared = squared_distance_lem xs v (stand_in v l);
      tells = ap told (log_shift s three range (taken_replayed c.1) v h a p);
      bound = shift_bound xs L within c.1 v;
    }
