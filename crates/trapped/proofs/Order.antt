-- Corner by corner from the lowest up is the run of least edges, where there is no limit. Source 000, section 4: "another vertex from the current triangulation is chosen and processed by
-- the algorithm until all vertices are processed, at which point the algorithm ends"; "Lemma 5 ensures that all vertices of T' are trapped".
use mathlib.Core.Path.{◌≡◌, refl, sym, ◌∙◌, ap}
use mathlib.Core.Logic.{◌≢◌}
use mathlib.Core.List.{List, [], ◌∷◌, ◌++◌, append-nil, append_assoc}
use Prim.Native.Nat.{ℕ, zero, suc, ◌≤◌, ◌<◌}
use native.Mathlib.Decide.{ℕ_discrete}
use native.Mathlib.Omega.{arith}
use Rattle.follow.specs.Leads.{no_step, one_step}
use Rattle.surface.specs.Rows.{Row}
use Rattle.surface.specs.Stage.{Stage}
use Rattle.surface.specs.Link.{Meets}
use Rattle.surface.specs.Record.{Record, Replays}
use Rattle.run.specs.Run.{NotAfter, lower, level, Least, Taken, none_yet, one_more, Over, Run}
use Rattle.run.proofs.Main.{step_one, step_stage, taken_on}
use Rattle.trapped.specs.Trapped.{Any, Finished}
use Rattle.trapped.specs.ByCorner.{Contracts, Steps, AtCorner, Corners, not_begun, next_corner, ByCorner}
use Rattle.trapped.proofs.Finish.{none_finished, finished_step, finished_on, finished_all, least_at}

-- steps at u from a stage whose corners below u are finished: each is of the least edge of all, and what they leave is such a stage
record Left (n u : ℕ) (T : List Row) (l : List Record) (T' : List Row) : Type 0 where
  taken : Taken Any T l T'
  stage : Stage n T'
  finished : Finished T' u

step_finished : {n u : ℕ} {T T' : List Row} {k : Record} → Stage n T → Replays T k T' → Finished T u → Finished T' u
step_finished {n} {u} {T} s r fin = rw r.leaves at (finished_step n T s r.meets fin)

steps_left : {n u : ℕ} {T T' : List Row} {l : List Record} → Stage n T → Finished T u → Steps u T l T' → Left n u T l T'
steps_left s fin (no_step e) = record { taken = none_yet e; stage = rw e at s; finished = rw e at fin }
steps_left {n} {u} s fin (one_step {s = T} {i = k} c w) =
    let rest = steps_left (step_stage s c.replays) (step_finished s c.replays fin) w in
    record { taken = one_more (rw (sym c.at_u) at (least_at n T s fin c.next)) c.replays rest.taken; stage = rest.stage; finished = rest.finished }

corners_left : {n u : ℕ} {T T' : List Row} {l : List Record} → Stage n T → Corners u T l T' → Left n u T l T'
corners_left {T = T} s (not_begun e) = record { taken = none_yet e; stage = rw e at s; finished = none_finished _ }
corners_left {n} s (next_corner {u = u} {T' = T'} c a) =
    let before = corners_left s c in
    let here = steps_left before.stage before.finished a.steps in
    record { taken = taken_on before.taken here.taken; stage = here.stage; finished = finished_on n T' here.stage here.finished a.ended }

-- the corners below u are finished once they have had their turn. Source 004, section 3.3.1: "if u was processed before v, then u was trapped when v was chosen to be processed"
pub corners_finished : {n u : ℕ} {T T' : List Row} {l : List Record} → Stage n T → Corners u T l T' → Stage n T' × Finished T' u
corners_finished s c = let w = corners_left s c in (w.stage, w.finished)

-- what corner by corner leaves, the run of least edges leaves; not in 000 or 004, which ask for any irreducible triangulation
pub by_corner_run : (n : ℕ) {T T' : List Row} {l : List Record} → Stage n T → ByCorner n T l T' → Run Any T l T'
by_corner_run n {T' = T'} s c = let w = corners_left s c in record { taken = w.taken; ended = finished_all n T' w.stage {u = n} (omega arith) w.finished }

-- a run taken apart at u: its steps at u, and the rest
record Parted (u : ℕ) (T : List Row) (l : List Record) (T' : List Row) : Type 0 where
  mid : List Row
  here : List Record
  rest : List Record
  all : l ≡ here ++ rest
  at_corner : AtCorner u T here mid
  then : Taken Any mid rest T'

-- none of the steps is at u: no edge of u upward meets the condition
part_none : {u : ℕ} {T T' : List Row} {l : List Record} → ((h : ℕ) → u < h → ¬ Meets T u h) → Taken Any T l T' → Parted u T l T'
part_none {T = T} {l = l} q t = record { mid = T; here = []; rest = l; all = refl; at_corner = record { steps = no_step refl; ended = q }; then = t }

-- the first is at u, and the others are taken apart already
part_one : {u : ℕ} {T T₁ T' : List Row} {k : Record} {l : List Record} → Contracts u T k T₁ → Parted u T₁ l T' → Parted u T (k ∷ l) T'
part_one {k = k} c p = record {
  mid = p.mid;
  here = k ∷ p.here;
  rest = p.rest;
  all = λ i. k ∷ p.all i;
  at_corner = record { steps = one_step c p.at_corner.steps; ended = p.at_corner.ended };
  then = p.then;
}

module _ {u : ℕ} {T T₁ : List Row} {k : Record} (h : Least Any T k.kept k.removed) (r : Replays T k T₁) where
  -- the least edge of all, at u, is the least of u
  contracts_at : k.kept ≡ u → Contracts u T k T₁
  contracts_at e = record { at_u = e; next = record { meets = rw e at r.meets; rises = rw e at r.lower; first = λ i m. first (h.first (record { rises = i; meets = m; allowed = tt })) }; replays = r }
    where
      first : {c : ℕ} → NotAfter k.kept k.removed u c → k.removed ≤ c
      first (lower i) = absurd (omega arith)
      first (level i j) = j

  -- not at u it is at a higher corner, and u has none
  none_at : Finished T u → k.kept ≢ u → (c : ℕ) → u < c → ¬ Meets T u c
  none_at fin ne c i m = fin k.kept (earlier (h.first (record { rises = i; meets = m; allowed = tt }))) k.removed r.meets
    where
      earlier : NotAfter k.kept k.removed u c → k.kept < u
      earlier (lower j) = j
      earlier (level e j) = absurd (ne e)

-- where the corners below u are finished, the steps that a run takes at u come first, and u is finished after them
part : {n u : ℕ} {T T' : List Row} {l : List Record} → Stage n T → Finished T u → Taken Any T l T' → Over Any T' → Parted u T l T'
part {u = u} s fin (none_yet e) o = part_none (λ h i m. o.over u h (record { rises = i; meets = rw e at m; allowed = tt })) (none_yet e)
part {u = u} {T = T} {T' = T'} s fin (one_more {T₁ = T₁} {k = k} {l = l} h r t) o = go (ℕ_discrete k.kept u) (part (step_stage s r) (step_finished s r fin) t o)
  where
    go : Dec (k.kept ≡ u) → Parted u T₁ l T' → Parted u T (k ∷ l) T'
    go (yes e) p = part_one (contracts_at h r e) p
    go (no ne) p = part_none (none_at h r fin ne) (one_more h r t)

-- a run taken apart below u: what the corners below u have had, and the rest
record Begun (u : ℕ) (T : List Row) (l : List Record) (T' : List Row) : Type 0 where
  mid : List Row
  done : List Record
  rest : List Record
  all : l ≡ done ++ rest
  corners : Corners u T done mid
  then : Taken Any mid rest T'

begin : {n : ℕ} (u : ℕ) {T T' : List Row} {l : List Record} → Stage n T → Run Any T l T' → Begun u T l T'
begin zero {T} {l = l} s r = record { mid = T; done = []; rest = l; all = refl; corners = not_begun refl; then = r.taken }
begin {n} (suc u) {T} {T'} s r =
    let b = begin u s r in
    let f = corners_finished s b.corners in
    let p = part f.0 f.1 b.then r.ended in
    record { mid = p.mid; done = b.done ++ p.here; rest = p.rest; all = b.all ∙ ap (λ m. b.done ++ m) p.all ∙ sym (append_assoc b.done p.here p.rest); corners = next_corner b.corners p.at_corner; then = p.then }

-- what the run of least edges leaves, corner by corner leaves; not in 000 or 004
pub run_by_corner : (n : ℕ) {T T' : List Row} {l : List Record} → Stage n T → Run Any T l T' → ByCorner n T l T'
run_by_corner n {T} {T'} {l} s r =
    let b = begin n s r in
    let f = corners_finished s b.corners in
    go b.all b.corners b.then (finished_all n b.mid f.0 {u = n} (omega arith) f.1)
  where
    go : {done rest : List Record} {mid : List Row} → l ≡ done ++ rest → Corners n T done mid → Taken Any mid rest T' → Over Any mid → ByCorner n T l T'
    go {done} e c (none_yet i) o = rw (e ∙ append-nil done) (rw i at c)
    go e c (one_more h r t) o = absurd (o.over _ _ h.does)

-- a step at u is one
contracts_one : {u : ℕ} {T T₁ T₂ : List Row} {k m : Record} → Contracts u T k T₁ → Contracts u T m T₂ → (k ≡ m) × (T₁ ≡ T₂)
contracts_one {k = k} {m} c d =
    let i = c.next.first d.next.rises d.next.meets in
    let j = d.next.first c.next.rises c.next.meets in
    step_one (c.at_u ∙ sym d.at_u) (omega arith) c.replays d.replays

-- and so is what a corner's turn leaves
at_corner_one : {u : ℕ} {T T₁ T₂ : List Row} {l m : List Record} → AtCorner u T l T₁ → AtCorner u T m T₂ → (l ≡ m) × (T₁ ≡ T₂)
at_corner_one {u} a b = go a.steps b.steps a.ended b.ended
  where
    go : {T T₁ T₂ : List Row} {l m : List Record} → Steps u T l T₁ → Steps u T m T₂ → ((h : ℕ) → u < h → ¬ Meets T₁ u h) → ((h : ℕ) → u < h → ¬ Meets T₂ u h) → (l ≡ m) × (T₁ ≡ T₂)
    go (no_step e) (no_step f) p q = (refl, sym e ∙ f)
    go (no_step e) (one_step d w) p q = absurd (p _ d.next.rises (rw e at d.next.meets))
    go (one_step c v) (no_step e) p q = absurd (q _ c.next.rises (rw e at c.next.meets))
    go (one_step c v) (one_step d w) p q =
        let s = contracts_one c d in
        let i = go v (rw (sym s.1) at w) p q in
        ((λ j. s.0 j ∷ i.0 j), i.1)

-- corner by corner has one outcome; nothing of the run is used, and nothing of what stays trapped. Not in 000 or 004
pub by_corner_one : (n : ℕ) {T T₁ T₂ : List Row} {l m : List Record} → ByCorner n T l T₁ → ByCorner n T m T₂ → (l ≡ m) × (T₁ ≡ T₂)
by_corner_one zero (not_begun e) (not_begun f) = (refl, sym e ∙ f)
by_corner_one (suc u) (next_corner c a) (next_corner d b) =
    let s = by_corner_one u c d in
    let i = at_corner_one a (rw (sym s.1) at b) in
    ((λ j. s.0 j ++ i.0 j), i.1)
