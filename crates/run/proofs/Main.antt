-- A run has one outcome, keeps stages and Euler number, and goes on from any of its stages.
use mathlib.Core.Path.{◌≡◌, refl, sym, ◌∙◌, ap}
use mathlib.Core.Logic.{◌⊎◌, inl, inr}
use mathlib.Core.List.Memᴰ
use mathlib.Core.List.{List, [], ◌∷◌, ◌++◌}
use Prim.Native.Nat.{ℕ, ◌+◌, ◌*◌, ◌<◌}
use native.Mathlib.Omega.{arith}
use lib.IntN.{ℤ}
use lib.ListN.{length}
use Rattle.surface.specs.Lists.{◌∈◌, Exactly}
use Rattle.surface.specs.Rows.{Row}
use Rattle.surface.specs.Table.{Used}
use Rattle.surface.specs.Stage.{Stage}
use Rattle.follow.specs.Leads.{no_step, one_step}
use Rattle.follow.proofs.Leading.{leads_keep}
use Rattle.surface.specs.Record.{leaving, Record, placed, Replays, Replayed}
use Rattle.surface.specs.Euler.{Euler}
use Rattle.surface.proofs.Main.{contraction, euler_kept, euler_there, euler_one, corners_there, two_fewer, one_fewer, counts_one, left}
use Rattle.run.specs.Run.{NotAfter, lower, level, Least, Taken, none_yet, one_more, Over, Run}

-- kept, removed and the placed rows are the record
record_same : {k m : Record} → k.kept ≡ m.kept → k.removed ≡ m.removed → placed k ≡ placed m → k ≡ m
record_same {k} {m} ea eb e =
    let e₁ : k.place_1 ≡ m.place_1 = cc in
    let r₁ : k.row_1 ≡ m.row_1 = cc in
    let e₂ : k.place_2 ≡ m.place_2 = cc in
    let r₂ : k.row_2 ≡ m.row_2 = cc in
    λ i. record { kept = ea i; removed = eb i; place_1 = e₁ i; row_1 = r₁ i; place_2 = e₂ i; row_2 = r₂ i }

-- a step of one edge writes one record
pub step_one : {T T₁ T₂ : List Row} {k m : Record} → k.kept ≡ m.kept → k.removed ≡ m.removed → Replays T k T₁ → Replays T m T₂ → (k ≡ m) × (T₁ ≡ T₂)
step_one {T} {T₁} {T₂} {k} {m} ea eb r q = (e, left (rw e at r) q)
  where
    e : k ≡ m
    e = record_same ea eb (sym r.record_is ∙ (λ i. leaving (ea i) (eb i) T) ∙ q.record_is)

-- what steps keep of a stage
pub step_stage : {n : ℕ} {T T₁ : List Row} {k : Record} → Stage n T → Replays T k T₁ → Stage n T₁
step_stage {n} {T} s r = rw r.leaves at (contraction n T s _ _ r.meets)

pub step_euler : {n : ℕ} {T T₁ : List Row} {k : Record} {χ χ' : ℤ} → Stage n T → Replays T k T₁ → Euler T χ → Euler T₁ χ' → χ ≡ χ'
step_euler {n} {T} s r c d = euler_kept n T s _ _ r.meets c (rw (sym r.leaves) at d)

pub step_corners : {n : ℕ} {T T₁ : List Row} {k : Record} {v v' : ℕ} → Stage n T → Replays T k T₁ → Exactly (Used T) v → Exactly (Used T₁) v' → v ≡ v' + 1
step_corners {n} {T} s r c d = one_fewer n T s _ _ r.meets c (rw (sym r.leaves) at d)

pub step_rows : {n : ℕ} {T T₁ : List Row} {k : Record} → Stage n T → Replays T k T₁ → length T ≡ 2 + length T₁
step_rows {n} {T} s r = rw r.leaves at (two_fewer n T s _ _ r.meets)

module _ {P : ℕ → ℕ → Type 0} where
  -- there is one least edge
  pub least_one : {T : List Row} {a b c d : ℕ} → Least P T a b → Least P T c d → (a ≡ c) × (b ≡ d)
  least_one {a = a} {b = b} {c = c} {d = d} h k = go (h.first k.does) (k.first h.does)
    where
      go : NotAfter a b c d → NotAfter c d a b → (a ≡ c) × (b ≡ d)
      go (lower i) (lower j) = absurd (omega arith)
      go (lower i) (level j l) = absurd (omega arith)
      go (level i l) (lower j) = absurd (omega arith)
      go (level i l) (level j m) = (i, omega arith)

  -- no second outcome: one log, one last stage
  pub run_one : {T T' T'' : List Row} {l m : List Record} → Run P T l T' → Run P T m T'' → (l ≡ m) × (T' ≡ T'')
  run_one {T} r q = go r.taken q.taken r.ended q.ended
    where
      go : {T T' T'' : List Row} {l m : List Record} → Taken P T l T' → Taken P T m T'' → Over P T' → Over P T'' → (l ≡ m) × (T' ≡ T'')
      go (none_yet e) (none_yet f) o u = (refl, sym e ∙ f)
      go (none_yet e) (one_more h r t) o u = absurd (o.over _ _ (rw e at h.does))
      go (one_more h r t) (none_yet e) o u = absurd (u.over _ _ (rw e at h.does))
      go (one_more h r t) (one_more k q w) o u =
          let e = least_one h k in
          let s = step_one e.0 e.1 r q in
          let i = go t (rw (sym s.1) at w) o u in
          ((λ j. s.0 j ∷ i.0 j), i.1)

  -- each record keeps the limit, and its lower number
  pub taken_allowed : {T T' : List Row} {l : List Record} → Taken P T l T' → {k : Record} → k ∈ l → P k.kept k.removed × (k.kept < k.removed)
  taken_allowed (none_yet e) m = absurd (Memᴰ.not-nil m)
  taken_allowed (one_more {k = c} {l = l} h r t) {k} m = go (λ m. taken_allowed t m) (Memᴰ.cases_cons m)
    where
      go : (k ∈ l → P k.kept k.removed × (k.kept < k.removed)) → (k ≡ c) ⊎ (k ∈ l) → P k.kept k.removed × (k.kept < k.removed)
      go rec (inl e) = rw e (h.does.allowed, h.does.rises)
      go rec (inr m) = rec m

  -- the log leads from the first stage to the last
  pub taken_replayed : {T T' : List Row} {l : List Record} → Taken P T l T' → Replayed T l T'
  taken_replayed (none_yet e) = no_step e
  taken_replayed (one_more h r t) = one_step r (taken_replayed t)

  -- one more step at the end
  pub taken_more : {T T₁ T₂ : List Row} {l : List Record} {k : Record} → Taken P T l T₁ → Least P T₁ k.kept k.removed → Replays T₁ k T₂ → Taken P T (l ++ (k ∷ [])) T₂
  taken_more (none_yet e) h r = one_more (rw (sym e) at h) (rw (sym e) at r) (none_yet refl)
  taken_more (one_more h r t) k q = one_more h r (taken_more t k q)

  -- steps after steps
  pub taken_on : {T T₁ T' : List Row} {l m : List Record} → Taken P T l T₁ → Taken P T₁ m T' → Taken P T (l ++ m) T'
  taken_on (none_yet e) t = rw (sym e) at t
  taken_on (one_more h r t) u = one_more h r (taken_on t u)

  -- a beginning of a log leads to a stage, from which the rest leads on
  pub taken_cut : {T T' : List Row} (l : List Record) {m : List Record} → Taken P T (l ++ m) T' → (T₁ : List Row) × Taken P T l T₁ × Taken P T₁ m T'
  taken_cut {T} [] t = (T, none_yet refl, t)
  taken_cut (k ∷ l) (one_more h r t) = let c = taken_cut l t in (c.0, one_more h r c.1, c.2)

-- replayed steps keep a stage, its Euler number, and take two rows and one corner each
pub replayed_stage : {n : ℕ} {T T' : List Row} {l : List Record} → Stage n T → Replayed T l T' → Stage n T'
replayed_stage {n} s w = leads_keep (Stage n) (λ T T' k z r. step_stage z r) s w

pub replayed_rows : {n : ℕ} {T T' : List Row} {l : List Record} → Stage n T → Replayed T l T' → length T ≡ length T' + 2 * length l
replayed_rows s (no_step e) = let h = ap length e in omega arith
replayed_rows {n} {T} s (one_step {u = T₁} r t) =
    let i = replayed_rows (step_stage s r) t in
    let h = step_rows s r in
    omega arith

pub replayed_euler : {n : ℕ} {T T' : List Row} {l : List Record} {χ χ' : ℤ} → Stage n T → Replayed T l T' → Euler T χ → Euler T' χ' → χ ≡ χ'
replayed_euler {n} {T} s (no_step e) c d = euler_one n T s c (rw (sym e) at d)
replayed_euler {n} {T} s (one_step {u = T₁} r t) c d =
    let z = step_stage s r in
    let m = euler_there n T₁ z in
    step_euler s r c m.1 ∙ replayed_euler z t m.1 d

pub replayed_corners : {n : ℕ} {T T' : List Row} {l : List Record} {v v' : ℕ} → Stage n T → Replayed T l T' → Exactly (Used T) v → Exactly (Used T') v' → v ≡ v' + length l
replayed_corners s (no_step e) c d = let h = counts_one c (rw (sym e) at d) in omega arith
replayed_corners {n} {T} s (one_step {u = T₁} r t) c d =
    let z = step_stage s r in
    let m = corners_there n T₁ z in
    let h = step_corners s r c m.1 in
    let i = replayed_corners z t m.1 d in
    omega arith
