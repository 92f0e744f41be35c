-- A run that passes a computed test is a run.
use mathlib.Core.Path.{◌≡◌, refl}
use mathlib.Core.Logic.{◌⊎◌, inl, inr}
use mathlib.Core.Bool.{Bool, ◌&&◌, ◌||◌, not}
use mathlib.Core.List.{List, [], ◌∷◌}
use Prim.Native.Nat.{ℕ}
use lib.Dec.{T as So, eqb, ltb, leb, eqb→eq, ltb→lt, lt→ltb, leb→le, T_not}
use Rattle.surface.specs.Rows.{Row}
use Rattle.surface.specs.Table.{Arrow, ◌⇒◌, edges}
use Rattle.surface.specs.Contract.{contract}
use Rattle.surface.specs.Record.{leaving, Record, placed}
use Rattle.surface.proofs.Once.{edge_in}
use Rattle.surface.proofs.Testing.{and_l, and_r, and_in, or_in, every, every_at}
use Rattle.run.specs.Run.{NotAfter, lower, level, Qualifies, Least, Taken, none_yet, one_more, Over, Run}
use Rattle.computed.proofs.Linking.{linked, linked_sound, linked_whole}

module _ (p : ℕ → ℕ → Bool) where
  abbrev pub Passing : ℕ → ℕ → Type 0
  Passing a b = So (p a b)

  abbrev pub qualifies : List Row → Arrow → Bool
  qualifies T (c ⇒ d) = ltb c d && (p c d && linked c d T)

  qualifies_sound : (T : List Row) (c d : ℕ) → So (qualifies T (c ⇒ d)) → Qualifies Passing T c d
  qualifies_sound T c d h =
      let k = and_r (ltb c d) _ h in
      record { meets = linked_sound c d T (and_r (p c d) _ k); allowed = and_l (p c d) _ k; rises = ltb→lt c d (and_l (ltb c d) _ h) }

  qualifies_whole : (T : List Row) (c d : ℕ) → Qualifies Passing T c d → So (qualifies T (c ⇒ d))
  qualifies_whole T c d q = and_in (ltb c d) _ (lt→ltb c d q.rises) (and_in (p c d) _ q.allowed (linked_whole c d T q.meets))

  -- (a, b) is not after the edge, or the edge does not qualify
  abbrev beyond : ℕ → ℕ → List Row → Arrow → Bool
  beyond a b T (c ⇒ d) = ltb a c || ((eqb a c && leb b d) || not (qualifies T (c ⇒ d)))

  abbrev pub least : ℕ → ℕ → List Row → Bool
  least a b T = qualifies T (a ⇒ b) && every (beyond a b T) (edges T)

  pub least_sound : (a b : ℕ) (T : List Row) → So (least a b T) → Least Passing T a b
  least_sound a b T h = record {
    does = qualifies_sound T a b (and_l (qualifies T (a ⇒ b)) _ h);
    first = λ q. go _ _ q (or_in (ltb a _) _ (every_at (beyond a b T) (edges T) (and_r (qualifies T (a ⇒ b)) _ h) (edge_in q.meets.edge)));
  }
    where
      go₂ : (c d : ℕ) → Qualifies Passing T c d → So (eqb a c && leb b d) ⊎ So (not (qualifies T (c ⇒ d))) → NotAfter a b c d
      go₂ c d q (inl i) = level (eqb→eq a c (and_l (eqb a c) _ i)) (leb→le b d (and_r (eqb a c) _ i))
      go₂ c d q (inr i) = absurd (T_not (qualifies T (c ⇒ d)) i (qualifies_whole T c d q))

      go : (c d : ℕ) → Qualifies Passing T c d → So (ltb a c) ⊎ So ((eqb a c && leb b d) || not (qualifies T (c ⇒ d))) → NotAfter a b c d
      go c d q (inl i) = lower (ltb→lt a c i)
      go c d q (inr i) = go₂ c d q (or_in (eqb a c && leb b d) _ i)

  abbrev pub over : List Row → Bool
  over T = every (λ x. not (qualifies T x)) (edges T)

  -- the records l lead from T to T', each of the least edge
  pub data Steps : List Row → List Record → List Row → Type 0 where
    stays_at : {T T' : List Row} → T ≡ T' → Steps T [] T'
    goes_on : {T T' : List Row} {k : Record} {l : List Record} → So (least k.kept k.removed T) → leaving k.kept k.removed T ≡ placed k →
        Steps (contract k.kept k.removed T) l T' → Steps T (k ∷ l) T'

  pub steps_taken : {T T' : List Row} {l : List Record} → Steps T l T' → Taken Passing T l T'
  steps_taken (stays_at e) = none_yet e
  steps_taken (goes_on {T = T} {k = k} h e s) =
      let w = least_sound k.kept k.removed T h in
      one_more w (record { lower = w.does.rises; meets = w.does.meets; leaves = refl; record_is = e }) (steps_taken s)

  pub over_sound : (T : List Row) → So (over T) → Over Passing T
  over_sound T h = record {
    over = λ a b q. T_not (qualifies T (a ⇒ b)) (every_at (λ x. not (qualifies T x)) (edges T) h (edge_in q.meets.edge)) (qualifies_whole T a b q);
  }

  pub run_sound : {T T' : List Row} {l : List Record} → Steps T l T' → So (over T') → Run Passing T l T'
  run_sound {T' = T'} s h = record { taken = steps_taken s; ended = over_sound T' h }

-- limits that say the same make the same runs
module _ {P Q : ℕ → ℕ → Type 0} (to : (a b : ℕ) → P a b → Q a b) (from : (a b : ℕ) → Q a b → P a b) where
  qualifies_back : {T : List Row} {a b : ℕ} → Qualifies Q T a b → Qualifies P T a b
  qualifies_back q = record { rises = q.rises; meets = q.meets; allowed = from _ _ q.allowed }

  least_same : {T : List Row} {a b : ℕ} → Least P T a b → Least Q T a b
  least_same k = record {
    does = record { rises = k.does.rises; meets = k.does.meets; allowed = to _ _ k.does.allowed };
    first = λ q. k.first (qualifies_back q);
  }

  taken_same : {T T' : List Row} {l : List Record} → Taken P T l T' → Taken Q T l T'
  taken_same (none_yet e) = none_yet e
  taken_same (one_more k r t) = one_more (least_same k) r (taken_same t)

  pub run_same : {T T' : List Row} {l : List Record} → Run P T l T' → Run Q T l T'
  run_same r = record { taken = taken_same r.taken; ended = record { over = λ a b q. r.ended.over a b (qualifies_back q) } }
