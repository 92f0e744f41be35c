-- A call that follows a list has one outcome; what its answer tells; and what it leaves, done or stopped.
use mathlib.Core.Path.{◌≡◌, refl, sym, ◌∙◌, ap}
use mathlib.Core.Logic.{◌⊎◌, inl, inr}
use mathlib.Core.List.{List, [], ◌∷◌, ◌++◌, append-nil, head-eq_of_cons-eq, tail-eq_of_cons-eq}
use Prim.Native.Nat.{ℕ}
use lib.ListN.{length}
use Rattle.follow.specs.Leads.{Leads}
use Rattle.follow.specs.Follow.{Answering, Call, Followed, all, some, Outcome, refused, followed}
use Rattle.follow.proofs.Leading.{leads_one, leads_there}

-- two ways to part a list at an item: the same, or one further on than the other
data Parts {I : Type 0} (l₁ : List I) (i₁ : I) (l₂ : List I) (i₂ : I) : Type 0 where
  same : l₁ ≡ l₂ → i₁ ≡ i₂ → Parts l₁ i₁ l₂ i₂
  before : (m : List I) → l₂ ≡ l₁ ++ i₁ ∷ m → Parts l₁ i₁ l₂ i₂
  after : (m : List I) → l₁ ≡ l₂ ++ i₂ ∷ m → Parts l₁ i₁ l₂ i₂

parts_on : {I : Type 0} {x y : I} {l₁ : List I} {i₁ : I} {l₂ : List I} {i₂ : I} → x ≡ y → Parts l₁ i₁ l₂ i₂ → Parts (x ∷ l₁) i₁ (y ∷ l₂) i₂
parts_on e (same p q) = same (λ j. e j ∷ p j) q
parts_on e (before m p) = before m (λ j. sym e j ∷ p j)
parts_on e (after m p) = after m (λ j. e j ∷ p j)

parts : {I : Type 0} (l₁ : List I) (i₁ : I) (m₁ l₂ : List I) (i₂ : I) (m₂ : List I) → l₁ ++ i₁ ∷ m₁ ≡ l₂ ++ i₂ ∷ m₂ → Parts l₁ i₁ l₂ i₂
parts [] i₁ m₁ [] i₂ m₂ e = same refl (head-eq_of_cons-eq e)
parts [] i₁ m₁ (y ∷ l₂) i₂ m₂ e = before l₂ (λ j. sym (head-eq_of_cons-eq e) j ∷ l₂)
parts (x ∷ l₁) i₁ m₁ [] i₂ m₂ e = after l₁ (λ j. head-eq_of_cons-eq e j ∷ l₁)
parts (x ∷ l₁) i₁ m₁ (y ∷ l₂) i₂ m₂ e = parts_on (head-eq_of_cons-eq e) (parts l₁ i₁ m₁ l₂ i₂ m₂ (tail-eq_of_cons-eq e))

-- what makes a call's outcome one: one refusal at most, none where it passes; a step leads to one state, an item that fails has none, and fails for one reason
pub record Plain {S I R Q A B : Type 0} (c : Call S I R Q A B) : Type 0 where
  pub refusal : {e f : Q} → c.Given e → c.Given f → e ≡ f
  pub passing : {e : Q} → c.Given e → c.Else → ⊥
  pub step : (s t u : S) (i : I) → c.Does s i t → c.Does s i u → t ≡ u
  pub apart : {s t : S} {i : I} {r : R} → c.FailsBy s i r → c.Does s i t → ⊥
  pub reason : {s : S} {i : I} {r q : R} → c.FailsBy s i r → c.FailsBy s i q → r ≡ q

-- what tells answers apart
pub record Apart {R Q A : Type 0} (w : Answering R Q A) : Type 0 where
  pub refused_finished : {e : Q} {k : ℕ} → w.refused e ≡ w.finished k → ⊥
  pub refused_stopped : {e : Q} {r : R} {k : ℕ} → w.refused e ≡ w.stopped r k → ⊥
  pub finished_stopped : {r : R} {j k : ℕ} → w.finished j ≡ w.stopped r k → ⊥
  pub finished_one : {j k : ℕ} → w.finished j ≡ w.finished k → j ≡ k
  pub stopped_one : {r q : R} {j k : ℕ} → w.stopped r j ≡ w.stopped q k → j ≡ k

-- so many items were done: all, or those before one that fails
pub data Did {R Q A : Type 0} (w : Answering R Q A) (k : ℕ) (a : A) : Type 0 where
  all_done : a ≡ w.finished k → Did w k a
  some_done : {r : R} → a ≡ w.stopped r k → Did w k a

module _ {S I R Q A B : Type 0} (c : Call S I R Q A B) where
  module _ (p : Plain c) where
    -- no item fails that has a step
    no_stop : {t u : S} (done : List I) {i : I} (m : List I) {r : R} → Leads c.Does c.start (done ++ i ∷ m) u → Leads c.Does c.start done t → c.FailsBy t i r → ⊥
    no_stop done m w v f = let d = leads_there p.step done m w v in p.apart f d.1

    -- no second answer, and no second state
    pub followed_one : {a b : A} {t u : S} → Followed c a t → Followed c b u → (a ≡ b) × (t ≡ u)
    followed_one (all w e) (all v f) = (e ∙ sym f, leads_one p.step w v)
    followed_one (all w e) (some l i m q v g f) = absurd (no_stop l m (rw q at w) v g)
    followed_one (some l i m q v g e) (all w f) = absurd (no_stop l m (rw q at w) v g)
    followed_one {a} {b} {t} {u} (some l₁ i₁ m₁ {r = r₁} q w g e) (some l₂ i₂ m₂ {r = r₂} o v h f) = go (parts l₁ i₁ m₁ l₂ i₂ m₂ (sym q ∙ o))
      where
        go : Parts l₁ i₁ l₂ i₂ → (a ≡ b) × (t ≡ u)
        go (same x y) =
            let z = leads_one p.step w (rw (sym x) at v) in
            let n : r₁ ≡ r₂ = p.reason (rw (z, y) at g) h in
            (e ∙ (λ j. c.answers.stopped (n j) (length (x j))) ∙ sym f, z)
        go (before m x) = absurd (no_stop l₁ m (rw x at v) w g)
        go (after m x) = absurd (no_stop l₂ m (rw x at w) v h)

    -- no second outcome satisfies the same words
    pub outcome_one : {a₁ a₂ : A} {b₁ b₂ : B} → Outcome c a₁ b₁ → Outcome c a₂ b₂ → (a₁ ≡ a₂) × (b₁ ≡ b₂)
    outcome_one (refused f ea eb) (refused g ec ed) = (ea ∙ ap c.answers.refused (p.refusal f g) ∙ sym ec, eb ∙ sym ed)
    outcome_one (refused f ea eb) (followed g w ec) = absurd (p.passing f g)
    outcome_one (followed f w eb) (refused g ec ed) = absurd (p.passing g f)
    outcome_one (followed f w eb) (followed g v ed) = let e = followed_one w v in (e.0, eb ∙ ap c.left e.1 ∙ sym ed)

    -- items that all have a step are all done
    pub outcome_whole : {a : A} {b : B} {t : S} → c.Else → Leads c.Does c.start c.items t → Outcome c a b → (a ≡ c.answers.finished (length c.items)) × (b ≡ c.left t)
    outcome_whole h w o = outcome_one o (followed h (all w refl) refl)

  -- what the answer tells: the refusal; else all items, or those that lead to one that fails
  pub outcome_told : {a : A} {b : B} → Outcome c a b →
      ((e : Q) × c.Given e × (a ≡ c.answers.refused e))
      ⊎ (c.Else × ((a ≡ c.answers.finished (length c.items)) ⊎ ((done : List I) × (i : I) × (rest : List I) × (r : R) × (c.items ≡ done ++ i ∷ rest) × (a ≡ c.answers.stopped r (length done))
      × ((t : S) × Leads c.Does c.start done t × c.FailsBy t i r))))
  outcome_told (refused {e = e} h ea eb) = inl (e, h, ea)
  outcome_told (followed h (all w e) eb) = inr (h, inl e)
  outcome_told (followed {t = t} h (some done i rest {r = r} q w g e) eb) = inr (h, inr (done, i, rest, r, q, e, (t, w, g)))

  -- in short: refused, or so many items done
  pub outcome_did : {a : A} {b : B} → Outcome c a b → ((e : Q) × c.Given e × (a ≡ c.answers.refused e)) ⊎ (c.Else × (k : ℕ) × Did c.answers k a)
  outcome_did (refused {e = e} h ea eb) = inl (e, h, ea)
  outcome_did (followed h (all w e) eb) = inr (h, _, all_done e)
  outcome_did (followed h (some done i rest q w g e) eb) = inr (h, _, some_done e)

  -- where no refusal is given it passes
  pub outcome_passes : {a : A} {b : B} → Outcome c a b → ((e : Q) → ¬ c.Given e) → c.Else
  outcome_passes (refused {e = e} h ea eb) n = absurd (n e h)
  outcome_passes (followed h w eb) n = h

  module _ (x : Apart c.answers) where
    -- where it stops, the state reached is left
    pub outcome_stopped : {r : R} {k : ℕ} {b : B} → Outcome c (c.answers.stopped r k) b → c.Else × (t : S) × Followed c (c.answers.stopped r k) t × (b ≡ c.left t)
    outcome_stopped (refused h ea eb) = absurd (x.refused_stopped (sym ea))
    outcome_stopped (followed {t = t} h w eb) = (h, t, w, eb)

    -- what is refused before any item is unchanged
    pub refused_same : {e : Q} {b : B} → Outcome c (c.answers.refused e) b → b ≡ c.lent
    refused_same (refused h ea eb) = eb
    refused_same (followed h (all w e) eb) = absurd (x.refused_finished e)
    refused_same (followed h (some done i rest q w g e) eb) = absurd (x.refused_stopped e)

    -- what is left, all done or stopped, is what as many of the first items lead to
    pub outcome_reached : {a : A} {b : B} {k : ℕ} → Did c.answers k a → Outcome c a b →
        c.Else × (t : S) × (done : List I) × Leads c.Does c.start done t × (length done ≡ k) × (b ≡ c.left t) × ((rest : List I) × (c.items ≡ done ++ rest))
    outcome_reached (all_done d) (refused h ea eb) = absurd (x.refused_finished (sym ea ∙ d))
    outcome_reached (some_done d) (refused h ea eb) = absurd (x.refused_stopped (sym ea ∙ d))
    outcome_reached (all_done d) (followed {t = t} h (all w e) eb) = (h, t, c.items, w, x.finished_one (sym e ∙ d), eb, ([], sym (append-nil c.items)))
    outcome_reached (some_done d) (followed h (all w e) eb) = absurd (x.finished_stopped (sym e ∙ d))
    outcome_reached (all_done d) (followed h (some done i rest q w g e) eb) = absurd (x.finished_stopped (sym d ∙ e))
    outcome_reached (some_done d) (followed {t = t} h (some done i rest q w g e) eb) = (h, t, done, w, x.stopped_one (sym e ∙ d), eb, (i ∷ rest, q))
