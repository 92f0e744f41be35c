-- The items of a call done so far, as a loop counts them.
use mathlib.Core.Path.{◌≡◌, refl, sym, ◌∙◌, ap}
use mathlib.Core.List.{[], ◌∷◌, ◌++◌}
use Prim.Native.Nat.{ℕ, suc, ◌+◌, ◌≤◌, ◌<◌}
use native.Mathlib.Numerals.{add-one}
use native.Mathlib.Omega.{arith}
use lib.ListN.{length, take, drop, get_or, take-append-drop, length-append}
use lib.Seq.{take-suc, take-length, take_at, length-take-le, drop-cons}
use Rattle.follow.specs.Leads.{Leads, no_step}
use Rattle.follow.specs.Follow.{Call, Followed, all, some, Outcome}
use Rattle.follow.proofs.Leading.{leads_more}
use Rattle.follow.proofs.Following.{Apart, Did, outcome_reached}

module _ {S I R Q A B : Type 0} (c : Call S I R Q A B) where
  -- k items are done, and they lead to t
  pub record Upto (k : ℕ) (t : S) : Type 0 where
    pub within : k ≤ length c.items
    pub led : Leads c.Does c.start (take k c.items) t

  pub upto_none : Upto 0 c.start
  upto_none = record { within = omega arith; led = no_step refl }

  module _ {k : ℕ} {t : S} (u : Upto k t) where
    pub upto_all : length c.items ≤ k → Followed c (c.answers.finished k) t
    upto_all h =
        let w = u.within in
        let e : k ≡ length c.items = omega arith in
        all (rw (ap (λ n. take n c.items) e ∙ take-length c.items) at u.led) (ap c.answers.finished e)

    -- the next item is i
    module _ (h : k < length c.items) (i : I) (is : get_or c.items k i ≡ i) where
      split : c.items ≡ take k c.items ++ i ∷ drop (suc k) c.items
      split = sym (take-append-drop k c.items) ∙ ap (λ l. take k c.items ++ l) (drop-cons c.items k i h ∙ ap (λ j. j ∷ drop (suc k) c.items) is)

      pub upto_fails : {r : R} → c.FailsBy t i r → Followed c (c.answers.stopped r k) t
      upto_fails {r} f = some (take k c.items) i (drop (suc k) c.items) split u.led f (ap (c.answers.stopped r) (sym (length-take-le k c.items (omega arith))))

      pub upto_more : {v : S} → c.Does t i v → Upto (k + 1) v
      upto_more d = record {
        within = omega arith;
        led = rw (add-one k) (rw (take-suc c.items k i h ∙ ap (λ j. take k c.items ++ (j ∷ [])) is) (leads_more u.led d));
      }

  -- what is left, all done or stopped, is what so many items lead to
  pub outcome_upto : Apart c.answers → {a : A} {b : B} {k : ℕ} → Did c.answers k a → Outcome c a b → c.Else × (t : S) × Upto k t × (b ≡ c.left t)
  outcome_upto x {k = k} d o =
      let r = outcome_reached c x d o in
      let q = r.6.1 in
      let e = ap length q ∙ length-append r.2 r.6.0 in
      let n = r.4 in
      (r.0, r.1, record { within = omega arith; led = rw (ap (take k) q ∙ take_at r.2 r.6.0 k n) r.3 }, r.5)
