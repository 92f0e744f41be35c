-- Where P holds of the start of a call that passes, and every step keeps it, only the steps from there count. So a call has one outcome whose steps are one where P
-- holds, by the laws of the call within P.
use mathlib.Core.List.{List}
use Rattle.follow.specs.Leads.{Leads, no_step, one_step}
use Rattle.follow.specs.Follow.{Call, Followed, all, some, Outcome, refused, followed}
use Rattle.follow.proofs.Leading.{leads_keep}

module _ {S I R Q A B : Type 0} (P : S → Type 0) (c : Call S I R Q A B) where
  -- the call, its steps and failures only where P holds
  abbrev pub within : Call S I R Q A B
  within = record {
    Given = c.Given;
    Else = c.Else;
    items = c.items;
    start = c.start;
    Does = λ s i t. P s × c.Does s i t;
    FailsBy = λ s i r. P s × c.FailsBy s i r;
    answers = c.answers;
    lent = c.lent;
    left = c.left;
  }

  module _ (begins : c.Else → P c.start) (keeps : (s t : S) (i : I) → P s → c.Does s i t → P t) where
    leads_within : {s t : S} {l : List I} → P s → Leads c.Does s l t → Leads within.Does s l t
    leads_within p (no_step e) = no_step e
    leads_within p (one_step {s = s} {u = u} {i = i} d w) = one_step (p, d) (leads_within (keeps s u i p d) w)

    followed_within : {a : A} {t : S} → P c.start → Followed c a t → Followed within a t
    followed_within p (all w e) = all (leads_within p w) e
    followed_within p (some done i rest q w f e) = some done i rest q (leads_within p w) (leads_keep P keeps p w, f) e

    -- its outcome is the call's
    pub outcome_within : {a : A} {b : B} → Outcome c a b → Outcome within a b
    outcome_within (refused h ea eb) = refused h ea eb
    outcome_within (followed h w eb) = followed h (followed_within (begins h) w) eb
