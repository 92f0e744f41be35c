-- A call that follows a list on what it was lent: refused before any item is done, it changes nothing; else its items are done one by one, up to the first
-- that fails. What a state and an item are, what a step does, why an item fails, and how all this is answered are the call's own.
use Rattle.std.specs.Prelude.{◌≡◌, List, ◌∷◌, ◌++◌, ℕ, length}
use Rattle.follow.specs.Leads.{Leads}

-- how such a call is answered: refused; all items done; so many done, and the next one fails for a reason
pub record Answering (R Q A : Type 0) : Type 0 where
  pub refused : Q → A
  pub finished : ℕ → A
  pub stopped : R → ℕ → A

-- states S, items I, reasons why an item fails R, refusals before any item Q, answers A, lent memory B
pub record Call (S I R Q A B : Type 0) : Type 1 where
  -- which refusal is given before any item is done, and what holds where none is
  pub Given : Q → Type 0
  pub Else : Type 0
  -- the items, and the state that they start from
  pub items : List I
  pub start : S
  -- the step of an item leads from a state to a state; or the item fails there, for a reason
  pub Does : S → I → S → Type 0
  pub FailsBy : S → I → R → Type 0
  pub answers : Answering R Q A
  -- what was lent, and what a state leaves there
  pub lent : B
  pub left : S → B

-- the answer a and the state t that the items lead to: all are done, or those before one that fails there
pub data Followed {S I R Q A B : Type 0} (c : Call S I R Q A B) (a : A) (t : S) : Type 0 where
  all : Leads c.Does c.start c.items t → a ≡ c.answers.finished (length c.items) → Followed c a t
  some : (done : List I) (i : I) (rest : List I) {r : R} → c.items ≡ done ++ i ∷ rest → Leads c.Does c.start done t → c.FailsBy t i r → a ≡ c.answers.stopped r (length done) → Followed c a t

-- the answer a, and what then stands in what was lent
pub data Outcome {S I R Q A B : Type 0} (c : Call S I R Q A B) (a : A) (b : B) : Type 0 where
  refused : {e : Q} → c.Given e → a ≡ c.answers.refused e → b ≡ c.lent → Outcome c a b
  followed : {t : S} → c.Else → Followed c a t → b ≡ c.left t → Outcome c a b
