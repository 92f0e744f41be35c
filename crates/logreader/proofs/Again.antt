-- A reader asked: no second answer, and no second reader after it. Asked again and again it gives the records asked for one by one.
use mathlib.Core.Path.{◌≡◌, refl, sym, ◌∙◌, ap}
use mathlib.Core.List.{List}
use Prim.Native.Nat.{ℕ}
use native.Mathlib.Omega.{arith}
use lib.IntN.{pos, nat_abs}
use lib.ListN.{get_or}
use denote.Ref.{Bor}
use Rattle.refusal.specs.Told.{Told}
use Rattle.follow.specs.Leads.{Leads, no_step, one_step}
use Rattle.surface.specs.Record as surface
use Rattle.logrecords.specs.declared.Next.{Next}
use Rattle.logrecords.specs.declared.Next.TheVariants.{Found, End, Bad}
use Rattle.logrecords.specs.Answer.{told_next}
use Rattle.logrecords.specs.Walk.{told_record, Tells, Gives, Walked, Broken}
use Rattle.logrecords.proofs.Main.{next_one}
use Rattle.logreader.specs.declared.Reader.{Reader}
use Rattle.logreader.specs.declared.Answered.{Answered}
use Rattle.logreader.specs.Outcome.{place_after, Asked, AnsweredAt}
use Rattle.logreader.specs.Walk.{TellsOn, GivesOn, AskedOn, BrokenOn}

pub asked_one : {r r₁ r₂ : Reader} {a₁ a₂ : Next} → Asked r r₁ a₁ → Asked r r₂ a₂ → (a₁ ≡ a₂) × (r₁.bytes ≡ r₂.bytes) × (r₁.at ≡ r₂.at)
asked_one {r} p q = let e = next_one p.answer q.answer in (e, p.same ∙ sym q.same, p.place ∙ ap (λ a. place_after a r.at) e ∙ sym q.place)

pub answered_one : {b : List ℕ} {at : ℕ} {a₁ a₂ : Answered} → AnsweredAt b at a₁ → AnsweredAt b at a₂ → (a₁.next ≡ a₂.next) × (a₁.at ≡ a₂.at)
answered_one {at = at} p q = let e = next_one p.answer q.answer in (e, p.kept ∙ ap (λ a. place_after a at) e ∙ sym q.kept)

-- the value at place i of what is told
abbrev value : ℕ → Told → ℕ
value i v = nat_abs (get_or v.values i (pos 0))

module _ (bytes : Bor (List ℕ)) where
  abbrev reader : ℕ → Reader
  reader at = record { bytes = bytes; at = at }

  -- what the bytes tell at a place, a reader tells that stands there; where it stands then is the answer's to say
  tells_on : {at to : ℕ} {v : Told} (t : Tells bytes.now at v) → to ≡ place_after t.answer at → TellsOn (reader at) v (reader to)
  tells_on t e = record { answer = t.answer; asked = record { same = refl; answer = t.asked; place = e }; tells = t.tells }

  -- where a record is told, the reader stands at the place told
  moved : (at to : ℕ) (k : surface.Record) (a : Next) → told_next a ≡ told_record k to → to ≡ place_after a at
  moved at to k (Found r c) e = sym (ap (value 1) e)
  moved at to k (End c) e = let f : ◌≡◌ {A = ℕ} 0 1 = ap (value 0) e in absurd (omega arith)
  moved at to k Bad e = let f : ◌≡◌ {A = ℕ} 12 0 = ap (λ (v : Told). v.number) e in absurd (omega arith)

  -- where none is told it stays
  stays : (at : ℕ) (a : Next) {v : Told} → told_next a ≡ v → ¬ (value 0 v ≡ 1) → at ≡ place_after a at
  stays at (Found r c) e n = absurd (n (sym (ap (value 0) e)))
  stays at (End c) e n = refl
  stays at Bad e n = refl

  leads_on : {at to : ℕ} {rs : List surface.Record} → Leads (Gives bytes.now) at rs to → Leads GivesOn (reader at) rs (reader to)
  leads_on (no_step e) = no_step (ap reader e)
  leads_on {at = at} (one_step {u = u} {i = k} g w) = one_step {u = reader u} (tells_on g (moved at u k g.answer g.tells)) (leads_on w)

  pub walks_asked : {at : ℕ} {rs : List surface.Record} → Walked bytes.now at rs → AskedOn (reader at) rs
  walks_asked w = let t = w.ends in record { last = reader w.to; gives = leads_on w.gives; ends = tells_on t (stays w.to t.answer t.tells (λ e. omega arith)) }

  pub breaks_asked : {at : ℕ} {rs : List surface.Record} → Broken bytes.now at rs → BrokenOn (reader at) rs
  breaks_asked w = let t = w.bad in record { last = reader w.to; gives = leads_on w.gives; bad = tells_on t (stays w.to t.answer t.tells (λ e. omega arith)) }
