-- What structs say of answers.
use Rattle.std.specs.Prelude.{◌≡◌, ℕ, Result, Ok, Err, IfOk, IfErr}
use Rattle.std.proofs.Common.{sym, subst}
use Rattle.refusal.specs.Told.{Told}
use Rattle.across.specs.Says.{Says}

-- an answer is told by its case
pub said : {A : Type 0} (told : A → Told) {a b : A} {s : Told} → a ≡ b → Says (told b) s → Says (told a) s
said told {s = s} e h = subst (λ x. Says (told x) s) (sym e) h

-- what crosses of an answer that is done or refused says it, by its two cases
pub said_crossed : {T E : Type 0} {Gives : E → ℕ → Type 0} {r : ℕ × T} {none : T} (told : Result T E → Told) (of : ℕ → T → Told) (a : Result T E)
    → IfOk a (λ v. (r.0 ≡ 0) × (r.1 ≡ v)) → IfErr a (λ e. Gives e r.0 × (r.1 ≡ none))
    → ((v : T) → Says (told (Ok v)) (of 0 v)) → ((e : E) (n : ℕ) → Gives e n → Says (told (Err e)) (of n none)) → Says (told a) (of r.0 r.1)
said_crossed told of (Ok v) d f ok err = rw (d.0, d.1) (ok v)
said_crossed {r = r} told of (Err e) d f ok err = rw f.1 (err e r.0 f.0)
