-- What the desk has to say stands in front of a text that suffices.
use mathlib.Core.Path.{◌≡◌, sym, ◌∙◌, ap, subst}
use mathlib.Core.List.{List}
use Prim.Native.Nat.{ℕ, ◌≤◌}
use native.Mathlib.Omega.{arith}
use lib.ListN.{length, length-append, take, drop}
use lib.Seq.{take_at, length-take-le}
use Rattle.std.specs.Prelude.{Result, Ok}
use Rattle.io.specs.Counts.{IsPrefixLen}
use Rattle.refusal.specs.declared.Refusal.{Refusal}
use Rattle.tell.specs.Text.{most_text}
use Rattle.reply.specs.Outcome.{Answers, Replied}
use Rattle.reply.proofs.Main.{reply_suffices}

-- the first n of at least as many
pub counted : (n : ℕ) (l : List ℕ) → n ≤ length l → IsPrefixLen n l
counted n l h = (h, sym (length-take-le n l h))

module _ {b text text' : List ℕ} {a : Result ℕ Refusal} (enough : most_text ≤ length text) (r : Replied b text a text') where
  pub stands_there : {n : ℕ} → a ≡ Ok n → Answers b (take n text') × IsPrefixLen n text'
  stands_there {n} e =
      let s = reply_suffices enough r in
      let t = r.txt in
      let d = s.0 in
      let k : n ≡ length t = cc in
      let f : take n text' ≡ t = ap (take n) s.1 ∙ take_at t (drop (length t) text) n (sym k) in
      (subst (Answers b) (sym f) r.answers, counted n text' (omega (arith, ap length s.1, length-append t (drop (length t) text))))
