-- What is written is one `NO` line or the whole `OK` text: no part of the one before the other.
use mathlib.Core.Path.{◌≡◌, refl, ap, subst}
use mathlib.Core.List.{List, ◌∷◌}
use Prim.Native.Nat.{ℕ}
use native.Mathlib.Omega.{arith}
use lib.IntN.{ℤ}
use lib.ListN.{get_or}
use Rattle.std.specs.Prelude.{Result, Ok}
use Rattle.refusal.specs.declared.Refusal.{Refusal}
use Rattle.tell.specs.Text.{no_text}
use Rattle.reply.specs.Outcome.{NoSkin, SkinOf, TellsRun, no, ok, Replied}
use Rattle.tell.specs.Put.{Put, fits, short}
use Rattle.reply.proofs.Main.{answers_one}

-- where a sheet is refused, the `NO` line is all that is put into the lent text
pub no_line : {b text : List ℕ} {r : Refusal} {a : Result ℕ Refusal} {text' : List ℕ} → NoSkin b r → Replied b text a text' → Put (no_text r) text a text'
no_line {b} {text} {r} {a} {text'} n w = subst (λ x. Put x text a text') (answers_one w.answers (no n refl)) w.put

-- where it is that of a skin, the `OK` text is, whole
pub ok_whole : {b text : List ℕ} {xs : List ℤ} {t : List ℕ} {a : Result ℕ Refusal} {text' txt : List ℕ} → SkinOf b xs t → TellsRun xs t txt → Replied b text a text' → Put txt text a text'
ok_whole {text = text} {a = a} {text' = text'} s t w = subst (λ x. Put x text a text') (answers_one w.answers (ok s t)) w.put

-- one that begins with `OK`, and goes on with `NO` when it finds that the sheet is refused: not even the letter O, 79, is written there
pub no_after_ok : {b text : List ℕ} {r : Refusal} {k : ℕ} {rest : List ℕ} → NoSkin b r → ¬ Replied b text (Ok k) (79 ∷ rest)
unfolding no_text
no_after_ok {text = text} {r} {k} {rest} n w = go (no_line n w)
  where
    go : ¬ Put (no_text r) text (Ok k) (79 ∷ rest)
    go (fits h e p) = let f : ◌≡◌ {A = ℕ} 79 78 = ap (λ l. get_or l 0 0) p in omega arith
    go (short h e p) = let z : ◌≡◌ {A = ℕ} 0 1 = cc in omega arith
