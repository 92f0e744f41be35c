-- No second outcome satisfies the words of the desk's answer; a text of 65,536 bytes always suffices; and what the answer tells.
use mathlib.Core.Path.{◌≡◌, sym, ◌∙◌, ap, subst}
use mathlib.Core.Logic.{◌⊎◌, inl, inr}
use mathlib.Core.Bool.{true}
use mathlib.Core.List.{List, [], ◌∷◌, ◌++◌}
use Prim.Native.Nat.{ℕ, ◌≤◌, ◌<◌}
use native.Mathlib.Omega.{arith}
use lib.IntN.{ℤ, pos}
use lib.ListN.{length, drop}
use Rattle.std.specs.Prelude.{Result, Ok, Err}
use Rattle.surface.specs.Rows.{rows}
use Rattle.refusal.specs.declared.Refusal.{Refusal}
use Rattle.refusal.specs.declared.Refusal.TheVariants.{RoomShort}
use Rattle.refusal.specs.First.{First}
use Rattle.refusal.specs.Told.{done, refused}
use Rattle.refusal.proofs.Laws.{verdicts, first_one, refused_one, refused_passes}
use Rattle.faults.specs.Order.{refusals_after_counts}
use Rattle.run.proofs.Main.{run_one}
use Rattle.form.proofs.One.{Same, one_skin}
use Rattle.tell.specs.Text.{most_text, no_text, ok_text}
use Rattle.tell.specs.Answer.{told}
use Rattle.reply.specs.Outcome.{NoSkin, bad_form, bad_skin, SkinOf, TellsRun, Answers, no, ok, Replied}
use Rattle.tell.specs.Put.{Put, fits, short}
use Rattle.reply.proofs.Most.{answer_fits}

-- ---- one text for any bytes

-- the verdict on what a sheet holds, by another name of that
moved : {n m i j : ℕ} {xs ys : List ℤ} {t u : List ℕ} (v : Result Unit Refusal) → Same n m i j xs ys t u → First (refusals_after_counts true xs t) v → First (refusals_after_counts true ys u) v
moved v s f = rw (s.coordinates, s.numbers) at f

no_skin_one : {b : List ℕ} {r q : Refusal} → NoSkin b r → NoSkin b q → r ≡ q
no_skin_one (bad_form f) (bad_form g) = refused_one (first_one verdicts _ f g)
no_skin_one (bad_form f) (bad_skin g s k) = refused_passes (first_one verdicts _ f g)
no_skin_one (bad_skin f s k) (bad_form g) = refused_passes (first_one verdicts _ g f)
no_skin_one {r = r} (bad_skin f s k) (bad_skin g u l) = refused_one (first_one verdicts _ (moved (Err r) (one_skin s u) k) l)

-- what is refused holds no skin
pub no_skin_or_skin : {X : Type 0} {b : List ℕ} {r : Refusal} {xs : List ℤ} {t : List ℕ} → NoSkin b r → SkinOf b xs t → X
no_skin_or_skin (bad_form f) w = refused_passes (first_one verdicts _ f w.form)
no_skin_or_skin {r = r} (bad_skin f s k) w = refused_passes (first_one verdicts _ (moved (Err r) (one_skin s w.sheet) k) w.passes)

tells_one : {xs : List ℤ} {t txt txt₂ : List ℕ} → TellsRun xs t txt → TellsRun xs t txt₂ → txt ≡ txt₂
tells_one {xs} {t} p q = let e = run_one p.run q.run in p.text ∙ (λ i. ok_text xs (rows t) (e.0 i) (e.1 i)) ∙ sym q.text

pub answers_one : {b txt txt₂ : List ℕ} → Answers b txt → Answers b txt₂ → txt ≡ txt₂
answers_one (no k e) (no l d) = e ∙ ap no_text (no_skin_one k l) ∙ sym d
answers_one (no k e) (ok w q) = no_skin_or_skin k w
answers_one (ok w p) (no k e) = no_skin_or_skin k w
answers_one (ok w p) (ok z q) = let s = one_skin w.sheet z.sheet in tells_one (rw (s.coordinates, s.numbers) at p) q

-- of a skin's sheet it tells the run
pub skin_tells : {b txt : List ℕ} {xs : List ℤ} {t : List ℕ} → Answers b txt → SkinOf b xs t → TellsRun xs t txt
skin_tells (no k e) w = no_skin_or_skin k w
skin_tells (ok z p) w = let s = one_skin z.sheet w.sheet in rw (s.coordinates, s.numbers) at p

-- ---- one outcome

put_one : {txt text : List ℕ} {a b : Result ℕ Refusal} {t u : List ℕ} → Put txt text a t → Put txt text b u → (a ≡ b) × (t ≡ u)
put_one (fits h e p) (fits k d q) = (e ∙ sym d, p ∙ sym q)
put_one (fits h e p) (short k d q) = absurd (omega arith)
put_one (short h e p) (fits k d q) = absurd (omega arith)
put_one (short h e p) (short k d q) = (e ∙ sym d, p ∙ sym q)

-- no second outcome satisfies the same words
pub replied_one : {b text : List ℕ} {a₁ a₂ : Result ℕ Refusal} {text₁ text₂ : List ℕ} → Replied b text a₁ text₁ → Replied b text a₂ text₂ → (a₁ ≡ a₂) × (text₁ ≡ text₂)
replied_one {text = text} {a₁} {text₁ = text₁} p q = put_one (subst (λ x. Put x text a₁ text₁) (answers_one p.answers q.answers) p.put) q.put

-- ---- a text of 65,536 bytes always suffices

pub reply_suffices : {b text : List ℕ} {a : Result ℕ Refusal} {text' : List ℕ} → most_text ≤ length text → (r : Replied b text a text') →
    (a ≡ Ok (length r.txt)) × (text' ≡ r.txt ++ drop (length r.txt) text)
reply_suffices {text = text} {a} {text'} h r = go (answer_fits r.answers) r.put
  where
    go : {txt : List ℕ} → length txt ≤ most_text → Put txt text a text' → (a ≡ Ok (length txt)) × (text' ≡ txt ++ drop (length txt) text)
    go k (fits f e p) = (e, p)
    go k (short f e p) = absurd (omega arith)

-- ---- what the answer tells

-- 0 and the length of the text, which stands in front; or 3, and nothing is written
pub reply_told : {b text : List ℕ} {a : Result ℕ Refusal} {text' : List ℕ} → (r : Replied b text a text') →
    ((length r.txt ≤ length text) × (told a ≡ done (pos (length r.txt) ∷ [])) × (text' ≡ r.txt ++ drop (length r.txt) text))
    ⊎ ((length text < length r.txt) × (told a ≡ refused RoomShort) × (text' ≡ text))
reply_told {text = text} {a} {text'} r = go r.put
  where
    go : {txt : List ℕ} → Put txt text a text' →
        ((length txt ≤ length text) × (told a ≡ done (pos (length txt) ∷ [])) × (text' ≡ txt ++ drop (length txt) text))
        ⊎ ((length text < length txt) × (told a ≡ refused RoomShort) × (text' ≡ text))
    go (fits f e p) = inl (f, ap told e, p)
    go (short f e p) = inr (f, ap told e, p)
