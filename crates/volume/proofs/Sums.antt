-- The theorems on exact sums: no second answer, refused as the volume is, and the volume is the figure of the sum.
use mathlib.Core.Path.{◌≡◌, refl, sym, ◌∙◌, ap}
use mathlib.Core.List.{List, [], ◌∷◌}
use Prim.Native.Nat.{ℕ}
use lib.IntN.{ℤ, pos, ◌+ℤ◌, ◌*ℤ◌}
use Rattle.std.specs.Prelude.{Ok, Err, Result}
use Rattle.surface.specs.Rows.{rows}
use Rattle.refusal.specs.declared.Refusal.{Refusal}
use Rattle.refusal.specs.Told.{Told, done, refused}
use Rattle.refusal.specs.Outcome.{outcome}
use Rattle.refusal.proofs.Laws.{refused_passes}
use Rattle.refusal.proofs.Outcome.{tells_refusal, refused_done}
use Rattle.faults.specs.Order.{CheckedStageAt}
use Rattle.faults.proofs.Order.{one_stage_at}
use Rattle.wide.specs.declared.Wide.{Wide}
use Rattle.wide.specs.Rounding.{divisor, figure}
use Rattle.wide.proofs.Laws.{split, exact_there, exact_one}
use Rattle.figure.specs.Sum.{sixfold}
use Rattle.volume.specs.Answer.{told_exact}
use Rattle.volume.specs.Report.{VolumeReport, ExactReport, summed, unsummed}
use Rattle.volume.proofs.Laws.{volume_done, volume_refused, exact_done, exact_refused}

-- ---- no second answer

pub exact_report_one : {xs : List ℤ} {t : List ℕ} {a b : Told} → ExactReport xs t a → ExactReport xs t b → a ≡ b
exact_report_one (unsummed {r} c p) (unsummed {r = s} d q) = let e = one_stage_at c d in let h : r ≡ s = cc in p ∙ ap refused h ∙ sym q
exact_report_one (unsummed c p) (summed d y q) = refused_passes (one_stage_at c d)
exact_report_one (summed c x p) (unsummed d q) = refused_passes (one_stage_at d c)
exact_report_one (summed c x p) (summed d y q) = p ∙ ap (λ (w : Wide). done (w.whole ∷ pos w.rest ∷ [])) (exact_one x y) ∙ sym q

-- what is told tells the answer
told_exact_one : (a b : Result Wide Refusal) → told_exact a ≡ told_exact b → a ≡ b
told_exact_one (Ok w) (Ok v) e =
    let k = ap (λ (t : Told). t.values) e in
    let p : w.whole ≡ v.whole = cc in
    let q : w.rest ≡ v.rest = cc in
    λ i. Ok (record { whole = p i; rest = q i })
told_exact_one (Ok w) (Err s) e = absurd (refused_done s (sym e))
told_exact_one (Err r) (Ok v) e = absurd (refused_done r e)
told_exact_one (Err r) (Err s) e = ap Err (tells_refusal e)

pub exact_sum_one : {xs : List ℤ} {t : List ℕ} (a b : Result Wide Refusal) → ExactReport xs t (told_exact a) → ExactReport xs t (told_exact b) → a ≡ b
exact_sum_one a b p q = told_exact_one a b (exact_report_one p q)

-- an exact sum is told, and the figure f is that of it
pub record FigureOf (xs : List ℤ) (t : List ℕ) (f : ℤ) : Type 0 where
  pub whole : ℤ
  pub rest : ℕ
  pub exact : ExactReport xs t (done (whole ∷ pos rest ∷ []))
  pub rounded : f ≡ figure (pos divisor *ℤ whole +ℤ pos rest)

module _ {xs : List ℤ} {t : List ℕ} where
  -- ---- the volume is the figure of the exact sum

  pub exact_volume : {whole : ℤ} {rest : ℕ} → ExactReport xs t (done (whole ∷ pos rest ∷ [])) → VolumeReport xs t (done (figure (pos divisor *ℤ whole +ℤ pos rest) ∷ []))
  exact_volume (unsummed {r} c e) = absurd (refused_done r (sym e))
  exact_volume {whole} {rest} (summed {w} c x e) =
      let k = ap (λ (a : Told). a.values) e in
      let p : whole ≡ w.whole = cc in
      let q : rest ≡ w.rest = cc in
      volume_done c refl (ap figure ((λ i. pos divisor *ℤ p i +ℤ pos (q i)) ∙ x.is))

  -- and where a volume is told, so is the sum
  pub volume_exact : {f : ℤ} → VolumeReport xs t (done (f ∷ [])) → FigureOf xs t f
  volume_exact {f} v = go v.verdict v.checked v.tells
    where
      go : (u : Result Unit Refusal) → CheckedStageAt xs t u → done (f ∷ []) ≡ outcome u (figure (sixfold xs (rows t)) ∷ []) → FigureOf xs t f
      go (Ok tt) c e =
          let k = ap (λ (a : Told). a.values) e in
          let h : f ≡ figure (sixfold xs (rows t)) = cc in
          let x = exact_there (sixfold xs (rows t)) in
          let w = split (sixfold xs (rows t)) in
          record { whole = w.whole; rest = w.rest; exact = exact_done c refl x; rounded = h ∙ ap figure (sym x.is) }
      go (Err r) c e = absurd (refused_done r (sym e))

  -- ---- refused with the same number

  pub refused_volume : (r : Refusal) → ExactReport xs t (refused r) → VolumeReport xs t (refused r)
  refused_volume r (unsummed c e) = rw e (volume_refused c refl)
  refused_volume r (summed c x e) = absurd (refused_done r e)

  pub refused_exact : (r : Refusal) → VolumeReport xs t (refused r) → ExactReport xs t (refused r)
  refused_exact r v = go v.verdict v.checked v.tells
    where
      go : (u : Result Unit Refusal) → CheckedStageAt xs t u → refused r ≡ outcome u (figure (sixfold xs (rows t)) ∷ []) → ExactReport xs t (refused r)
      go (Ok tt) c e = absurd (refused_done r e)
      go (Err s) c e = rw e (exact_refused c refl)
