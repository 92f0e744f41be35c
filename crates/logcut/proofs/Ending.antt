-- Where whole lines end: bytes are parted there in one way only, so a cut log sheet has one log.
use mathlib.Core.Path.{◌≡◌, refl, sym, ◌∙◌, ap}
use mathlib.Core.Logic.{inl, inr}
use mathlib.Core.List.{List, [], ◌∷◌, ◌++◌, append_assoc, append-nil, map, head-eq_of_cons-eq, tail-eq_of_cons-eq}
use Prim.Native.Nat.{ℕ, zero, suc, ◌-◌, ◌≤◌, ◌<◌}
use native.Mathlib.Omega.{arith}
use lib.IntN.{ℤ, pos}
use lib.ListN.{length, take, drop, get_or, take-append-drop}
use lib.Seq.{drop-cons, drop-length}
use Rattle.std.specs.Prelude.{Ok}
use Rattle.surface.specs.Limits.{least_corners}
use Rattle.refusal.specs.First.{First}
use Rattle.refusal.proofs.Laws.{verdicts, passes_none, none_yet, ◌nor◌}
use Rattle.record.specs.Layout.{width, count}
use Rattle.lines.specs.Lines.{newline, fields, line, lines}
use Rattle.lines.specs.Kinds.{K}
use Rattle.heading.specs.Heading.{first_line_lem}
use Rattle.logform.specs.LogSheet.{LOG, most_log_bytes, LogSheetOf}
use Rattle.logform.proofs.Forming.{SameLog, one_log}
use Rattle.logcut.specs.Cut.{newlines, CutOf, cut_refusals}
use Rattle.logcut.specs.Inner.{Ended, Closed, NoneAfter, WholeEnd}
use Rattle.logcut.proofs.Newlines.{newlines_append, newlines_other}

-- ---- lines end in a newline

line_ended : (w : List ℕ) (zs : List ℤ) → Ended (line w zs)
line_ended w zs = record { before = w ++ fields zs; is = sym (append_assoc w (fields zs) (newline ∷ [])) }

ended_after : (a : List ℕ) {b : List ℕ} → Ended b → Ended (a ++ b)
ended_after a e = record { before = a ++ e.before; is = ap (λ l. a ++ l) e.is ∙ sym (append_assoc a e.before (newline ∷ [])) }

-- and so do lines after one that does
lines_ended : (a w : List ℕ) (width k : ℕ) (zs : List ℤ) → Ended a → Ended (a ++ lines w width k zs)
lines_ended a w width zero zs e = rw (append-nil a) e
lines_ended a w width (suc k) zs e =
    rw (sym (append_assoc a (line w (take width zs)) (lines w width k (drop width zs)))) (lines_ended (a ++ line w (take width zs)) w width k (drop width zs) (ended_after a (line_ended w (take width zs))))

pub sheet_ended : {b : List ℕ} {n m : ℕ} {log : List ℕ} → LogSheetOf b n m log → Ended b
sheet_ended {n = n} {m} {log} s = rw s.text (lines_ended (first_line_lem LOG n m) K width (count log) (map pos log) (line_ended LOG (pos n ∷ pos m ∷ [])))

-- ---- bytes parted where whole lines end

closed_none : (a : List ℕ) → Closed a → newlines a ≡ 0 → a ≡ []
closed_none a (inl e) h = e
closed_none a (inr e) h =
    let k = ap newlines e.is ∙ newlines_append e.before (newline ∷ []) in
    let o : newlines (newline ∷ []) ≡ 1 = unfold newlines in refl in
    absurd (omega arith)

-- what is left of whole lines after their first byte
closed_rest : (c : ℕ) (a : List ℕ) → Closed (c ∷ a) → Closed a
closed_rest c a (inl e) = let z = ap length e in absurd (omega arith)
closed_rest c a (inr e) = go e.before e.is
  where
    go : (p : List ℕ) → c ∷ a ≡ p ++ (newline ∷ []) → Closed a
    go [] h = inl (tail-eq_of_cons-eq h)
    go (d ∷ p) h = inr (record { before = p; is = tail-eq_of_cons-eq h })

-- the parts are the same
parted : (a x c y : List ℕ) → a ++ x ≡ c ++ y → newlines x ≡ 0 → newlines y ≡ 0 → Closed a → Closed c → a ≡ c
parted [] x c y e hx hy ka kc =
    let h = ap newlines e ∙ newlines_append c y in
    sym (closed_none c kc (omega arith))
parted (d ∷ a) x [] y e hx hy ka kc =
    let h = sym (ap newlines e) ∙ newlines_append (d ∷ a) x in
    closed_none (d ∷ a) ka (omega arith)
parted (d ∷ a) x (f ∷ c) y e hx hy ka kc =
    let h = parted a x c y (tail-eq_of_cons-eq e) hx hy (closed_rest d a ka) (closed_rest f c kc) in
    λ i. head-eq_of_cons-eq e i ∷ h i

module _ {b : List ℕ} {k : ℕ} (w : WholeEnd b k) where
  pub cut_there : {n m : ℕ} {log : List ℕ} → LogSheetOf (take k b) n m log → CutOf b n m log
  cut_there s = record { whole = take k b; tail = drop k b; bytes = sym (take-append-drop k b); unfinished = w.none_after.unfinished; sheet = s }

  pub cut_back : {n m : ℕ} {log : List ℕ} → CutOf b n m log → LogSheetOf (take k b) n m log
  cut_back {n} {m} {log} c =
      let e = parted (take k b) (drop k b) c.whole c.tail (take-append-drop k b ∙ c.bytes) w.none_after.unfinished c.unfinished w.closed (inr (sheet_ended c.sheet)) in
      rw e c.sheet

-- a cut log sheet has one log, and one pair of counts
pub one_cut : {b : List ℕ} {n m n' m' : ℕ} {log log' : List ℕ} → CutOf b n m log → CutOf b n' m' log' → SameLog n m n' m' log log'
one_cut {b} c d =
    let e = parted c.whole c.tail d.whole d.tail (sym c.bytes ∙ d.bytes) c.unfinished d.unfinished (inr (sheet_ended c.sheet)) (inr (sheet_ended d.sheet)) in
    one_log (rw e at c.sheet) d.sheet

-- a cut log sheet of a skin's counts, within its size, passes
pub cut_passes : {b : List ℕ} {n m : ℕ} {log : List ℕ} → CutOf b n m log → length b ≤ most_log_bytes → count log ≤ n - least_corners → First (cut_refusals b n m) (Ok tt)
unfolding cut_refusals
cut_passes {n = n} {m} {log} c size few =
    (passes_none verdicts _).1 ((λ h. omega arith) nor (λ none. none n m log c) nor (λ o. let e = one_cut c o.cut in o.other (sym e.corners, sym e.rows, rw e.numbers at few)) nor none_yet)

-- ---- looked for from the end

pub none_after_end : (b : List ℕ) → NoneAfter b (length b)
none_after_end b = record { inside = omega arith; unfinished = ap newlines (drop-length b) ∙ (unfold newlines in refl) }

pub other_there : {b : List ℕ} {k : ℕ} → NoneAfter b k → 0 < k → ¬ (get_or b (k - 1) 0 ≡ newline) → NoneAfter b (k - 1)
other_there {b} {k} w h n =
    let i = w.inside in
    let again : suc (k - 1) ≡ k = omega arith in
    record {
      inside = omega arith;
      unfinished = ap newlines (drop-cons b (k - 1) 0 (omega arith) ∙ ap (λ (i : ℕ). get_or b (k - 1) 0 ∷ drop i b) again) ∙ newlines_other (get_or b (k - 1) 0) (drop k b) n ∙ w.unfinished;
    }
