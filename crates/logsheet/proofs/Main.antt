-- No second outcome of reading or writing a log sheet; what was written reads back; and what the answer tells.
use mathlib.Core.Path.{◌≡◌, refl, sym, ◌∙◌, ap, subst}
use mathlib.Core.Logic.{◌⊎◌, inl, inr}
use mathlib.Core.List.{List, [], ◌∷◌, ◌++◌, map}
use Rattle.std.specs.Prelude.{Result, Ok, Err}
use Prim.Native.Nat.{ℕ, ◌≤◌}
use native.Mathlib.Omega.{arith}
use lib.IntN.{pos}
use lib.ListN.{length, length-append, length-map, take, drop}
use lib.Seq.{take_at}
use Rattle.refusal.specs.First.{First}
use Rattle.refusal.specs.Told as answers
use Rattle.refusal.specs.declared.Refusal.{Refusal}
use Rattle.refusal.proofs.Laws.{verdicts, first_one, refused_one, refused_passes, passes_none, none_yet, ◌nor◌}
use Rattle.text.proofs.Digits.{below_digits}
use Rattle.record.specs.Layout.{width, count}
use Rattle.lines.specs.Lines.{line}
use Rattle.lines.specs.Kinds.{K, record_lines}
use Rattle.heading.specs.Heading.{most_digits}
use Rattle.heading.proofs.Sizes.{fields_size}
use Rattle.logform.specs.LogSheet.{LOG, most_log_bytes, log_text, LogSheetOf}
use Rattle.logform.proofs.Forming.{one_log}
use Rattle.lines.proofs.Lengths.{line_length, plain_length}
use Rattle.logsheet.specs.declared.LogCounts.{LogCounts}
use Rattle.logsheet.specs.Answer.{told}
use Rattle.logsheet.specs.Outcome.{CountsOut, NoRoom, read_refusals, ReadLogSheet, refused, read, Writable, WroteLogSheet, unwritten, wrote}

-- ---- one outcome

-- no second outcome of reading
pub read_log_one : {b room room₁ room₂ : List ℕ} {a₁ a₂ : Result LogCounts Refusal} → ReadLogSheet b room room₁ a₁ → ReadLogSheet b room room₂ a₂ → (a₁ ≡ a₂) × (room₁ ≡ room₂)
read_log_one (refused f e p) (refused g d q) = (e ∙ ap Err (refused_one (first_one verdicts _ f g)) ∙ sym d, p ∙ sym q)
read_log_one (refused f e p) (read g s d q) = refused_passes (first_one verdicts _ f g)
read_log_one (read f s e p) (refused g d q) = refused_passes (first_one verdicts _ g f)
read_log_one {room = room} (read f s e p) (read g u d q) =
    let o = one_log s u in
    (e ∙ (λ i. Ok (record { corners = o.corners i; rows = o.rows i; records = count (o.numbers i) })) ∙ sym d, p ∙ (λ i. o.numbers i ++ drop (length (o.numbers i)) room) ∙ sym q)

-- no second outcome of writing
pub wrote_log_one : {n m : ℕ} {log text text₁ text₂ : List ℕ} {a₁ a₂ : Result ℕ Refusal} → WroteLogSheet n m log text text₁ a₁ → WroteLogSheet n m log text text₂ a₂ → (a₁ ≡ a₂) × (text₁ ≡ text₂)
wrote_log_one (unwritten f e p) (unwritten g d q) = (e ∙ ap Err (refused_one (first_one verdicts _ f g)) ∙ sym d, p ∙ sym q)
wrote_log_one (unwritten f e p) (wrote g w d q) = refused_passes (first_one verdicts _ f g)
wrote_log_one (wrote f w e p) (unwritten g d q) = refused_passes (first_one verdicts _ g f)
wrote_log_one (wrote f w e p) (wrote g v d q) = (e ∙ sym d, p ∙ sym q)

-- ---- what was written reads back

module _ {n m : ℕ} {log : List ℕ} (w : Writable n m log) where
  -- its text is the log sheet of the counts and the log
  pub its_log_sheet : LogSheetOf (log_text n m log) n m log
  its_log_sheet =
      let a = w.counts.many in
      let b = w.counts.most in
      record {
        text = refl;
        whole = w.whole;
        counts_short = (below_digits n most_digits (omega arith) (omega arith), (below_digits m most_digits (omega arith) (omega arith), tt));
        short = w.short;
      }

  -- it never reaches the size limit
  pub log_size : length (log_text n m log) ≤ most_log_bytes
  log_size =
      let a = w.whole in
      let b = w.counts.many in
      let c = w.counts.fewer in
      let s = its_log_sheet in
      let k = count log in
      omega (
        arith,
        length-append (line LOG (pos n ∷ pos m ∷ [])) (record_lines k log),
        line_length LOG (pos n ∷ pos m ∷ []),
        plain_length K width k log (omega arith),
        fields_size (pos n ∷ pos m ∷ []) s.counts_short,
        fields_size (map pos log) w.short,
        length-map log pos,
      )

  written_passes : {room : ℕ} → length log ≤ room → First (read_refusals (log_text n m log) room) (Ok tt)
  unfolding read_refusals
  written_passes {room} h =
      let s = its_log_sheet in
      let inside : ¬ CountsOut (log_text n m log) = λ o. let e = one_log s o.sheet in o.out (rw (e.corners, e.rows, ap count e.numbers) at w.counts) in
      let fits : ¬ NoRoom (log_text n m log) room = λ o. let e = ap length (one_log s o.sheet).numbers in let q = o.short in omega arith in
      (passes_none verdicts _).1 ((λ k. omega (arith, log_size)) nor (λ none. none n m log s) nor inside nor fits nor none_yet)

  pub reads_back : {room room' : List ℕ} {a : Result LogCounts Refusal} → length log ≤ length room → ReadLogSheet (log_text n m log) room room' a → (a ≡ Ok (record { corners = n; rows = m; records = count log })) × (room' ≡ log ++ drop (length log) room)
  reads_back h r = read_log_one r (read (written_passes h) its_log_sheet refl refl)

-- reading what was written gives the same counts and the same log
pub written_reads : {n m k : ℕ} {log text text' room room' : List ℕ} {a : Result LogCounts Refusal} → WroteLogSheet n m log text text' (Ok k) → length log ≤ length room →
    ReadLogSheet (take k text') room room' a → (a ≡ Ok (record { corners = n; rows = m; records = count log })) × (room' ≡ log ++ drop (length log) room)
written_reads (unwritten f e p) h r = let z : ◌≡◌ {A = ℕ} 0 1 = cc in absurd (omega arith)
written_reads {n} {m} {k} {log} {text} {text'} {room} {room'} {a} (wrote f w e p) h r = reads_back w h (subst (λ b. ReadLogSheet b room room' a) same r)
  where
    long : k ≡ length (log_text n m log)
    long = cc

    same : take k text' ≡ log_text n m log
    same = ap (take k) p ∙ take_at (log_text n m log) (drop (length (log_text n m log)) text) k (sym long)

-- ---- what the answer tells

pub log_sheet_told : {b room room' : List ℕ} {a : Result LogCounts Refusal} → ReadLogSheet b room room' a →
    ((r : Refusal) × First (read_refusals b (length room)) (Err r) × (told a ≡ answers.refused r))
    ⊎ (First (read_refusals b (length room)) (Ok tt) × (n m : ℕ) × (log : List ℕ) × LogSheetOf b n m log × (told a ≡ answers.done (pos n ∷ pos m ∷ pos (count log) ∷ [])))
log_sheet_told (refused {r = r} f e p) = inl (r, f, ap told e)
log_sheet_told (read {n = n} {m = m} {log = log} f s e p) = inr (f, n, m, log, s, ap told e)
