-- How long the lines are, and that one after the other they are the text.
use mathlib.Core.Path.{◌≡◌, refl, sym, ◌∙◌, ap, subst}
use mathlib.Core.List.{List, [], ◌∷◌, ◌++◌, append-nil, map}
use Prim.Native.Nat.{ℕ, ◌+◌, ◌*◌, ◌/◌, ◌≤◌, ◌<◌}
use native.Mathlib.Omega.{arith}
use lib.IntN.{ℤ, pos}
use lib.ListN.{length, length-append}
use mir.Syntax.{w64}
use mir.Val.{SFits, to_z, of_z}
use mir.ValLaws.{to_z-of_z}
use Rattle.std.specs.Prelude.{Ok}
use Rattle.refusal.specs.declared.Refusal.{Refusal}
use Rattle.refusal.specs.Number.{number}
use Rattle.text.specs.InnerReading.{Written}
use Rattle.record.specs.Layout.{width, count}
use Rattle.lines.specs.Lines.{fields, line}
use Rattle.lines.specs.Kinds.{R, K, row_lines, record_lines}
use Rattle.lines.proofs.Lengths.{line_length, plain_length}
use Rattle.lines.proofs.Turns.{in_front}
use Rattle.writing.proofs.Writing.{Onward, onward_start, onward, onward_end, onward_fits, onward_front}
use Rattle.tell.specs.Text.{OK, NO, no_text, run_text}
use Rattle.tell.specs.Put.{Put, fits}
use Rattle.tell.specs.Inner.{most_told, CanTell}

-- what is written from the start on stands in front, the rest as it was
pub put_front : {txt l l' : List ℕ} {r : ℕ} → length txt ≤ length l → Written l 0 txt r l' → Put txt l (Ok r) l'
put_front {txt} {l} {r = r} h p =
    let a = p.place in
    let e : r ≡ length txt = omega arith in
    fits h (ap Ok e) (p.text ∙ in_front l txt h)

-- a small number as the machine has it with a sign
small_fits : (n : ℕ) → n ≤ most_told → SFits w64 (pos n)
small_fits n h = record { sfits = omega arith }

small_is : (n : ℕ) → n ≤ most_told → to_z w64 n ≡ pos n
small_is n h = to_z-of_z w64 (pos n) (small_fits n h)

-- ---- the line of a refusal

module _ (r : Refusal) (n : ℕ) (e : n ≡ number r) (f : n ≤ most_told) where
  -- its number as the machine has it
  abbrev pub machine_number : List ℤ
  machine_number = to_z w64 n ∷ []

  no_line : line NO machine_number ≡ no_text r
  unfolding no_text
  no_line = ap (λ z. line NO (z ∷ [])) (small_is n f ∙ ap pos e)

  pub no_measured : length (no_text r) ≡ 3 + length (fields machine_number)
  no_measured = sym (ap length no_line) ∙ line_length NO machine_number ∙ (omega arith)

  module _ (l : List ℕ) (room : length (no_text r) ≤ length l) where
    pub no_fits : 0 + length (line NO machine_number) ≤ length l
    no_fits = let e = ap length no_line in omega arith

    pub no_written : {k : ℕ} {l₁ : List ℕ} → Written l 0 (line NO machine_number) k l₁ → Put (no_text r) l (Ok k) l₁
    no_written p = put_front room (rw no_line at p)

-- ---- the lines of a run

module _ (t log : List ℕ) (before after : ℤ) (g : CanTell t log) where
  abbrev m : ℕ
  m = length t / 3

  abbrev k : ℕ
  k = count log

  abbrev head : List ℤ
  head = pos m ∷ pos k ∷ before ∷ after ∷ []

  -- as the machine has it
  abbrev pub machine_head : List ℤ
  machine_head = to_z w64 m ∷ to_z w64 k ∷ to_z w64 (of_z w64 before) ∷ to_z w64 (of_z w64 after) ∷ []

  all_rows : length t ≡ m * 3
  all_rows = let h = g.threes in omega arith

  all_records : length log ≡ k * width
  all_records = let h = g.whole in omega arith

  run_length : length (run_text t log before after) ≡ 3 + 2 * (m + k) + length (fields head) + (length (fields (map pos t)) + length (fields (map pos log)))
  unfolding run_text
  run_length =
      omega (
        arith,
        length-append (line OK head) (row_lines m t ++ record_lines k log),
        length-append (row_lines m t) (record_lines k log),
        line_length OK head,
        plain_length R 3 m t all_rows,
        plain_length K width k log all_records,
      )

  module _ (fb : SFits w64 before) (fa : SFits w64 after) where
    head_is : machine_head ≡ head
    head_is =
        let u = g.table_fits in
        let v = g.log_fits in
        let em = small_is m (omega arith) in
        let ek = small_is k (omega arith) in
        λ i. em i ∷ ek i ∷ to_z-of_z w64 before fb i ∷ to_z-of_z w64 after fa i ∷ []

    -- what is measured is the length of the text
    module _ {a b c : ℕ} (first : a ≡ length (fields machine_head)) (rows : b ≡ length (fields (map pos t))) (records : c ≡ length (fields (map pos log))) where
      measured : length (run_text t log before after) ≡ 3 + 2 * (m + k) + a + (b + c)
      measured = let e = ap (λ l. length (fields l)) head_is in omega (arith, run_length)

      pub too_long : {n : ℕ} → n < 3 + 2 * (m + k) + a + (b + c) → n < length (run_text t log before after)
      too_long h = omega (arith, measured)

      pub room_enough : {n : ℕ} → 3 + 2 * (m + k) + a + (b + c) ≤ n → length (run_text t log before after) ≤ n
      room_enough h = omega (arith, measured)

    -- the three parts written one after the other
    module _ (l : List ℕ) (room : length (run_text t log before after) ≤ length l) where
      open_fits : 0 + length (run_text t log before after) ≤ length l
      open_fits = omega arith

      pub first_fits : 0 + length (line OK machine_head) ≤ length l
      unfolding run_text
      first_fits = let e = ap (λ l. length (line OK l)) head_is in omega (arith, onward_front (line OK head) (row_lines m t ++ record_lines k log) (onward_start l 0 (run_text t log before after)) open_fits)

      module _ {r : ℕ} {l₁ : List ℕ} (p : Written l 0 (line OK machine_head) r l₁) where
        after_first : Onward l 0 (run_text t log before after) l₁ r (row_lines m t ++ record_lines k log)
        unfolding run_text
        after_first = onward _ (line OK head) (row_lines m t ++ record_lines k log) refl (onward_start l 0 (run_text t log before after)) (subst (λ hs. Written l 0 (line OK hs) r l₁) head_is p)

        pub rows_fit : r + length (row_lines m t) ≤ length l₁
        rows_fit = onward_front (row_lines m t) (record_lines k log) after_first open_fits

        module _ {r₂ : ℕ} {l₂ : List ℕ} (q : Written l₁ r (row_lines m t) r₂ l₂) where
          after_rows : Onward l 0 (run_text t log before after) l₂ r₂ (record_lines k log)
          after_rows = onward _ (row_lines m t) (record_lines k log) refl after_first q

          pub records_fit : r₂ + length (record_lines k log) ≤ length l₂
          records_fit = onward_fits (record_lines k log) after_rows open_fits

          pub run_written : {r₃ : ℕ} {l₃ : List ℕ} → Written l₂ r₂ (record_lines k log) r₃ l₃ → Put (run_text t log before after) l (Ok r₃) l₃
          run_written w = put_front room (onward_end (onward _ (record_lines k log) [] (sym (append-nil _)) after_rows w))
