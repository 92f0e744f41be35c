-- A log sheet cut after so many bytes: the whole lines that survived are the log sheet of the first records.
use mathlib.Core.Path.{◌≡◌, refl, sym, ◌∙◌, ap}
use mathlib.Core.List.{List, [], ◌∷◌, ◌++◌, append_assoc, map}
use Prim.Native.Nat.{ℕ, zero, suc, ◌+◌, ◌-◌, ◌*◌, ◌≤◌, ◌<◌}
use native.Mathlib.Decide.{dec_lt}
use native.Mathlib.Omega.{arith}
use lib.IntN.{ℤ, pos}
use lib.ListN.{length, length-append, length-map, length-drop, take, drop, take-append-drop}
use lib.Seq.{take-append-le, drop-append-le, take-append-add, length-take-le}
use Rattle.record.specs.Layout.{width, count, room_for}
use Rattle.lines.specs.Lines.{newline, fields, line, lines}
use Rattle.lines.specs.Kinds.{K, record_lines}
use Rattle.lines.proofs.Cut.{map_take, short_left}
use Rattle.heading.specs.Heading.{most_digits, first_line_lem}
use Rattle.logform.specs.LogSheet.{LOG, log_text, LogSheetOf}
use Rattle.logcut.specs.Cut.{newlines, CutOf, NoCut}
use Rattle.logcut.proofs.Newlines.{newlines_append, fields_none, sheet_newlines}

-- as many newlines as whole lines: one for the first line, and one for each record
pub cut_newlines : {b : List ℕ} {n m : ℕ} {log : List ℕ} → CutOf b n m log → newlines b ≡ suc (count log)
cut_newlines {n = n} {m} {log} c =
    let a = ap newlines c.bytes ∙ newlines_append c.whole c.tail in
    let e = ap newlines c.sheet.text ∙ sheet_newlines n m log in
    let z = c.unfinished in
    omega arith

-- so without a newline there is no whole line
pub none_whole : {b : List ℕ} → newlines b ≡ 0 → NoCut b
none_whole h n m log c = omega (arith, cut_newlines c)

-- ---- a line, and lines, after so many bytes

none_before : (c : ℕ) (l : List ℕ) → newlines l ≡ 0 → newlines (take c l) ≡ 0
none_before c l h = let e = ap newlines (sym (take-append-drop c l)) ∙ newlines_append (take c l) (drop c l) in omega arith

-- inside a line no newline was written yet
inside_line : (w : List ℕ) (zs : List ℤ) (r : List ℕ) (c : ℕ) → newlines w ≡ 0 → c < length (line w zs) → newlines (take c (line w zs ++ r)) ≡ 0
inside_line w zs r c h k =
    let e : line w zs ++ r ≡ (w ++ fields zs) ++ (newline ∷ r) = append_assoc w (fields zs ++ (newline ∷ [])) r ∙ ap (λ l. w ++ l) (append_assoc (fields zs) (newline ∷ []) r) ∙ sym (append_assoc w (fields zs) (newline ∷ r)) in
    let n = length-append w (fields zs ++ (newline ∷ [])) in
    let m = length-append (fields zs) (newline ∷ []) in
    let o = length-append w (fields zs) in
    let f = fields_none zs in
    let a = newlines_append w (fields zs) in
    ap newlines (ap (take c) e ∙ take-append-le c (w ++ fields zs) (newline ∷ r) (omega arith)) ∙ none_before c (w ++ fields zs) (omega arith)

-- past a line the cut falls into what follows
past_line : (l r : List ℕ) (c : ℕ) → length l ≤ c → take c (l ++ r) ≡ l ++ take (c - length l) r
past_line l r c h = let e : c ≡ length l + (c - length l) = omega arith in ap (λ (k : ℕ). take k (l ++ r)) e ∙ take-append-add l r (c - length l)

-- i lines are whole
record Whole (w : List ℕ) (width k : ℕ) (zs : List ℤ) (b : List ℕ) : Type 0 where
  i : ℕ
  few : i ≤ k
  tail : List ℕ
  bytes : b ≡ lines w width i zs ++ tail
  none : newlines tail ≡ 0

lines_cut : (w : List ℕ) (width k : ℕ) (zs : List ℤ) (c : ℕ) → newlines w ≡ 0 → Whole w width k zs (take c (lines w width k zs))
lines_cut w width zero zs c h = record { i = 0; few = omega arith; tail = take c []; bytes = refl; none = none_before c [] (unfold newlines in refl) }
lines_cut w width (suc k) zs c h = go (dec_lt c (length (line w (take width zs)))) (lines_cut w width k (drop width zs) (c - length (line w (take width zs))) h)
  where
    go : Dec (c < length (line w (take width zs))) → Whole w width k (drop width zs) (take (c - length (line w (take width zs))) (lines w width k (drop width zs))) → Whole w width (suc k) zs (take c (lines w width (suc k) zs))
    go (yes l) r = record { i = 0; few = omega arith; tail = take c (lines w width (suc k) zs); bytes = refl; none = inside_line w (take width zs) (lines w width k (drop width zs)) c h l }
    go (no l) r = record {
      i = suc r.i;
      few = let f = r.few in omega arith;
      tail = r.tail;
      bytes = past_line (line w (take width zs)) (lines w width k (drop width zs)) c (omega arith) ∙ ap (λ x. line w (take width zs) ++ x) r.bytes ∙ sym (append_assoc (line w (take width zs)) (lines w width r.i (drop width zs)) r.tail);
      none = r.none;
    }

-- lines of the first numbers
lines_front : (w : List ℕ) (width i : ℕ) (xs ys : List ℤ) → length xs ≡ i * width → lines w width i (xs ++ ys) ≡ lines w width i xs
lines_front w width zero xs ys h = refl
lines_front w width (suc i) xs ys h =
    let k : width ≤ length xs = omega arith in
    (λ j. line w (take-append-le width xs ys k j) ++ lines w width i (drop-append-le width xs ys k j))
    ∙ ap (λ x. line w (take width xs) ++ x) (lines_front w width i (drop width xs) ys (length-drop width xs ∙ (omega arith)))

-- the lines of the first i records of a log
records_front : (log : List ℕ) (i : ℕ) → room_for i ≤ length log → record_lines i log ≡ record_lines (count (take (room_for i) log)) (take (room_for i) log)
records_front log i h =
    let n : length (take (room_for i) log) ≡ room_for i = length-take-le (room_for i) log h in
    let m : length (map pos (take (room_for i) log)) ≡ i * width = length-map (take (room_for i) log) pos ∙ n ∙ (omega arith) in
    let e : map pos log ≡ map pos (take (room_for i) log) ++ drop (room_for i) (map pos log) = sym (take-append-drop (room_for i) (map pos log)) ∙ ap (λ x. x ++ drop (room_for i) (map pos log)) (sym (map_take pos (room_for i) log)) in
    let c : i ≡ count (take (room_for i) log) = omega arith in
    ap (lines K width i) e ∙ lines_front K width i (map pos (take (room_for i) log)) (drop (room_for i) (map pos log)) m ∙ ap (λ (j : ℕ). lines K width j (map pos (take (room_for i) log))) c

-- ---- a log sheet after so many bytes: inside its first line, or i whole records on
pub data CutAfter (n m : ℕ) (log b : List ℕ) : Type 0 where
  inside_first : newlines b ≡ 0 → CutAfter n m log b
  after : (i : ℕ) → i ≤ count log → CutOf b n m (take (room_for i) log) → CutAfter n m log b

pub sheet_cut : {s : List ℕ} {n m : ℕ} {log : List ℕ} → LogSheetOf s n m log → (c : ℕ) → CutAfter n m log (take c s)
sheet_cut {s} {n} {m} {log} u c = rw u.text (go (dec_lt c (length (first_line_lem LOG n m))))
  where
    go : Dec (c < length (first_line_lem LOG n m)) → CutAfter n m log (take c (log_text n m log))
    go (yes l) = inside_first (inside_line LOG (pos n ∷ pos m ∷ []) (record_lines (count log) log) c (unfold newlines in refl) l)
    go (no l) =
        let r = lines_cut K width (count log) (map pos log) (c - length (first_line_lem LOG n m)) (unfold newlines in refl) in
        let f = r.few in
        let w = u.whole in
        let room : room_for r.i ≤ length log = omega arith in
        let long = length-take-le (room_for r.i) log room in
        after r.i f (record {
          whole = log_text n m (take (room_for r.i) log);
          tail = r.tail;
          bytes = past_line (first_line_lem LOG n m) (record_lines (count log) log) c (omega arith)
              ∙ ap (λ x. first_line_lem LOG n m ++ x) (r.bytes ∙ ap (λ x. x ++ r.tail) (records_front log r.i room))
              ∙ sym (append_assoc (first_line_lem LOG n m) (record_lines (count (take (room_for r.i) log)) (take (room_for r.i) log)) r.tail);
          unfinished = r.none;
          sheet = record {
            text = refl;
            whole = omega arith;
            counts_short = u.counts_short;
            short = rw (map_take pos (room_for r.i) log) (short_left most_digits (take (room_for r.i) (map pos log)) (drop (room_for r.i) (map pos log)) (rw (take-append-drop (room_for r.i) (map pos log)) u.short));
          };
        })
