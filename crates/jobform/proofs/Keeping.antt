-- Entries kept one by one, and lines read to the end.
use mathlib.Core.Path.{◌≡◌, refl, sym, ◌∙◌, ap, subst}
use mathlib.Core.List.{List, [], ◌∷◌, ◌++◌, append_assoc, append-nil}
use Prim.Native.Nat.{ℕ, suc, ◌+◌, ◌-◌, ◌≤◌, ◌<◌}
use native.Mathlib.Omega.{arith}
use lib.ListN.{length, length-append, take, drop, set, length-set, length-drop, drop_of_length-le}
use lib.Seq.{take-suc, take-set-le, get_or-set_same}
use Rattle.jobform.specs.declared.Entry.{Entry}
use Rattle.jobform.specs.JobSheet.{InForm, AllInForm, entry_line, entry_lines}
use Rattle.jobform.specs.Inner.{EntryAt, Kept, EntriesRead}
use Rattle.jobform.proofs.Parts.{entry_unique}

-- ---- one more entry kept

kept_more : (room es : List Entry) (e : Entry) → length es < length room → Kept es room → Kept (es ++ (e ∷ [])) (set room (length es) e)
kept_more room es e inside h few =
    let i = length es in
    let f : length (es ++ (e ∷ [])) ≡ suc i = omega (arith, length-append es (e ∷ [])) in
    ap (λ (n : ℕ). take n (set room i e)) f
    ∙ take-suc (set room i e) i e (omega (arith, length-set room i e))
    ∙ (λ k. take-set-le i room i e (omega arith) k ++ (get_or-set_same room i e e (omega arith) k ∷ []))
    ∙ ap (λ l. l ++ (e ∷ [])) (h (omega arith))

-- ---- lines read one by one

-- count entries are read and kept, up to k
pub record Reading (s : List ℕ) (room : List Entry) (at k count : ℕ) : Type 0 where
  pub es : List Entry
  pub many : length es ≡ count
  pub lines : drop at s ≡ entry_lines es ++ drop k s
  pub form : AllInForm es
  pub kept : Kept es room
  -- each took a byte at least
  pub few : count + length (drop k s) ≤ length (drop at s)

pub reading_start : (s : List ℕ) (room : List Entry) (at : ℕ) → Reading s room at at 0
reading_start s room at = record { es = []; many = refl; lines = refl; form = tt; kept = λ h. refl; few = omega arith }

-- a line has its word at least
shorter : {l : List ℕ} {e : Entry} {r : List ℕ} → EntryAt l e r → length r < length l
shorter {e = e} {r} a = let h = ap length a.bytes in omega (arith, length-append (entry_line e) r)

pub lines_more : (es : List Entry) (e : Entry) → entry_lines (es ++ (e ∷ [])) ≡ entry_lines es ++ entry_line e
lines_more [] e = append-nil (entry_line e)
lines_more (d ∷ es) e = ap (λ l. entry_line d ++ l) (lines_more es e) ∙ sym (append_assoc (entry_line d) (entry_lines es) (entry_line e))

form_more : (es : List Entry) (e : Entry) → AllInForm es → InForm e → AllInForm (es ++ (e ∷ []))
form_more [] e f g = (g, tt)
form_more (d ∷ es) e f g = (f.0, form_more es e f.1 g)

-- the first lines are the first entries: what is left is the lines of the others
pub record Others (es es' : List Entry) (r : List ℕ) : Type 0 where
  pub ts : List Entry
  pub all : es' ≡ es ++ ts
  pub left : r ≡ entry_lines ts
  pub form : AllInForm ts

pub cut_entries : (es es' : List Entry) (r : List ℕ) → AllInForm es → AllInForm es' → entry_lines es ++ r ≡ entry_lines es' → Others es es' r
cut_entries [] es' r f g e = record { ts = es'; all = refl; left = e; form = g }
cut_entries (x ∷ es) [] r f g e = let h = ap length e in absurd (omega (arith, length-append (entry_line x ++ entry_lines es) r, length-append (entry_line x) (entry_lines es)))
cut_entries (x ∷ es) (y ∷ es') r f g e =
    let a : EntryAt (entry_line y ++ entry_lines es') x (entry_lines es ++ r) = record { bytes = sym e ∙ append_assoc (entry_line x) (entry_lines es) r; form = f.0 } in
    let b : EntryAt (entry_line y ++ entry_lines es') y (entry_lines es') = record { bytes = refl; form = g.0 } in
    let u = entry_unique a b in
    let o = cut_entries es es' r f.1 g.1 u.1 in
    record { ts = o.ts; all = (λ i. sym u.0 i ∷ o.all i); left = o.left; form = o.form }

module _ {s : List ℕ} {room : List Entry} {at k count : ℕ} (p : Reading s room at k count) where
  pub few_entries : count ≤ length s
  few_entries = let f = p.few in omega (arith, length-drop at s)

  module _ (e : Entry) (n : ℕ) (a : EntryAt (drop k s) e (drop n s)) where
    pub nearer : length s - n < length s - k
    nearer = omega (arith, shorter a, length-drop k s, length-drop n s)

    more : (room' : List Entry) → Kept (p.es ++ (e ∷ [])) room' → Reading s room' at n (count + 1)
    more room' kept =
        let f = p.few in
        let g = p.many in
        record {
          es = p.es ++ (e ∷ []);
          many = length-append p.es (e ∷ []) ∙ (omega arith);
          lines = p.lines ∙ ap (λ x. entry_lines p.es ++ x) a.bytes ∙ sym (append_assoc (entry_lines p.es) (entry_line e) (drop n s)) ∙ ap (λ x. x ++ drop n s) (sym (lines_more p.es e));
          form = form_more p.es e p.form a.form;
          kept = kept;
          few = omega (arith, shorter a);
        }

    -- the next one is kept where the room takes it
    pub next_kept : count < length room → Reading s (set room count e) at n (count + 1)
    next_kept h = more (set room count e) (subst (λ (k : ℕ). Kept (p.es ++ (e ∷ [])) (set room k e)) p.many (kept_more room p.es e (omega (arith, p.many)) p.kept))

    pub next_past : length room ≤ count → Reading s room at n (count + 1)
    next_past h = more room (λ few. (let l = length-append p.es (e ∷ []) in let m = p.many in absurd (omega arith)))

  pub other_stands : k < length s → ((e : Entry) (r : List ℕ) → ¬ EntryAt (drop k s) e r) → (es : List Entry) → AllInForm es → ¬ (drop at s ≡ entry_lines es)
  other_stands more none es f e = go o.ts o.left o.form
    where
      o : Others p.es es (drop k s)
      o = cut_entries p.es es (drop k s) p.form f (sym p.lines ∙ e)

      go : (ts : List Entry) → drop k s ≡ entry_lines ts → AllInForm ts → ⊥
      go [] l g = let h = ap length l in omega (arith, length-drop k s)
      go (t ∷ ts) l g = none t (entry_lines ts) (record { bytes = l; form = g.0 })

  pub all_read : length s ≤ k → EntriesRead count (drop at s) room
  all_read h = record { es = p.es; many = p.many; lines = p.lines ∙ ap (λ r. entry_lines p.es ++ r) (drop_of_length-le s h) ∙ append-nil (entry_lines p.es); form = p.form; kept = p.kept }
