-- A log and its records: read and written they are the same, by place too.
use mathlib.Core.Path.{◌≡◌, refl, sym, ◌∙◌, ap}
use mathlib.Core.List.{List, [], ◌∷◌, ◌++◌, append_assoc, append-nil}
use Prim.Native.Nat.{ℕ, zero, suc, ◌+◌, ◌*◌, ◌/◌, ◌≤◌, ◌<◌}
use native.Mathlib.Nat.{mul-div_cancel_left}
use native.Mathlib.Omega.{arith}
use lib.ListN.{length, drop, get_or, length-append, length-drop}
use lib.Seq.{drop_at, get_or-drop}
use Rattle.surface.specs.Rows.{Row, row}
use Rattle.surface.specs.Record.{Record}
use Rattle.record.specs.Layout.{width, three, numbers, log_of, record_at, first_records, records}

pub numbers_length_lem : (k : Record) → length (numbers k) ≡ width
numbers_length_lem k = go k.row_1 k.row_2
  where
    go : (r z : Row) → length (k.kept ∷ k.removed ∷ k.place_1 ∷ (three r ++ (k.place_2 ∷ three z))) ≡ width
    go (row i j l) (row x y w) = refl

pub log_length : (l : List Record) → length (log_of l) ≡ width * length l
unfolding log_of
log_length [] = refl
log_length (k ∷ l) =
    let h = log_length l in
    let a = length-append (numbers k) (log_of l) in
    let n = numbers_length_lem k in
    omega arith

pub log_append : (l m : List Record) → log_of (l ++ m) ≡ log_of l ++ log_of m
unfolding log_of
log_append [] m = refl
log_append (k ∷ l) m = ap (λ z. numbers k ++ z) (log_append l m) ∙ sym (append_assoc (numbers k) (log_of l) (log_of m))

-- the numbers of a record are read back as the record
record_numbers : (k : Record) (l : List ℕ) → record_at (numbers k ++ l) 0 ≡ k
record_numbers k l = go k.row_1 k.row_2 refl refl
  where
    go : (r z : Row) → k.row_1 ≡ r → k.row_2 ≡ z → record_at (numbers k ++ l) 0 ≡ k
    go (row i j m) (row x y w) e f =
        ap (λ q. record_at ((k.kept ∷ k.removed ∷ k.place_1 ∷ (three q ++ (k.place_2 ∷ three k.row_2))) ++ l) 0) e
        ∙ ap (λ q. record_at ((k.kept ∷ k.removed ∷ k.place_1 ∷ (three (row i j m) ++ (k.place_2 ∷ three q))) ++ l) 0) f
        ∙ (λ a. record { kept = k.kept; removed = k.removed; place_1 = k.place_1; row_1 = sym e a; place_2 = k.place_2; row_2 = sym f a })

first_log : (l : List Record) (r : List ℕ) → first_records (length l) (log_of l ++ r) ≡ l
unfolding log_of first_records
first_log [] r = refl
first_log (k ∷ l) r =
    let e = append_assoc (numbers k) (log_of l) r in
    rw e (λ a. record_numbers k (log_of l ++ r) a ∷ (ap (first_records (length l)) (drop_at (numbers k) (log_of l ++ r) width (numbers_length_lem k)) ∙ first_log l r) a)

-- reading what was written
pub records_log : (l : List Record) → records (log_of l) ≡ l
records_log l =
    let e : length (log_of l) / width ≡ length l = ap (λ m. m / width) (log_length l) ∙ mul-div_cancel_left (length l) {n = width} (omega arith) in
    ap (λ m. first_records m (log_of l)) e ∙ ap (first_records (length l)) (sym (append-nil (log_of l))) ∙ first_log l []

-- the numbers at the front of a log
numbers_record : (l : List ℕ) → width ≤ length l → numbers (record_at l 0) ++ drop width l ≡ l
numbers_record [] h = absurd (omega arith)
numbers_record (a ∷ []) h = absurd (omega arith)
numbers_record (a ∷ b ∷ []) h = absurd (omega arith)
numbers_record (a ∷ b ∷ c ∷ []) h = absurd (omega arith)
numbers_record (a ∷ b ∷ c ∷ d ∷ []) h = absurd (omega arith)
numbers_record (a ∷ b ∷ c ∷ d ∷ e ∷ []) h = absurd (omega arith)
numbers_record (a ∷ b ∷ c ∷ d ∷ e ∷ f ∷ []) h = absurd (omega arith)
numbers_record (a ∷ b ∷ c ∷ d ∷ e ∷ f ∷ g ∷ []) h = absurd (omega arith)
numbers_record (a ∷ b ∷ c ∷ d ∷ e ∷ f ∷ g ∷ i ∷ []) h = absurd (omega arith)
numbers_record (a ∷ b ∷ c ∷ d ∷ e ∷ f ∷ g ∷ i ∷ j ∷ []) h = absurd (omega arith)
numbers_record (a ∷ b ∷ c ∷ d ∷ e ∷ f ∷ g ∷ i ∷ j ∷ k ∷ l) h = refl

-- writing what was read, where nothing was over
pub log_first : (k : ℕ) (l : List ℕ) → length l ≡ width * k → log_of (first_records k l) ≡ l
unfolding log_of first_records
log_first zero [] h = refl
log_first zero (a ∷ l) h = absurd (omega arith)
log_first (suc k) l h =
    ap (λ z. numbers (record_at l 0) ++ z) (log_first k (drop width l) (let d = length-drop width l in omega arith)) ∙ numbers_record l (omega arith)

pub first_length : (k : ℕ) (l : List ℕ) → length (first_records k l) ≡ k
unfolding first_records
first_length zero l = refl
first_length (suc k) l = ap suc (first_length k (drop width l))

record_later : (l : List ℕ) (i j : ℕ) → j ≡ width + i → record_at (drop width l) i ≡ record_at l j
record_later l i j h = λ a. record {
  kept = (get_or-drop width l i 0 ∙ ap (λ m. get_or l m 0) (sym h)) a;
  removed = at 1 a;
  place_1 = at 2 a;
  row_1 = row (at 3 a) (at 4 a) (at 5 a);
  place_2 = at 6 a;
  row_2 = row (at 7 a) (at 8 a) (at 9 a);
}
  where
    at : (m : ℕ) → get_or (drop width l) (i + m) 0 ≡ get_or l (j + m) 0
    at m = get_or-drop width l (i + m) 0 ∙ ap (λ z. get_or l z 0) (omega arith)

-- by place
pub first_at : (k : ℕ) (l : List ℕ) (i : ℕ) (d : Record) → i < k → get_or (first_records k l) i d ≡ record_at l (width * i)
unfolding first_records
first_at zero l i d h = absurd (omega arith)
first_at (suc k) l zero d h = refl
first_at (suc k) l (suc i) d h = first_at k (drop width l) i d (omega arith) ∙ record_later l (width * i) (width * suc i) (omega arith)
