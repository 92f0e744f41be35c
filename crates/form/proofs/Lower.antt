-- The lines after the first one: why each way out of their reader is right.
use mathlib.Core.Path.{◌≡◌, sym, ◌∙◌, ap}
use mathlib.Core.List.{List, [], ◌++◌, append-nil, map}
use Prim.Native.Nat.{ℕ, ◌*◌, ◌≤◌, ◌<◌}
use native.Mathlib.Omega.{arith}
use lib.IntN.{ℤ, pos}
use lib.ListN.{length, take, drop, length-drop, length-map, drop_of_length-le}
use Rattle.lines.specs.Kinds.{C, R, corner_lines, row_lines}
use Rattle.lines.specs.Inner.{PutFrom}
use Rattle.lines.proofs.Cut.{lines_unique}
use Rattle.lines.proofs.Turns.{front}
use Rattle.reading.specs.Inner.{same, LinesOf}
use Rattle.reading.proofs.Lining.{as_coordinates, their_bytes, their_short}
use Rattle.heading.specs.Heading.{most_digits}
use Rattle.form.specs.Form.{CountsIn}
use Rattle.form.specs.Inner.{BodyAt, NoBody, Rooms}

-- lines of n corners, and of m rows, in front of l, each with r after them, put into a room
abbrev CornersPut : ℕ → List ℕ → List ℤ → List ℤ → List ℕ → Type 0
CornersPut n l xroom xroom' r = PutFrom (LinesOf same most_digits C 3 n l) (n * 3) xroom 0 xroom' r

abbrev RowsPut : ℕ → List ℕ → List ℕ → List ℕ → List ℕ → Type 0
RowsPut m l troom troom' r = PutFrom (LinesOf pos most_digits R 3 m l) (m * 3) troom 0 troom' r

pub no_corners : {l : List ℕ} {n m : ℕ} → ((zs : List ℤ) (r : List ℕ) → length zs ≡ n * 3 → ¬ LinesOf same most_digits C 3 n l zs r) → NoBody l n m
no_corners {m = m} none xs t b = none xs (row_lines m t) b.corners (as_coordinates b.text b.corners_short)

module _ {l : List ℕ} {n m : ℕ} {xroom xroom' : List ℤ} {l₁ : List ℕ} (p : CornersPut n l xroom xroom' l₁) where
  -- after the corners that were read come the rows
  rows_next : {xs : List ℤ} {t : List ℕ} → BodyAt l n m xs t → LinesOf pos most_digits R 3 m l₁ t []
  rows_next {xs} {t} b =
      let e = lines_unique C 3 n p.zs xs l₁ (row_lines m t) p.count b.corners (sym (their_bytes p.here) ∙ b.text) in
      record { bytes = e.1 ∙ sym (append-nil (row_lines m t)); short = b.rows_short }

  pub no_rows : ((ns r : List ℕ) → length ns ≡ m * 3 → ¬ LinesOf pos most_digits R 3 m l₁ ns r) → NoBody l n m
  no_rows none xs t b = none t [] b.rows (rows_next b)

  module _ {troom troom' l₂ : List ℕ} (q : RowsPut m l₁ troom troom' l₂) where
    -- something follows the last row
    pub more_follows : 0 < length l₂ → NoBody l n m
    more_follows h xs t b =
        let numbered = length-map q.zs pos ∙ q.count in
        let e = lines_unique R 3 m (map pos q.zs) (map pos t) l₂ [] numbered (length-map t pos ∙ b.rows) (sym q.here.bytes ∙ (rows_next b).bytes) in
        let f = ap length e.1 in omega arith

    pub body_read : CountsIn n m → Rooms xroom troom → l₂ ≡ [] → BodyAt l n m (take (n * 3) xroom') (take (m * 3) troom')
    body_read c rooms end =
        let a = c.many in
        let d = c.most in
        let x = rooms.corners in
        let y = rooms.rows in
        let xs = front xroom xroom' p.zs (n * 3) p.put p.count (omega arith) in
        let t = front troom troom' q.zs (m * 3) q.put q.count (omega arith) in
        rw (xs, t) (
        record {
          text = their_bytes p.here ∙ ap (λ r. corner_lines n p.zs ++ r) (q.here.bytes ∙ ap (λ r. row_lines m q.zs ++ r) end ∙ append-nil (row_lines m q.zs));
          corners = p.count;
          rows = q.count;
          corners_short = their_short p.here;
          rows_short = q.here.short;
        }
        )

-- what is left of the bytes after a place
pub some_left : (s : List ℕ) (e : ℕ) → e < length s → 0 < length (drop e s)
some_left s e h = omega (arith, length-drop e s)

pub none_left : (s : List ℕ) (e : ℕ) → length s ≤ e → drop e s ≡ []
none_left s e h = drop_of_length-le s h
