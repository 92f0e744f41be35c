-- Lent tables and rooms with rows in front: read, and filled or lowered again.
use mathlib.Core.Path.{◌≡◌, sym, ◌∙◌, ap}
use mathlib.Core.List.{List, ◌++◌, append-nil}
use Prim.Native.Nat.{ℕ, ◌+◌, ◌-◌, ◌*◌, ◌≤◌}
use native.Mathlib.Omega.{arith}
use lib.ListN.{length, take, drop, replicate, length-append, length-drop, take-append-drop, length-replicate, replicate-append-replicate}
use lib.Seq.{take_at, drop_at, drop-drop, length-take-le, drop-append-add}
use Rattle.surface.specs.Rows.{Row, rows, flat}
use Rattle.surface.specs.Stage.{Stage}
use Rattle.surface.specs.InnerStageTable.{StageTable}
use Rattle.surface.proofs.Flat.{rows_flat, flat_length, flat_rows, rows_length}
use Rattle.record.specs.Front.{front_rows, standing, filled, zeroed, lowered}

-- as many rows stand in front as are told
pub standing_length : (m : ℕ) (room : List ℕ) → 3 * m ≤ length room → length (standing m room) ≡ m
standing_length m room h = rows_length m (take (3 * m) room) (length-take-le (3 * m) room h)

pub standing_flat : (m : ℕ) (room : List ℕ) → 3 * m ≤ length room → flat (standing m room) ≡ take (3 * m) room
standing_flat m room h = flat_rows m (take (3 * m) room) (length-take-le (3 * m) room h)

-- rows in front of anything
pub standing_front : (m : ℕ) (T : List Row) (rest : List ℕ) → length T ≡ m → standing m (flat T ++ rest) ≡ T
standing_front m T rest h = ap rows (take_at (flat T) rest (3 * m) (flat_length T ∙ ap (λ z. 3 * z) h)) ∙ rows_flat T

pub front_stage : {n : ℕ} (m : ℕ) (T : List Row) (rest : List ℕ) → length T ≡ m → Stage n T → StageTable n (front_rows m (flat T ++ rest))
front_stage m T rest h s =
    let e = take_at (flat T) rest (3 * m) (flat_length T ∙ ap (λ z. 3 * z) h) in
    rw e (record { count = flat_length T ∙ ap (λ (S : List Row). 3 * length S) (sym (rows_flat T)); stage = rw (rows_flat T) s })

pub standing_filled : (m : ℕ) (T : List Row) (room : List ℕ) → length T ≡ m → standing m (filled T room) ≡ T
standing_filled m T room h = standing_front m T (drop (3 * length T) room) h

pub filled_length : (T : List Row) (room : List ℕ) → 3 * length T ≤ length room → length (filled T room) ≡ length room
filled_length T room h =
    let e = length-append (flat T) (drop (3 * length T) room) in
    let f = flat_length T in
    let d = length-drop (3 * length T) room in
    omega arith

-- a room is its rows and what lies past them
pub filled_standing : (m : ℕ) (room : List ℕ) → 3 * m ≤ length room → filled (standing m room) room ≡ room
filled_standing m room h = (λ i. standing_flat m room h i ++ drop (3 * standing_length m room h i) room) ∙ take-append-drop (3 * m) room

-- what lies past the second rows lies past the first
pub filled_again : (S T : List Row) (room : List ℕ) → length S ≤ length T → filled T (filled S room) ≡ filled T room
filled_again S T room h =
    let e : 3 * length T ≡ length (flat S) + (3 * length T - 3 * length S) = let f = flat_length S in omega arith in
    let g : 3 * length S + (3 * length T - 3 * length S) ≡ 3 * length T = omega arith in
    ap (λ z. flat T ++ z)
    (ap (λ z. drop z (filled S room)) e
    ∙ drop-append-add (flat S) (drop (3 * length S) room) (3 * length T - 3 * length S)
    ∙ drop-drop (3 * length T - 3 * length S) (3 * length S) room
    ∙ ap (λ z. drop z room) g)

-- a table of whole rows has nothing past them
pub zeroed_whole : (t : List ℕ) → length t ≡ 3 * length (rows t) → zeroed (rows t) t ≡ t
zeroed_whole t h =
    let f : flat (rows t) ≡ t = flat_rows (length (rows t)) t h in
    let e : length t - length (flat (rows t)) ≡ 0 = ap (λ (z : List ℕ). length t - length z) f ∙ omega arith in
    ap (λ z. flat (rows t) ++ replicate z 0) e ∙ append-nil (flat (rows t)) ∙ f

pub zeroed_length : (T : List Row) (t : List ℕ) → 3 * length T ≤ length t → length (zeroed T t) ≡ length t
zeroed_length T t h =
    let e = length-append (flat T) (replicate (length t - length (flat T)) 0) in
    let f = flat_length T in
    let r = length-replicate {A = ℕ} (length t - length (flat T)) 0 in
    omega arith

-- fewer rows, with zeros where the others stood
pub zeroed_again : (S T : List Row) (t : List ℕ) → length T ≤ length S → 3 * length S ≤ length t → lowered (length S) T (zeroed S t) ≡ zeroed T t
zeroed_again S T t h k =
    let f = flat_length S in
    let g = flat_length T in
    let e : 3 * length S - length (flat T) + (length t - length (flat S)) ≡ length t - length (flat T) = omega arith in
    ap (λ z. flat T ++ (replicate (3 * length S - length (flat T)) 0 ++ z)) (drop_at (flat S) (replicate (length t - length (flat S)) 0) (3 * length S) f)
    ∙ ap (λ z. flat T ++ z) (replicate-append-replicate (3 * length S - length (flat T)) (length t - length (flat S)) 0 ∙ ap (λ z. replicate z 0) e)
