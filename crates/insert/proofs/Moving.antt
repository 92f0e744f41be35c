-- Numbers moved three slots on, the last first.
use mathlib.Core.Path.{◌≡◌, refl, sym, ◌∙◌, ap, ap₂}
use mathlib.Core.List.{List, ◌∷◌, ◌++◌}
use Prim.Native.Nat.{ℕ, suc, ◌+◌, ◌-◌, ◌≤◌, ◌<◌}
use native.Mathlib.Omega.{arith}
use lib.ListN.{length, take, drop, get_or, set, length-set, drop_of_length-le}
use lib.Seq.{take-take, take-set-le, drop-cons, drop-set-lt, get_or-set_same, get_or-take, length-take-le}
use Rattle.insert.specs.Moved.{MovedOn}

-- those from k up to j have moved
pub record MovedTo (j : ℕ) (room : List ℕ) (k : ℕ) (room' : List ℕ) : Type 0 where
  pub upto : k ≤ j
  pub same : length room' ≡ length room
  pub before : take (k + 3) room' ≡ take (k + 3) room
  pub after : drop (k + 3) room' ≡ drop k (take j room) ++ drop (j + 3) room

pub move_none : (j : ℕ) (room : List ℕ) → j + 3 ≤ length room → MovedTo j room j room
move_none j room h = record {
  upto = omega arith;
  same = refl;
  before = refl;
  after = ap (λ l. l ++ drop (j + 3) room) (sym (drop_of_length-le (take j room) {i = j} (let e = length-take-le j room (omega arith) in omega arith)));
}

module _ (j : ℕ) (room : List ℕ) (fits : j + 3 ≤ length room) (k : ℕ) (room' : List ℕ) (w : MovedTo j room (suc k) room') where
  read : get_or room' k 0 ≡ get_or room k 0
  read = sym (get_or-take (suc k + 3) room' k 0 (omega arith)) ∙ ap (λ l. get_or l k 0) w.before ∙ get_or-take (suc k + 3) room k 0 (omega arith)

  abbrev v : ℕ
  v = get_or room' k 0

  inside : k + 3 < length (set room' (k + 3) v)
  inside = let e = length-set room' (k + 3) v in let l = w.same in let h = w.upto in omega arith

  next : suc (k + 3) ≡ suc k + 3
  next = omega arith

  move_one : MovedTo j room k (set room' (k + 3) (get_or room' k 0))
  move_one = record {
    upto = let h = w.upto in omega arith;
    same = length-set room' (k + 3) (get_or room' k 0) ∙ w.same;
    before = take-set-le (k + 3) room' (k + 3) (get_or room' k 0) (omega arith) ∙ sym (take-take (k + 3) (suc k + 3) room' (omega arith)) ∙ ap (take (k + 3)) w.before ∙ take-take (k + 3) (suc k + 3) room (omega arith);
    after =
        drop-cons (set room' (k + 3) v) (k + 3) 0 inside
        ∙ ap₂ (λ x l. x ∷ l) (get_or-set_same room' (k + 3) v 0 (let e = w.same in omega arith) ∙ read) (drop-set-lt (suc (k + 3)) room' (k + 3) v (omega arith) ∙ ap (λ z. drop z room') next ∙ w.after)
        ∙ ap (λ l. l ++ drop (j + 3) room) (sym (drop-cons (take j room) k 0 (let e = length-take-le j room (omega arith) in let h = w.upto in omega arith) ∙ ap (λ x. x ∷ drop (suc k) (take j room)) (get_or-take j room k 0 w.upto)));
  }

pub move_more : (j : ℕ) (room : List ℕ) → j + 3 ≤ length room → (k : ℕ) (room' : List ℕ) → 0 < k → MovedTo j room k room' → MovedTo j room (k - 1) (set room' (k - 1 + 3) (get_or room' (k - 1) 0))
move_more j room fits k room' h w = let e : k ≡ suc (k - 1) = omega arith in move_one j room fits (k - 1) room' (rw e at w)

pub move_end : (i j : ℕ) (room : List ℕ) (k : ℕ) (room' : List ℕ) → i ≤ k → k ≤ i → MovedTo j room k room' → MovedOn i j room room'
move_end i j room k room' g h w = let e : k ≡ i = omega arith in rw (sym e) (record { before = w.before; after = w.after })
