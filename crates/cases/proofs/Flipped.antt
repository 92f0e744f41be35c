-- Slips of flipping a list and of undoing its log: what each would answer or leave of T or O is not allowed by the words of the contract, and the right answer is.
use mathlib.Core.Path.{◌≡◌, refl, ap}
use mathlib.Core.Logic.{◌≢◌, inl, inr}
use mathlib.Core.Bool.{Bool, ◌||◌, not}
use mathlib.Core.List.{List, [], ◌∷◌, ◌++◌}
use Prim.Native.Nat.{ℕ, ◌≤◌, ◌<◌}
use native.Mathlib.Omega.{arith}
use lib.Dec.{T as So, eqb, eqb→eq, T_not}
use lib.ListN.{length, get_or, drop}
use Rattle.std.specs.Prelude.{Ok, Err, Result}
use Rattle.follow.specs.Leads.{Leads, no_step, one_step}
use Rattle.follow.specs.Follow.{all, some, refused, followed}
use Rattle.surface.specs.Rows.{Row, row, rows, flat, turn_0, turn_1}
use Rattle.surface.specs.Table.{◌⇒◌, Edge, edges}
use Rattle.surface.specs.Stage.{Stage}
use Rattle.surface.proofs.Testing.{every, every_at, or_in, among, among_sound, among_whole, arrow_eq, arrow_sound, arrow_whole}
use Rattle.surface.proofs.Once.{turn, edge_in, in_edge}
use Rattle.surface.proofs.Linked.{not_same}
use Rattle.surface.proofs.Round.{upto, every_upto}
use Rattle.flips.specs.Flip.{stands_here, stands_later, Flip, Flips, Blocked}
use Rattle.flips.specs.Undo.{Undone}
use Rattle.flips.proofs.Flips.{flip_stage, flip_undone}
use Rattle.refusal.specs.declared.Refusal.TheVariants.{RoomShort, NumberNotBelow, NumberTwice}
use Rattle.laid.specs.Laid.{laid, first_items}
use Rattle.flipped.specs.declared.FlipRefusal.TheVariants.{EdgeMissing, EdgeBlocked, UndoFails}
use Rattle.flipped.specs.declared.FlipHalt.{FlipHalt}
use Rattle.flipped.specs.declared.FlipHalt.TheVariants.{Stopped, Refused}
use Rattle.flipped.proofs.Telling.{flipped_apart}
use Rattle.flip.specs.Refused.{missing, blocked}
use Rattle.fliplist.specs.Outcome.{FlipsOn, FlippedAs}
use Rattle.fliplist.proofs.Judging.{judge_3}
use Rattle.fliplist.proofs.Main.{flip_passes, flipped_one}
use Rattle.undoflips.specs.Outcome.{UndoneAs}
use Rattle.undoflips.proofs.Main.{undo_passes, undid_one}
use Rattle.promises.proofs.Flipping.{counts_fit_lem}
use Rattle.cases.specs.Skins.{T, O}
use Rattle.cases.proofs.Skinned.{T_skin, O_skin}

-- ---- the edges of T, each of which is 31

-- c and d are one number, or neighbours in T
abbrev same_or_joined : ℕ → ℕ → Bool
same_or_joined c d = eqb c d || among arrow_eq (c ⇒ d) (edges (rows T))

-- any two corners of T are neighbours
T_joined : {c d : ℕ} → c < 4 → d < 4 → c ≢ d → Edge (rows T) c d
unfolding edges rows
T_joined {c} {d} p q n =
    let h = every_at (same_or_joined c) (upto 4) (every_at (λ c. every (same_or_joined c) (upto 4)) (upto 4) tt (every_upto 4 c p)) (every_upto 4 d q) in
    elim (or_in (eqb c d) _ h) [
      | inl e ↦ absurd (n (eqb→eq c d e))
      | inr m ↦ in_edge (rows T) (among_sound arrow_eq arrow_sound arrow_whole (edges (rows T)) m)
    ]

T_blocked : {a b : ℕ} → Edge (rows T) a b → Blocked (rows T) a b
T_blocked {a} {b} e =
    let s = T_skin.stage in
    let g = s.both e in
    record {
      c = e.0;
      d = g.0;
      first = e.1;
      second = g.1;
      edge = T_joined (s.below (turn (turn e.1))) (s.below (turn (turn g.1))) (not_same 4 (rows T) s e.1 g.1);
    }

module _ {a b : ℕ} (e : Edge (rows T) a b) (l : List ℕ) (room : 8 ≤ length l) where
  -- nothing is done, and nothing is changed
  pub T_stops : FlippedAs 4 T (a ∷ b ∷ []) l (Err (Stopped EdgeBlocked 0)) T l
  unfolding rows flat first_items laid
  T_stops = record {
    outcome = followed (flip_passes 4 T (a ∷ b ∷ []) l (record { counts = counts_fit_lem refl T_skin.stage; whole = refl }) room T_skin.stage, T_skin.stage)
        (some [] (a ⇒ b) [] refl (no_step refl) (blocked (T_blocked e) refl) refl) refl;
  }

  -- one that flips it all the same and so makes a double edge, whatever it writes
  pub double_edge : (k : ℕ) (t' l' : List ℕ) → ¬ FlippedAs 4 T (a ∷ b ∷ []) l (Ok k) t' l'
  double_edge k t' l' h = flipped_apart.finished_stopped (flipped_one h T_stops).0

  -- nor one that flips it and answers otherwise: T stands, whatever is told
  pub double_edge_untold : (v : Result ℕ FlipHalt) (t' l' : List ℕ) → FlippedAs 4 T (a ∷ b ∷ []) l v t' l' → t' ≡ T
  double_edge_untold v t' l' h = (flipped_one h T_stops).1

-- ---- O, whose edge 0 1 is flipped, and then the edge 2 4 that came

-- (2,0,4) in the place of (0,1,2), and (2,4,1) in that of (0,4,1)
abbrev pub O_flipped : List ℕ
O_flipped = 2 ∷ 0 ∷ 4 ∷ 0 ∷ 2 ∷ 3 ∷ 0 ∷ 3 ∷ 4 ∷ 2 ∷ 4 ∷ 1 ∷ 5 ∷ 2 ∷ 1 ∷ 5 ∷ 3 ∷ 2 ∷ 5 ∷ 4 ∷ 3 ∷ 5 ∷ 1 ∷ 4 ∷ []

-- (1,2,0) in the place of (2,4,1), and (1,0,4) in that of (2,0,4): O's rows, but not its numbers
abbrev pub O_twice : List ℕ
O_twice = 1 ∷ 0 ∷ 4 ∷ 0 ∷ 2 ∷ 3 ∷ 0 ∷ 3 ∷ 4 ∷ 1 ∷ 2 ∷ 0 ∷ 5 ∷ 2 ∷ 1 ∷ 5 ∷ 3 ∷ 2 ∷ 5 ∷ 4 ∷ 3 ∷ 5 ∷ 1 ∷ 4 ∷ []

abbrev k₁ : Flip
k₁ = record { place_1 = 0; row_1 = row 0 1 2; place_2 = 3; row_2 = row 0 4 1 }

abbrev k₂ : Flip
k₂ = record { place_1 = 3; row_1 = row 2 4 1; place_2 = 0; row_2 = row 2 0 4 }

abbrev pub one_record : List ℕ
one_record = 0 ∷ 0 ∷ 1 ∷ 2 ∷ 3 ∷ 0 ∷ 4 ∷ 1 ∷ []

abbrev pub two_records : List ℕ
two_records = one_record ++ 3 ∷ 2 ∷ 4 ∷ 1 ∷ 0 ∷ 2 ∷ 0 ∷ 4 ∷ []

no_edge : (S : List Row) (p q : ℕ) → So (not (among arrow_eq (p ⇒ q) (edges S))) → ¬ Edge S p q
no_edge S p q h e = T_not (among arrow_eq (p ⇒ q) (edges S)) h (among_whole arrow_eq arrow_sound arrow_whole (edges S) (edge_in e))

first_flip : Flips (rows O) 0 1 k₁ (rows O_flipped)
unfolding rows edges
first_flip = record {
  c = 2;
  d = 4;
  stands_1 = stands_here refl;
  turned_1 = turn_0 refl;
  stands_2 = stands_later (stands_later (stands_later (stands_here refl)));
  turned_2 = turn_1 refl;
  no_edge = no_edge (rows O) 2 4 tt;
  leaves = refl;
}

second_flip : Flips (rows O_flipped) 2 4 k₂ (rows O_twice)
unfolding rows edges
second_flip = record {
  c = 1;
  d = 0;
  stands_1 = stands_later (stands_later (stands_later (stands_here refl)));
  turned_1 = turn_0 refl;
  stands_2 = stands_here refl;
  turned_2 = turn_1 refl;
  no_edge = no_edge (rows O_flipped) 1 0 tt;
  leaves = refl;
}

once_stage : Stage 6 (rows O_flipped)
once_stage = flip_stage O_skin.stage first_flip

twice_stage : Stage 6 (rows O_twice)
twice_stage = flip_stage once_stage second_flip

one_led : Leads FlipsOn (record { table = rows O; log = [] }) ((0 ⇒ 1) ∷ []) (record { table = rows O_flipped; log = k₁ ∷ [] })
one_led = one_step {i = 0 ⇒ 1} (k₁, first_flip, refl) (no_step refl)

module _ (l : List ℕ) (room : 8 ≤ length l) where
  -- the flip is done, and logged
  pub O_flips : FlippedAs 6 O (0 ∷ 1 ∷ []) l (Ok 1) O_flipped (one_record ++ drop 8 l)
  unfolding rows flat first_items laid
  O_flips = record {
    outcome = followed (flip_passes 6 O (0 ∷ 1 ∷ []) l (record { counts = counts_fit_lem refl O_skin.stage; whole = refl }) room O_skin.stage, O_skin.stage)
        (all one_led refl) refl;
  }

  -- one that logs the rows that came, not the old ones
  pub logs_new_rows : (a : Result ℕ FlipHalt) (t' l' : List ℕ) → ¬ FlippedAs 6 O (0 ∷ 1 ∷ []) l a t' (0 ∷ 2 ∷ 0 ∷ 4 ∷ 3 ∷ 2 ∷ 4 ∷ 1 ∷ l')
  logs_new_rows a t' l' h = let e : ◌≡◌ {A = ℕ} 2 0 = ap (λ m. get_or m 1 0) (flipped_one h O_flips).2 in omega arith

  -- one that writes (2,4,1) in the first one's place and (2,0,4) in the second's
  pub places_exchanged : (a : Result ℕ FlipHalt) (l' : List ℕ) → ¬ FlippedAs 6 O (0 ∷ 1 ∷ []) l a (2 ∷ 4 ∷ 1 ∷ 0 ∷ 2 ∷ 3 ∷ 0 ∷ 3 ∷ 4 ∷ 2 ∷ 0 ∷ 4 ∷ 5 ∷ 2 ∷ 1 ∷ 5 ∷ 3 ∷ 2 ∷ 5 ∷ 4 ∷ 3 ∷ 5 ∷ 1 ∷ 4 ∷ []) l'
  places_exchanged a l' h = let e : ◌≡◌ {A = ℕ} 4 0 = ap (λ t. get_or t 1 0) (flipped_one h O_flips).1 in omega arith

  -- one that writes in the log past the record
  pub writes_past : (a : Result ℕ FlipHalt) (t' l' : List ℕ) → drop 8 l' ≢ drop 8 l → ¬ FlippedAs 6 O (0 ∷ 1 ∷ []) l a t' l'
  writes_past a t' l' n h = n (ap (drop 8) (flipped_one h O_flips).2)

-- ---- the edge the other way, 1 0: its first row is the one at place 3

-- (4,1,2) in the place of (0,4,1), and (4,2,0) in that of (0,1,2)
abbrev pub O_flipped_back : List ℕ
O_flipped_back = 4 ∷ 2 ∷ 0 ∷ 0 ∷ 2 ∷ 3 ∷ 0 ∷ 3 ∷ 4 ∷ 4 ∷ 1 ∷ 2 ∷ 5 ∷ 2 ∷ 1 ∷ 5 ∷ 3 ∷ 2 ∷ 5 ∷ 4 ∷ 3 ∷ 5 ∷ 1 ∷ 4 ∷ []

other_way : Flips (rows O) 1 0 (record { place_1 = 3; row_1 = row 0 4 1; place_2 = 0; row_2 = row 0 1 2 }) (rows O_flipped_back)
unfolding rows edges
other_way = record {
  c = 4;
  d = 2;
  stands_1 = stands_later (stands_later (stands_later (stands_here refl)));
  turned_1 = turn_1 refl;
  stands_2 = stands_here refl;
  turned_2 = turn_0 refl;
  no_edge = no_edge (rows O) 4 2 tt;
  leaves = refl;
}

module _ (l : List ℕ) (room : 8 ≤ length l) where
  -- the flip is done, and logged
  pub O_flips_back : FlippedAs 6 O (1 ∷ 0 ∷ []) l (Ok 1) O_flipped_back (3 ∷ 0 ∷ 4 ∷ 1 ∷ 0 ∷ 0 ∷ 1 ∷ 2 ∷ drop 8 l)
  unfolding rows flat first_items laid
  O_flips_back = record {
    outcome = followed (flip_passes 6 O (1 ∷ 0 ∷ []) l (record { counts = counts_fit_lem refl O_skin.stage; whole = refl }) room O_skin.stage, O_skin.stage)
        (all (one_step {i = 1 ⇒ 0} (_, other_way, refl) (no_step refl)) refl) refl;
  }

  -- one that sorts the two ends, and so flips 0 1
  pub sorts_ends : (a : Result ℕ FlipHalt) (l' : List ℕ) → ¬ FlippedAs 6 O (1 ∷ 0 ∷ []) l a O_flipped l'
  sorts_ends a l' h = let e : ◌≡◌ {A = ℕ} 2 4 = ap (λ t. get_or t 0 0) (flipped_one h O_flips_back).1 in omega arith

  -- one that logs the row at the earlier place first, as thinning does
  pub earlier_place_first : (a : Result ℕ FlipHalt) (t' l' : List ℕ) → ¬ FlippedAs 6 O (1 ∷ 0 ∷ []) l a t' (0 ∷ 0 ∷ 1 ∷ 2 ∷ 3 ∷ 0 ∷ 4 ∷ 1 ∷ l')
  earlier_place_first a t' l' h = let e : ◌≡◌ {A = ℕ} 0 3 = ap (λ m. get_or m 0 0) (flipped_one h O_flips_back).2 in omega arith

  -- one that logs the first row as (1,0,4), not as stored
  pub logs_turned : (a : Result ℕ FlipHalt) (t' l' : List ℕ) → ¬ FlippedAs 6 O (1 ∷ 0 ∷ []) l a t' (3 ∷ 1 ∷ 0 ∷ 4 ∷ 0 ∷ 0 ∷ 1 ∷ 2 ∷ l')
  logs_turned a t' l' h = let e : ◌≡◌ {A = ℕ} 1 0 = ap (λ m. get_or m 1 0) (flipped_one h O_flips_back).2 in omega arith

-- ---- edges that are missing from the start

module _ {x y : ℕ} (m : ¬ Edge (rows O) x y) (l : List ℕ) (room : 8 ≤ length l) where
  -- nothing is done, and nothing is changed
  O_missing : FlippedAs 6 O (x ∷ y ∷ []) l (Err (Stopped EdgeMissing 0)) O l
  unfolding rows flat first_items laid
  O_missing = record {
    outcome = followed (flip_passes 6 O (x ∷ y ∷ []) l (record { counts = counts_fit_lem refl O_skin.stage; whole = refl }) room O_skin.stage, O_skin.stage)
        (some [] (x ⇒ y) [] refl (no_step refl) (missing m refl) refl) refl;
  }

module _ (l : List ℕ) (room : 8 ≤ length l) where
  -- 9 is no corner, so 0 9 is no edge
  pub O_no_corner : FlippedAs 6 O (0 ∷ 9 ∷ []) l (Err (Stopped EdgeMissing 0)) O l
  unfolding rows edges
  O_no_corner = O_missing (no_edge (rows O) 0 9 tt) l room

  -- one that refuses the list for it, as a table is refused for such a number
  pub five_for_thirty : (t' l' : List ℕ) → ¬ FlippedAs 6 O (0 ∷ 9 ∷ []) l (Err (Refused NumberNotBelow)) t' l'
  five_for_thirty t' l' h = flipped_apart.refused_stopped (flipped_one h O_no_corner).0

  -- 3 3 is no edge either
  pub O_one_corner : FlippedAs 6 O (3 ∷ 3 ∷ []) l (Err (Stopped EdgeMissing 0)) O l
  unfolding rows edges
  O_one_corner = O_missing (no_edge (rows O) 3 3 tt) l room

  -- one that refuses the list for it, as a table is refused for a row that has a number twice
  pub one_corner : (t' l' : List ℕ) → ¬ FlippedAs 6 O (3 ∷ 3 ∷ []) l (Err (Refused NumberTwice)) t' l'
  one_corner t' l' h = flipped_apart.refused_stopped (flipped_one h O_one_corner).0

-- ---- a list of three edges

-- 0 1 twice, which is missing the second time, and then 2 4
abbrev pub three_edges : List ℕ
three_edges = 0 ∷ 1 ∷ 0 ∷ 1 ∷ 2 ∷ 4 ∷ []

module _ (l : List ℕ) (room : 24 ≤ length l) where
  -- one is done, and the next is missing
  pub O_stops : FlippedAs 6 O three_edges l (Err (Stopped EdgeMissing 1)) O_flipped (one_record ++ drop 8 l)
  unfolding rows flat first_items laid edges
  O_stops = record {
    outcome = followed (flip_passes 6 O three_edges l (record { counts = counts_fit_lem refl O_skin.stage; whole = refl }) room O_skin.stage, O_skin.stage)
        (some ((0 ⇒ 1) ∷ []) (0 ⇒ 1) ((2 ⇒ 4) ∷ []) refl one_led (missing (no_edge (rows O_flipped) 0 1 tt) refl) refl) refl;
  }

  -- one that leaves the missing edge out and goes on with the rest of the list
  pub goes_on : (a : Result ℕ FlipHalt) (l' : List ℕ) → ¬ FlippedAs 6 O three_edges l a O_twice l'
  goes_on a l' h = let e : ◌≡◌ {A = ℕ} 1 2 = ap (λ t. get_or t 0 0) (flipped_one h O_stops).1 in omega arith

  -- one that takes back what was done before it
  pub takes_back : (a : Result ℕ FlipHalt) (l' : List ℕ) → ¬ FlippedAs 6 O three_edges l a O l'
  takes_back a l' h = let e : ◌≡◌ {A = ℕ} 0 2 = ap (λ t. get_or t 0 0) (flipped_one h O_stops).1 in omega arith

  -- one that counts the missing edge too
  pub counts_failing_edge : (t' l' : List ℕ) → ¬ FlippedAs 6 O three_edges l (Err (Stopped EdgeMissing 2)) t' l'
  counts_failing_edge t' l' h = let e : ◌≡◌ {A = ℕ} 2 1 = flipped_apart.stopped_one (flipped_one h O_stops).0 in omega arith

module _ (l : List ℕ) (short : length l < 24) where
  -- 3, before any flip, with room for one record or for two as with none
  pub O_short : FlippedAs 6 O three_edges l (Err (Refused RoomShort)) O l
  O_short = record { outcome = refused (judge_3 6 O three_edges l (record { counts = counts_fit_lem refl O_skin.stage; whole = refl }) short).holds refl refl }

  -- one that asks for room as it goes, and so does the first flip, whether it then tells 3 or that the next edge is missing
  pub room_as_it_goes : (a : Result ℕ FlipHalt) (l' : List ℕ) → ¬ FlippedAs 6 O three_edges l a O_flipped l'
  room_as_it_goes a l' h = let e : ◌≡◌ {A = ℕ} 2 0 = ap (λ t. get_or t 0 0) (flipped_one h O_short).1 in omega arith

-- ---- the records undone

-- the first is not undone before the second: what its flip writes, (2,0,4) and (2,4,1), does not stand at its places
not_yet : (S : List Row) → ¬ Undone 6 (rows O_twice) k₁ S
unfolding rows
not_yet S u = let e = u.is in let f = u.flips.leaves in let k : ◌≡◌ {A = ℕ} 4 2 = cc in omega arith

pub O_kept : UndoneAs 6 O_twice one_record (Err (Stopped UndoFails 0)) O_twice
unfolding rows flat first_items laid
O_kept = record {
  outcome = followed (undo_passes 6 O_twice one_record (record { counts = counts_fit_lem refl twice_stage; whole = refl }) twice_stage, twice_stage)
      (some [] k₁ [] refl (no_step refl) (not_yet, refl) refl) refl;
}

-- one that undoes a record wherever its two rows put back give a stage whose flip is allowed, as they give O: that flip does not write the present table
pub writes_another_table : (a : Result ℕ FlipHalt) → ¬ UndoneAs 6 O_twice one_record a O
writes_another_table a h = let e : ◌≡◌ {A = ℕ} 0 1 = ap (λ t. get_or t 0 0) (undid_one h O_kept).1 in omega arith

-- both are undone, the second first
pub O_undone : UndoneAs 6 O_twice two_records (Ok 2) O
unfolding rows flat first_items laid
O_undone = record {
  outcome = followed (undo_passes 6 O_twice two_records (record { counts = counts_fit_lem refl twice_stage; whole = refl }) twice_stage, twice_stage)
      (all (one_step (flip_undone once_stage second_flip) (one_step (flip_undone O_skin.stage first_flip) (no_step refl))) refl) refl;
}

-- one that begins with the first record, which is not undone there
pub first_record_first : (t' : List ℕ) → ¬ UndoneAs 6 O_twice two_records (Err (Stopped UndoFails 0)) t'
first_record_first t' h = flipped_apart.finished_stopped (undid_one O_undone h).0

-- or that puts the rows back in that order unasked, and leaves O_flipped
pub first_put_first : (a : Result ℕ FlipHalt) → ¬ UndoneAs 6 O_twice two_records a O_flipped
first_put_first a h = let e : ◌≡◌ {A = ℕ} 2 0 = ap (λ t. get_or t 0 0) (undid_one h O_undone).1 in omega arith
