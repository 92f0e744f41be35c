-- The theorems on flips and on undoing them. Other crates cite these.
use mathlib.Core.Path.{◌≡◌, refl, sym, ◌∙◌}
use mathlib.Core.Logic.{◌≢◌, ◌⊎◌, inl, inr, ◌↔◌}
use mathlib.Core.List.{List}
use Prim.Native.Nat.{ℕ, ◌+◌}
use native.Mathlib.Omega.{arith}
use lib.IntN.{ℤ}
use lib.ListN.{length, set}
use Rattle.surface.specs.Lists.{Distinct, Exactly}
use Rattle.surface.specs.Rows.{Row, row, Turned, turn_0, turn_1}
use Rattle.surface.specs.Table.{Follows, Edge, Used}
use Rattle.surface.specs.Stage.{Stage}
use Rattle.surface.specs.Euler.{Counts, Euler}
use Rattle.surface.proofs.Once.{turn, turn_it, distinct_rows, row_one}
use Rattle.surface.proofs.Following.{re_edge, stage_once, follows_same}
use Rattle.surface.proofs.Linked.{not_same}
use Rattle.surface.proofs.Counted.{one_count, two_rows, difference_same}
use Rattle.growth.proofs.Fork.{edge?}
use Rattle.growth.proofs.Regrow.{Third, third_0, third_1, third_2, third}
use Rattle.flips.specs.Flip.{Stands, Flip, Flips, NoEdge, Blocked}
use Rattle.flips.specs.Undo.{put_rows_lem, Undone}
use Rattle.flips.specs.InnerUndoable.{Undoable}
use Rattle.flips.proofs.Places.{stands_in, in_stands, stands_one, stands_place, set_new, set_other, set_back_two, NewOrOld, Swapped, set_two}
use Rattle.flips.proofs.Flipped.{Exchanged, exchanged_stage, no_ab, used_old, used_new}

-- a row (a, b, c) is no row (b, a, d)
not_one : {r z : Row} {a b c d : ℕ} → a ≢ b → c ≢ a → c ≢ b → Turned r a b c → Turned z b a d → r ≢ z
not_one {r} {z} {a} {b} {c} {d} ab ca cb t u e = go (third (rw e at t) u)
  where
    go : Third a b c b a d → ⊥
    go (third_0 i j l) = ab j
    go (third_1 i j l) = ca (sym j)
    go (third_2 i j l) = cb (sym i)

distinct_T : {n : ℕ} {T : List Row} → Stage n T → Distinct T
distinct_T {n} {T} s = distinct_rows (stage_once n T s)

module _ {T : List Row} {a b : ℕ} {k : Flip} {T' : List Row} (f : Flips T a b k T') where
  -- the two rows of the flip
  abc : Follows T a b f.c
  abc = record { by = k.row_1; here = stands_in f.stands_1; turned = f.turned_1 }

  bad : Follows T b a f.d
  bad = record { by = k.row_2; here = stands_in f.stands_2; turned = f.turned_2 }

module _ {n : ℕ} {T : List Row} {a b : ℕ} {k : Flip} {T' : List Row} (s : Stage n T) (f : Flips T a b k T') where
  -- the record's two places differ
  pub places_differ : k.place_1 ≢ k.place_2
  places_differ e =
      not_one (s.apart (abc f)) (s.apart (turn (turn (abc f)))) (λ h. s.apart (turn (abc f)) (sym h)) f.turned_1 f.turned_2
      (stands_one (rw e at f.stands_1) f.stands_2)

  exchanged : Exchanged T a b f.c f.d T'
  exchanged = record {
    o₁ = k.row_1;
    o₂ = k.row_2;
    z₁ = row f.c a f.d;
    z₂ = row f.c f.d b;
    in_1 = stands_in f.stands_1;
    in_2 = stands_in f.stands_2;
    old_1 = f.turned_1;
    old_2 = f.turned_2;
    new_1 = turn_0 refl;
    new_2 = turn_0 refl;
    no_edge = f.no_edge;
    swapped =
        rw f.leaves
        (set_two (row f.c a f.d) (row f.c f.d b) (distinct_T s) f.stands_1 f.stands_2 places_differ
        (λ m. f.no_edge (s.both (a, record { by = row f.c a f.d; here = m; turned = turn_1 refl })))
        (λ m. f.no_edge (b, record { by = row f.c f.d b; here = m; turned = turn_0 refl }))
        (λ e. s.apart (turn (bad f)) (cc)));
  }

  -- a flip leaves a stage
  pub flip_stage : Stage n T'
  flip_stage = exchanged_stage s exchanged

  -- which uses the same corners
  pub flip_used : {v : ℕ} → Used T v ↔ Used T' v
  flip_used = (λ u. used_new s exchanged u, λ u. used_old s exchanged u)

  -- with as many rows
  pub flip_length : length T' ≡ length T
  flip_length = exchanged.swapped.size

  -- and without the edge
  pub flip_gone : ¬ Edge T' a b
  flip_gone = no_ab s exchanged

  -- the new rows stand where the old ones stood
  new_1 : Stands T' k.place_1 (row f.c a f.d)
  new_1 = rw f.leaves (set_new (row f.c a f.d) (set_other k.place_2 (row f.c f.d b) (λ e. places_differ (sym e)) f.stands_1))

  new_2 : Stands T' k.place_2 (row f.c f.d b)
  new_2 = rw f.leaves (set_other k.place_1 (row f.c a f.d) places_differ (set_new (row f.c f.d b) f.stands_2))

  pub flip_undoable : Undoable T' k
  flip_undoable = record {
    a = a;
    b = b;
    c = f.c;
    d = f.d;
    turned_1 = f.turned_1;
    turned_2 = f.turned_2;
    stands_1 = new_1;
    stands_2 = new_2;
    no_edge = flip_gone;
  }

  -- the record undoes the flip
  pub flip_undone : Undone n T' k T
  flip_undone = record {
    is = sym (rw f.leaves (set_back_two (row f.c a f.d) (row f.c f.d b) places_differ f.stands_1 f.stands_2));
    stage = s;
    a = a;
    b = b;
    flips = f;
  }

  -- as many used corners, edges and rows
  pub flip_counts : {v e v' e' : ℕ} → Counts T v e → Counts T' v' e' → (v ≡ v') × (e ≡ e') × (length T' ≡ length T)
  flip_counts {v} {e} {v'} {e'} x y = (one_count x.corners used, edges, flip_length)
    where
      used : Exactly (Used T) v'
      used = record {
        list = y.corners.list;
        distinct = y.corners.distinct;
        all = λ u. y.corners.all (flip_used.0 u);
        only = λ m. flip_used.1 (y.corners.only m);
        count = y.corners.count;
      }

      edges : e ≡ e'
      edges =
          let h = two_rows n T s x.sides in
          let h' = two_rows n T' flip_stage y.sides in
          let l = flip_length in
          omega arith

  -- and so the same Euler number
  pub flip_euler : {χ χ' : ℤ} → Euler T χ → Euler T' χ' → χ ≡ χ'
  flip_euler x y =
      let h = flip_counts x.counts y.counts in
      let h₀ = h.0 in
      let h₁ = h.1 in
      let h₂ = h.2 in
      x.is ∙ difference_same (x.v + length T) x.e (y.v + length T') y.e (omega arith) ∙ sym y.is

-- a flip writes one record and leaves one table
pub flip_one : {n : ℕ} {T : List Row} {a b : ℕ} {k k₂ : Flip} {T₁ T₂ : List Row} → Stage n T → Flips T a b k T₁ → Flips T a b k₂ T₂ → (k ≡ k₂) × (T₁ ≡ T₂)
flip_one {n} {T} {a} {b} {k} {k₂} {T₁} {T₂} s f g = (λ i. record { place_1 = p₁ i; row_1 = r₁ i; place_2 = p₂ i; row_2 = r₂ i }, left ∙ sym g.leaves)
  where
    r₁ : k.row_1 ≡ k₂.row_1
    r₁ = row_one (stage_once n T s) (stands_in f.stands_1) f.turned_1 (stands_in g.stands_1) g.turned_1

    r₂ : k.row_2 ≡ k₂.row_2
    r₂ = row_one (stage_once n T s) (stands_in f.stands_2) f.turned_2 (stands_in g.stands_2) g.turned_2

    p₁ : k.place_1 ≡ k₂.place_1
    p₁ = stands_place (distinct_T s) f.stands_1 (rw (sym r₁) at g.stands_1)

    p₂ : k.place_2 ≡ k₂.place_2
    p₂ = stands_place (distinct_T s) f.stands_2 (rw (sym r₂) at g.stands_2)

    c : f.c ≡ g.c
    c = follows_same n T s (abc f) (abc g)

    d : f.d ≡ g.d
    d = follows_same n T s (bad f) (bad g)

    left : T₁ ≡ set (set T k₂.place_2 (row g.c g.d b)) k₂.place_1 (row g.c a g.d)
    left = rw (sym p₁, sym p₂, sym c, sym d) f.leaves

-- the edge is missing, or its opposite corners are joined already, or the flip is made
pub flip_outcome : {n : ℕ} {T : List Row} → Stage n T → (a b : ℕ) → NoEdge T a b ⊎ (Blocked T a b ⊎ ((k : Flip) × (T' : List Row) × Flips T a b k T'))
flip_outcome {n} {T} s a b = go (edge? T a b)
  where
    next : {c d : ℕ} → Follows T a b c → Follows T b a d → Dec (Edge T c d) → Blocked T a b ⊎ ((k : Flip) × (T' : List Row) × Flips T a b k T')
    next {c} {d} f g (yes e) = inl (record { c = c; d = d; first = f; second = g; edge = e })
    next {c} {d} f g (no m) =
        let i = in_stands f.here in
        let j = in_stands g.here in
        inr (
          record { place_1 = i.0; row_1 = f.by; place_2 = j.0; row_2 = g.by },
          set (set T j.0 (row c d b)) i.0 (row c a d),
          record {
            c = c;
            d = d;
            stands_1 = i.1;
            turned_1 = f.turned;
            stands_2 = j.1;
            turned_2 = g.turned;
            no_edge = m;
            leaves = refl;
          },
        )

    go : Dec (Edge T a b) → NoEdge T a b ⊎ (Blocked T a b ⊎ ((k : Flip) × (T' : List Row) × Flips T a b k T'))
    go (no m) = inl m
    go (yes e) = let g = s.both e in inr (next e.1 g.1 (edge? T e.0 g.0))

-- and no two of these
pub missing_blocked : {T : List Row} {a b : ℕ} → NoEdge T a b → Blocked T a b → ⊥
missing_blocked m j = m (j.c, j.first)

pub missing_flips : {T : List Row} {a b : ℕ} {k : Flip} {T' : List Row} → NoEdge T a b → Flips T a b k T' → ⊥
missing_flips m f = m (f.c, abc f)

pub blocked_flips : {n : ℕ} {T : List Row} {a b : ℕ} {k : Flip} {T' : List Row} → Stage n T → Blocked T a b → Flips T a b k T' → ⊥
blocked_flips {n} {T} s j f = f.no_edge (re_edge (follows_same n T s j.first (abc f)) (follows_same n T s j.second (bad f)) j.edge)

-- no corner has an edge to itself, and one that is not used has none
pub twisted : {n : ℕ} {T : List Row} {a b : ℕ} → a ≡ b → Stage n T → NoEdge T a b
twisted i s e = s.apart e.1 i

pub unused_missing : {T : List Row} {a b : ℕ} → ¬ Used T a → NoEdge T a b
unused_missing {b = b} m e = m (b, e)

pub unused_second_missing : {T : List Row} {a b : ℕ} → ¬ Used T b → NoEdge T a b
unused_second_missing {a = a} m e = m (e.0, (a, turn e.1))

swap_old : {T W : List Row} {o₁ o₂ z₁ z₂ : Row} → Swapped T o₁ o₂ z₁ z₂ W → Swapped T o₂ o₁ z₁ z₂ W
swap_old {T} {W} {o₁} {o₂} {z₁} {z₂} k = record {
  out = λ m. go (k.out m);
  keep = λ m e f. k.keep m f e;
  in_1 = k.in_1;
  in_2 = k.in_2;
  distinct = k.distinct;
  size = k.size;
}
  where
    go : {r : Row} → NewOrOld T o₁ o₂ z₁ z₂ r → NewOrOld T o₂ o₁ z₁ z₂ r
    go (inl e) = inl e
    go (inr (inl e)) = inr (inl e)
    go (inr (inr h)) = inr (inr (h.0, h.2, h.1))

-- undoing is a flip of the edge c d, up to turning
module _ {n : ℕ} {T' : List Row} {k : Flip} (s : Stage n T') (l : Undoable T' k) where
  abbrev a : ℕ
  a = l.a

  abbrev b : ℕ
  b = l.b

  abbrev c : ℕ
  c = l.c

  abbrev d : ℕ
  d = l.d

  cad : Follows T' c a d
  cad = record { by = row c a d; here = stands_in l.stands_1; turned = turn_0 refl }

  cdb : Follows T' c d b
  cdb = record { by = row c d b; here = stands_in l.stands_2; turned = turn_0 refl }

  a≢b : a ≢ b
  a≢b e = not_same n T' s cdb (turn (turn cad)) (sym e)

  far : k.place_1 ≢ k.place_2
  far e = s.apart (turn cad) (let h = stands_one (rw e at l.stands_1) l.stands_2 in cc)

  no_ba : ¬ Edge T' b a
  no_ba e = l.no_edge (s.both e)

  back : Exchanged T' c d b a (put_rows_lem k T')
  back = record {
    o₁ = row c d b;
    o₂ = row c a d;
    z₁ = k.row_1;
    z₂ = k.row_2;
    in_1 = stands_in l.stands_2;
    in_2 = stands_in l.stands_1;
    old_1 = turn_0 refl;
    old_2 = turn_1 refl;
    new_1 = turn_it l.turned_1;
    new_2 = l.turned_2;
    no_edge = no_ba;
    swapped =
        swap_old
        (set_two k.row_1 k.row_2 (distinct_T s) l.stands_1 l.stands_2 far (λ m. l.no_edge (c, record { by = k.row_1; here = m; turned = l.turned_1 }))
        (λ m. no_ba (d, record { by = k.row_2; here = m; turned = l.turned_2 }))
        (not_one a≢b (s.apart cad) (λ e. s.apart (turn (turn cdb)) (sym e)) l.turned_1 l.turned_2));
  }

  -- a record that meets the local rule is undone
  pub undone : Undone n T' k (put_rows_lem k T')
  undone = record {
    is = refl;
    stage = exchanged_stage s back;
    a = a;
    b = b;
    flips = record {
      c = c;
      d = d;
      stands_1 = set_new k.row_1 (set_other k.place_2 k.row_2 (λ e. far (sym e)) l.stands_1);
      turned_1 = l.turned_1;
      stands_2 = set_other k.place_1 k.row_1 far (set_new k.row_2 l.stands_2);
      turned_2 = l.turned_2;
      no_edge = no_ab s back;
      leaves = sym (set_back_two k.row_1 k.row_2 far l.stands_1 l.stands_2);
    };
  }

-- a record that does not meet it is not
pub not_undone : {n : ℕ} {T' : List Row} {k : Flip} → ¬ Undoable T' k → (T : List Row) → ¬ Undone n T' k T
not_undone m T u = m (flip_undoable u.stage u.flips)

pub undone_iff : (n : ℕ) (T' : List Row) (k : Flip) → Stage n T' → ((T : List Row) × Undone n T' k T) ↔ Undoable T' k
undone_iff n T' k s = (λ g. flip_undoable g.1.stage g.1.flips, λ l. (put_rows_lem k T', undone s l))

-- a record is undone to one table
pub undone_one : {n : ℕ} {T' T₁ T₂ : List Row} {k : Flip} → Undone n T' k T₁ → Undone n T' k T₂ → T₁ ≡ T₂
undone_one g h = g.is ∙ sym h.is
