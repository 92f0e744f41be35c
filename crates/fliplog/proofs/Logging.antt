-- The layout of a flip log is sound, and what is read by place, of a list of edges and of a log, is the item that stands there.
use mathlib.Core.Path.{◌≡◌, refl, sym, ◌∙◌, ap}
use mathlib.Core.List.{List, ◌∷◌, ◌++◌}
use Prim.Native.Nat.{ℕ, ◌+◌}
use native.Mathlib.Omega.{arith}
use lib.ListN.{length, drop, get_or}
use lib.Seq.{get_or-drop}
use Rattle.surface.specs.Rows.{Row, row}
use Rattle.surface.specs.Table.{◌⇒◌}
use Rattle.flips.specs.Flip.{Flip}
use Rattle.record.specs.Layout.{three}
use Rattle.record.specs.declared.Leaving.{Leaving}
use Rattle.laid.proofs.Laws.{Sound}
use Rattle.fliplog.specs.Layout.{edge_list, numbers, flip_in, flip_log}
use Rattle.fliplog.specs.InnerMeant.{meant}
use Rattle.fliplog.specs.Inner.{ReadRow}

pub flip_log_sound : Sound flip_log
flip_log_sound = record { some = omega arith; size = λ k. size k k.row_1 k.row_2; back = λ k l. back k l k.row_1 k.row_2 refl refl }
  where
    size : (k : Flip) (r z : Row) → length (k.place_1 ∷ (three r ++ (k.place_2 ∷ three z))) ≡ 8
    size k (row i j m) (row x y v) = refl

    back : (k : Flip) (l : List ℕ) (r z : Row) → k.row_1 ≡ r → k.row_2 ≡ z → flip_in (numbers k ++ l) ≡ k
    back k l (row i j m) (row x y v) e f =
        (λ a. flip_in ((k.place_1 ∷ (three (e a) ++ (k.place_2 ∷ three (f a)))) ++ l))
        ∙ (λ a. record { place_1 = k.place_1; row_1 = sym e a; place_2 = k.place_2; row_2 = sym f a })

module _ (l : List ℕ) (i : ℕ) where
  on : (m : ℕ) → get_or l (i + m) 0 ≡ get_or (drop i l) m 0
  on m = sym (get_or-drop i l m 0)

  none : i ≡ i + 0
  none = omega arith

  later : (m k : ℕ) → 4 + m ≡ k → get_or l (i + 4 + m) 0 ≡ get_or (drop i l) k 0
  later m k h = ap (λ (z : ℕ). get_or l z 0) (omega arith) ∙ on k

  -- an edge by place
  pub edge_there : (get_or l i 0 ⇒ get_or l (i + 1) 0) ≡ edge_list.item (drop i l)
  edge_there = λ a. (ap (λ (z : ℕ). get_or l z 0) none ∙ on 0) a ⇒ on 1 a

  -- a record by place
  pub flip_there : (first second : Leaving) → ReadRow l i first → ReadRow l (i + 4) second → meant (record { first = first; second = second }) ≡ flip_in (drop i l)
  flip_there first second r z = λ a. record {
    place_1 = (r.place ∙ ap (λ (m : ℕ). get_or l m 0) none ∙ on 0) a;
    row_1 = row ((r.a ∙ on 1) a) ((r.b ∙ on 2) a) ((r.c ∙ on 3) a);
    place_2 = (z.place ∙ on 4) a;
    row_2 = row ((z.a ∙ later 1 5 refl) a) ((z.b ∙ later 2 6 refl) a) ((z.c ∙ later 3 7 refl) a);
  }
