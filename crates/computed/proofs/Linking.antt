-- A test of the link condition that computes, and says neither too much nor too little.
use mathlib.Core.Logic.{◌⊎◌, inl, inr}
use mathlib.Core.Bool.{Bool, true, false, ◌&&◌, ◌||◌, not}
use mathlib.Core.List.{List}
use Prim.Native.Nat.{ℕ}
use lib.Dec.{T as So, eqb, eqb→eq, eqb_refl, T_not, not_T}
use Rattle.surface.specs.Rows.{Row}
use Rattle.surface.specs.Lists.{◌∈◌}
use Rattle.surface.specs.Table.{Arrow, ◌⇒◌, Follows, Edge, edges}
use Rattle.surface.specs.Link.{Meets, Link}
use Rattle.surface.proofs.Testing.{and_l, and_r, and_in, or_in, or_l, or_r, every, every_at, every_in, among, among_sound, among_whole, arrow_eq, arrow_sound, arrow_whole}
use Rattle.surface.proofs.Round.{round, round_sound, round_whole}
use Rattle.computed.proofs.Near.{near, near_sound, near_whole}

abbrev same_num : ℕ → List ℕ → Bool
same_num w l = among eqb w l

num_sound : {w : ℕ} (l : List ℕ) → So (same_num w l) → w ∈ l
num_sound l h = among_sound eqb eqb→eq eqb_refl l h

num_whole : {w : ℕ} (l : List ℕ) → w ∈ l → So (same_num w l)
num_whole l m = among_whole eqb eqb→eq eqb_refl l m

arr_sound : {a : Arrow} (l : List Arrow) → So (among arrow_eq a l) → a ∈ l
arr_sound l h = among_sound arrow_eq arrow_sound arrow_whole l h

arr_whole : {a : Arrow} (l : List Arrow) → a ∈ l → So (among arrow_eq a l)
arr_whole l m = among_whole arrow_eq arrow_sound arrow_whole l m

-- a common neighbour is opposite the edge
abbrev corner_ok : ℕ → ℕ → List Row → ℕ → Bool
corner_ok a b T w = not (same_num w (near b T)) || (among arrow_eq (b ⇒ w) (round a T) || among arrow_eq (a ⇒ w) (round b T))

-- an edge of the one link is no edge of the other
abbrev edge_ok : ℕ → List Row → Arrow → Bool
edge_ok b T (p ⇒ q) = not (among arrow_eq (p ⇒ q) (round b T) || among arrow_eq (q ⇒ p) (round b T))

abbrev pub linked : ℕ → ℕ → List Row → Bool
linked a b T = same_num b (near a T) && (every (corner_ok a b T) (near a T) && every (edge_ok b T) (round a T))

pub linked_sound : (a b : ℕ) (T : List Row) → So (linked a b T) → Meets T a b
linked_sound a b T h = record {
  edge = near_sound a b T (num_sound (near a T) (and_l (same_num b (near a T)) _ h));
  corner = λ e k. corner _ e k (every_at (corner_ok a b T) (near a T) (and_l (every (corner_ok a b T) (near a T)) _ h₂) (near_whole a _ T e));
  no_edge = λ l k. no_edge _ _ l k;
}
  where
    h₂ : So (every (corner_ok a b T) (near a T) && every (edge_ok b T) (round a T))
    h₂ = and_r (same_num b (near a T)) _ h

    third : (w : ℕ) → So (among arrow_eq (b ⇒ w) (round a T)) ⊎ So (among arrow_eq (a ⇒ w) (round b T)) → Follows T a b w ⊎ Follows T b a w
    third w (inl k) = inl (round_sound T (arr_sound (round a T) k))
    third w (inr k) = inr (round_sound T (arr_sound (round b T) k))

    corner : (w : ℕ) → Edge T a w → Edge T b w → So (corner_ok a b T w) → Follows T a b w ⊎ Follows T b a w
    corner w e k c = go (or_in (not (same_num w (near b T))) _ c)
      where
        go : So (not (same_num w (near b T))) ⊎ So (among arrow_eq (b ⇒ w) (round a T) || among arrow_eq (a ⇒ w) (round b T)) → Follows T a b w ⊎ Follows T b a w
        go (inl n) = absurd (T_not (same_num w (near b T)) n (num_whole (near b T) (near_whole b w T k)))
        go (inr o) = third w (or_in (among arrow_eq (b ⇒ w) (round a T)) _ o)

    one : (p q : ℕ) → Follows T a p q → Link T b p q → ⊥
    one p q f k = T_not (among arrow_eq (p ⇒ q) (round b T) || among arrow_eq (q ⇒ p) (round b T))
        (every_at (edge_ok b T) (round a T) (and_r (every (corner_ok a b T) (near a T)) _ h₂) (round_whole T f)) (go k)
      where
        go : Link T b p q → So (among arrow_eq (p ⇒ q) (round b T) || among arrow_eq (q ⇒ p) (round b T))
        go (inl g) = or_l (among arrow_eq (p ⇒ q) (round b T)) _ (arr_whole (round b T) (round_whole T g))
        go (inr g) = or_r (among arrow_eq (p ⇒ q) (round b T)) _ (arr_whole (round b T) (round_whole T g))

    swap : (p q : ℕ) → Link T b p q → Link T b q p
    swap p q (inl g) = inr g
    swap p q (inr g) = inl g

    no_edge : (p q : ℕ) → Link T a p q → Link T b p q → ⊥
    no_edge p q (inl f) k = one p q f k
    no_edge p q (inr f) k = one q p f (swap p q k)

pub linked_whole : (a b : ℕ) (T : List Row) → Meets T a b → So (linked a b T)
linked_whole a b T m =
    and_in (same_num b (near a T)) _ (num_whole (near a T) (near_whole a b T m.edge))
    (and_in (every (corner_ok a b T) (near a T)) _
    (every_in (corner_ok a b T) (near a T) (λ w k. corner w (near_sound a w T k)))
    (every_in (edge_ok b T) (round a T) edge))
  where
    test : (w : ℕ) → Edge T a w → (x : Bool) → (So x → Edge T b w) → So (not x || (among arrow_eq (b ⇒ w) (round a T) || among arrow_eq (a ⇒ w) (round b T)))
    test w e true k = go (m.corner e (k tt))
      where
        go : Follows T a b w ⊎ Follows T b a w → So (among arrow_eq (b ⇒ w) (round a T) || among arrow_eq (a ⇒ w) (round b T))
        go (inl f) = or_l (among arrow_eq (b ⇒ w) (round a T)) _ (arr_whole (round a T) (round_whole T f))
        go (inr f) = or_r (among arrow_eq (b ⇒ w) (round a T)) _ (arr_whole (round b T) (round_whole T f))
    test w e false k = tt

    corner : (w : ℕ) → Edge T a w → So (corner_ok a b T w)
    corner w e = test w e (same_num w (near b T)) (λ k. near_sound b w T (num_sound (near b T) k))

    edge : (x : Arrow) → x ∈ round a T → So (edge_ok b T x)
    edge (p ⇒ q) k = not_T (among arrow_eq (p ⇒ q) (round b T) || among arrow_eq (q ⇒ p) (round b T)) (λ h. go (or_in (among arrow_eq (p ⇒ q) (round b T)) _ h))
      where
        go : So (among arrow_eq (p ⇒ q) (round b T)) ⊎ So (among arrow_eq (q ⇒ p) (round b T)) → ⊥
        go (inl h) = m.no_edge (inl (round_sound T k)) (inl (round_sound T (arr_sound (round b T) h)))
        go (inr h) = m.no_edge (inl (round_sound T k)) (inr (round_sound T (arr_sound (round b T) h)))

abbrev meet : List Row → Arrow → Bool
meet T (p ⇒ q) = linked p q T

-- no edge of the table meets the link condition
abbrev pub still : List Row → Bool
still T = every (λ x. not (meet T x)) (edges T)
