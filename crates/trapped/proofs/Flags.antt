-- What was tried at u and failed need not be tried again, but in one case. Source 000, section 4.1: "while in lte, an edge may have become contractible again as the result of the contraction
-- of another edge"; by Proposition 7 the edge contracted then ends at a corner with three neighbours. 000 counts critical cycles to know when; here such an edge is tried again.
use mathlib.Core.Path.{◌≡◌, refl, sym}
use mathlib.Core.Logic.{◌⊎◌, inl, inr}
use mathlib.Core.List.Memᴰ
use mathlib.Core.List.{List, [], ◌∷◌}
use Prim.Native.Nat.{ℕ}
use Rattle.surface.specs.Lists.{◌∈◌, none, more, Exactly}
use Rattle.surface.specs.Rows.{Row}
use Rattle.surface.specs.Table.{Follows, Edge}
use Rattle.surface.specs.Stage.{Stage}
use Rattle.surface.specs.Link.{Meets, Opposite}
use Rattle.surface.specs.Contract.{contract}
use Rattle.surface.proofs.Count.{not_two}
use Rattle.surface.proofs.Once.{turn}
use Rattle.surface.proofs.Following.{re, re_edge}
use Rattle.surface.proofs.Contracted.{Side, of_a, of_b, side}
use Rattle.surface.proofs.Linked.{opposite}
use Rattle.surface.proofs.Tetrahedron.{Of₃, is_a, is_b, is_c, round}
use Rattle.surface.proofs.Counted.{one_count}
use Rattle.trapped.specs.Trapped.{Spared, far, many}
use Rattle.trapped.proofs.Trap.{blocked'}

-- three corners that follow each other are all the neighbours
pub three_count : (n : ℕ) (T : List Row) → Stage n T → {v p q r : ℕ} → Follows T v p q → Follows T v q r → Follows T v r p → Exactly (Edge T v) 3
three_count n T s {v} {p} {q} {r} f g h = record {
  list = p ∷ q ∷ r ∷ [];
  distinct = more (not_two (s.apart (turn f)) (λ m. s.apart (turn h) (sym (Memᴰ.eq_of_singleton m))))
      (more (λ m. s.apart (turn g) (Memᴰ.eq_of_singleton m)) (more Memᴰ.not-nil none));
  all = λ e. put _ (round n T s f g h e);
  only = λ m. first _ (Memᴰ.cases_cons m);
  count = refl;
}
  where
    put : (t : ℕ) → Of₃ p q r t → t ∈ p ∷ q ∷ r ∷ []
    put t (is_a e) = Memᴰ.head e
    put t (is_b e) = Memᴰ.tail (Memᴰ.head e)
    put t (is_c e) = Memᴰ.tail (Memᴰ.tail (Memᴰ.head e))

    second : (t : ℕ) → (t ≡ q) ⊎ (t ∈ r ∷ []) → Edge T v t
    second t (inl e) = (r, re refl (sym e) refl g)
    second t (inr m) = (p, re refl (sym (Memᴰ.eq_of_singleton m)) refl h)

    first : (t : ℕ) → (t ≡ p) ⊎ (t ∈ q ∷ r ∷ []) → Edge T v t
    first t (inl e) = (q, re refl (sym e) refl f)
    first t (inr m) = second t (Memᴰ.cases_cons m)

-- an edge of a that failed fails after the step, where it need not be tried again: Proposition 7. x and y are those before the step (`no_link_after` in Slips)
pub spared : (n : ℕ) (T : List Row) (a b : ℕ) → Stage n T → Meets T a b → {h : ℕ} → Spared T a b h → ¬ Meets T a h → ¬ Meets (contract a b T) a h
spared n T a b s m {h} (many {k = k} c d e nb) t i =
    let o = opposite n T s m in
    blocked' n T a b o.0 o.1 s o.2 e nb (λ g. d (one_count c (three_count n T s o.2.right g.0 (turn o.2.left)))) t i
spared n T a b s m {h} (far d) t i = go (opposite n T s m)
  where
    go : ((x : ℕ) × (y : ℕ) × Opposite T a b x y) → ⊥
    go z = at (side n T a b x y s o i.edge)
      where
        x : ℕ
        x = z.0

        y : ℕ
        y = z.1

        o : Opposite T a b x y
        o = z.2

        not : Follows T b y x → (h ≡ x) ⊎ (h ≡ y) → ⊥
        not g (inl e) = d (re_edge refl (sym e) (a, turn o.left))
        not g (inr e) = d (re_edge refl (sym e) (x, g))

        at : Side n T a b x y s o h → ⊥
        at (of_a e nb) = blocked' n T a b x y s o e nb (λ g. not g.0 g.1) t i
        at (of_b e na) = d e

-- the corners with the property F are known to have no edge to u that meets the condition: list lte of 000, "the edges incident on u that have been tested [..] and failed the test"
abbrev pub Known : List Row → ℕ → (ℕ → Type 0) → Type 0
Known T u F = (h : ℕ) → F h → ¬ Meets T u h

pub known_step : (n : ℕ) (T : List Row) (u b : ℕ) → Stage n T → Meets T u b → (F G : ℕ → Type 0) → Known T u F → ((k : ℕ) → G k → F k × Spared T u b k) → Known (contract u b T) u G
known_step n T u b s m F G known sub h g = let k = sub h g in spared n T u b s m k.1 (known h k.0)
