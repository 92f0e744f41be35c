-- Where source 000 is wrong about corners and their edges: what can be refuted is refuted, on small tables. What is used here of source 004 holds as written: its Lemma 3.1, the second half of its
-- Proposition 3.1 and two sentences of its section 3.3.1 (`trap`, `three_meet`, `corners_finished`, `trap_used`). Of 000's bounds, lists, counters and half-edges, which have no part in this theory:
-- Theorem 4 has g = 2h, where its own two bounds, and the introduction, have h = 2g. Section 4.1 says that the new edges of u "are always inserted into lue"; by line 26 of Algorithm 4.5 those
-- to processed corners are not. Section 4.2 says of an edge in no critical cycle that its ends "cannot be part of a 3-cycle"; they are part of two, round its faces.
-- Algorithm 4.3 line 14 has t(x) > o(y) where the text below Proposition 9 has ≥, as line 19 has; line 22 has P for lte. In the worked cases of section 4.3 the counters fall by Algorithm 4.3,
-- which is called 4.4 before them and in (i) with (iii). In (ii) c(y) rises where t(y) = -1, which line 5 of Algorithm 4.4 forbids. In (ii) with (iv) both counters fall by lines 6 and 7
-- of Algorithm 4.3 where t(y) = -1, which line 5 forbids: c(x) alone falls, by line 15.
-- Section 4.5 has a half-edge end where its previous one starts; it ends where its next one does. Algorithm 4.7 line 2 takes a corner for a half-edge, and of the two ends the wrong one: by lines
-- 5, 15 and 16 h starts at u. Line 6 lacks a MATE: what it names starts at y, and the loop of lines 10 to 14, which goes round v by the half-edges that start there, never meets it and never ends.
-- Propositions 8 to 11 are not proved there.
use mathlib.Core.Path.{◌≡◌, refl, sym, ◌∙◌}
use mathlib.Core.Logic.{◌⊎◌, inl, inr}
use mathlib.Core.List.Memᴰ
use mathlib.Core.List.{List, [], ◌∷◌}
use Prim.Native.Nat.{ℕ}
use native.Mathlib.Decide.{ℕ_discrete}
use lib.Dec.{eqb, eqb→eq, eqb_refl}
use Rattle.surface.specs.Lists.{◌∈◌, Exactly}
use Rattle.surface.specs.Rows.{Row, row}
use Rattle.surface.specs.Table.{Edge, edges}
use Rattle.surface.specs.Stage.{Stage}
use Rattle.surface.specs.Link.{Meets}
use Rattle.surface.specs.Contract.{contract, renumber, replace, stays?, holds?}
use Rattle.surface.proofs.Testing.{among_whole}
use Rattle.surface.proofs.Renumber.{replace_at, replace_off, Source, source}
use Rattle.surface.proofs.Common.{On}
use Rattle.computed.proofs.Near.{follows, follows_whole, near, near_whole, neighbours}
use Rattle.computed.proofs.Passing.{passes_stage}
use Rattle.computed.proofs.Linking.{linked_sound, linked_whole}

-- section 2: "edge e is contractible if and only if the links of u and v in T have no common vertices, except for the two vertices of the link of e". Not on four rows: equation (1) above it
-- has edges in the links too
abbrev four : List Row
four = row 0 1 2 ∷ row 0 2 3 ∷ row 0 3 1 ∷ row 1 3 2 ∷ []

pub vertices_alone : ((w : ℕ) → Edge four 0 w → Edge four 1 w → On four 0 1 w) × ¬ Meets four 0 1
vertices_alone = ((λ w e k. first w (near_whole 1 w four k) (Memᴰ.cases_cons (near_whole 0 w four e))), λ m. linked_whole 0 1 four m)
  where
    third : (w : ℕ) → w ∈ 3 ∷ [] → On four 0 1 w
    third w m = rw (Memᴰ.eq_of_singleton m) (inr (follows four tt))

    second : (w : ℕ) → (w ≡ 2) ⊎ (w ∈ 3 ∷ []) → On four 0 1 w
    second w (inl e) = rw e (inl (follows four tt))
    second w (inr m) = third w m

    first : (w : ℕ) → w ∈ near 1 four → (w ≡ 1) ⊎ (w ∈ 2 ∷ 3 ∷ []) → On four 0 1 w
    first w k (inl e) = absurd (follows_self (rw e at k))
      where
        follows_self : 1 ∈ near 1 four → ⊥
        follows_self m = among_whole eqb eqb→eq eqb_refl (near 1 four) m
    first w k (inr m) = second w (Memᴰ.cases_cons m)

-- section 4.2: "during the processing of any vertex w, the degree of w can only increase or remain the same". It falls by one where the corner removed has three neighbours
abbrev six : List Row
six = row 0 1 3 ∷ row 1 2 3 ∷ row 2 0 3 ∷ row 1 0 4 ∷ row 2 1 4 ∷ row 0 2 4 ∷ []

pub degree_falls : Stage 5 six × Meets six 0 3 × Exactly (Edge six 0) 4 × Exactly (Edge (contract 0 3 six) 0) 3
unfolding edges contract renumber replace stays? holds? ℕ_discrete
degree_falls = (passes_stage 5 six tt, linked_sound 0 3 six tt, neighbours 0 six tt refl, neighbours 0 (contract 0 3 six) tt refl)

-- section 4.3: where a critical cycle C bounds a face after the step, "vertex z must be v, vertex u must belong to C". Here u = 0 has three neighbours, v = 1 has four, and C is 1, 2, 3
abbrev kept_three : List Row
kept_three = row 0 1 2 ∷ row 0 2 3 ∷ row 0 3 1 ∷ row 4 2 1 ∷ row 4 3 2 ∷ row 4 1 3 ∷ []

pub kept_has_three : Stage 5 kept_three × Meets kept_three 0 1 × (Exactly (Edge kept_three 0) 3 × Exactly (Edge kept_three 1) 4) × (Edge kept_three 1 2 × Edge kept_three 2 3 × Edge kept_three 3 1) × ¬ On kept_three 1 2 3 × On (contract 0 1 kept_three) 0 2 3
unfolding edges contract renumber replace stays? holds? ℕ_discrete
kept_has_three = (passes_stage 5 kept_three tt, linked_sound 0 1 kept_three tt, (neighbours 0 kept_three tt refl, neighbours 1 kept_three tt refl), ((0, follows kept_three tt), (0, follows kept_three tt), (0, follows kept_three tt)), none, inl (follows (contract 0 1 kept_three) tt))
  where
    none : ¬ On kept_three 1 2 3
    none (inl f) = follows_whole kept_three f
    none (inr f) = follows_whole kept_three f

-- Algorithm 4.3, lines 3 and 4: "Contract(e, ..)", and then "let x and y be the vertices in lk(e, K)". The edge e is gone by then; its link must be taken before
pub no_link_after : (n : ℕ) (T : List Row) (a b : ℕ) → Stage n T → Meets T a b → ¬ Edge (contract a b T) a b
no_link_after n T a b s m e = go (ℕ_discrete c.p b)
  where
    c : Source a b T a b e.0
    c = source a b e.1

    go : Dec (c.p ≡ b) → ⊥
    go (yes k) = s.apart m.edge.1 (sym (replace_at a b k) ∙ c.on_p)
    go (no k) = k (sym (replace_off a b k) ∙ c.on_p)
