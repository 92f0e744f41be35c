-- Growing back accepts the record that a step writes, and just what replaying accepts, the other way round; so a log grows back to one table.
use mathlib.Core.Path.{◌≡◌, refl, sym, ◌∙◌}
use mathlib.Core.Logic.{◌⊎◌, inl, inr, ◌↔◌}
use mathlib.Core.List.Memᴰ
use mathlib.Core.List.{List, [], ◌∷◌}
use Prim.Native.Nat.{ℕ, ◌<◌}
use native.Mathlib.Omega.{arith}
use Rattle.follow.specs.Leads.{Leads}
use Rattle.follow.proofs.Leading.{leads_one, leads_keep, leads_back}
use Rattle.surface.specs.Lists.{◌∈◌}
use Rattle.surface.specs.Rows.{Row}
use Rattle.surface.specs.Table.{Follows}
use Rattle.surface.specs.Stage.{Stage}
use Rattle.surface.specs.Link.{Meets, Opposite}
use Rattle.surface.specs.Contract.{at_0, at_1, Stays, contract}
use Rattle.surface.specs.Record.{at, leaving, Record, placed, Replays, Replayed}
use Rattle.surface.proofs.Once.{turn}
use Rattle.surface.proofs.Renumber.{stays_turned}
use Rattle.surface.proofs.Linked.{opposite}
use Rattle.surface.proofs.Counted.{used_old}
use Rattle.surface.proofs.Stepped.{contraction}
use Rattle.surface.proofs.Leaving.{leaving_in, at_row}
use Rattle.surface.proofs.TwoPlaces.{Two, two_places}
use Rattle.growth.specs.Grow.{Ends, in_order, crossed}
use Rattle.growth.specs.Accept.{Accepted, GrownBack}
use Rattle.growth.proofs.Regrow.{Third, third_0, third_1, third_2, third}
use Rattle.growth.proofs.Accepting.{accepted_one}
use Rattle.growth.proofs.Growing.{grown}

-- a step that writes the record k
module _ (n : ℕ) (T : List Row) (k : Record) (s : Stage n T) (m : Meets T k.kept k.removed) (is : leaving k.kept k.removed T ≡ placed k) where
  abbrev a : ℕ
  a = k.kept

  abbrev b : ℕ
  b = k.removed

  w : (x : ℕ) × (y : ℕ) × Opposite T a b x y
  w = opposite n T s m

  two : Two T (leaving a b T)
  two = two_places n T a b s m

  same : placed k ≡ at two.i two.r ∷ at two.j two.z ∷ []
  same = sym is ∙ two.is

  -- growing back accepts it, and gives the table back
  pub step_accepted : a < b → Accepted n (contract a b T) k T
  step_accepted h = record {
    below = s.below o.right;
    unused = λ u. (used_old n T a b x y s o u).1 refl;
    grows = record {
      x = x;
      y = y;
      ends = ends;
      in_order = let e = same in let i : k.place_1 ≡ two.i = cc in let j : k.place_2 ≡ two.j = cc in let q = two.order in omega arith;
      inside = let e = same in let j : k.place_2 ≡ two.j = cc in let q = two.inside in omega arith;
      grown = rw is at (grown n T a b x y s o);
    };
    stage = s;
    replays = record { lower = h; meets = m; leaves = refl; record_is = is };
  }
    where
      x : ℕ
      x = w.0

      y : ℕ
      y = w.1

      o : Opposite T a b x y
      o = w.2

      which : (i : ℕ) (r : Row) → at i r ∈ leaving a b T → (r ≡ k.row_1) ⊎ (r ≡ k.row_2)
      which i r l = go (Memᴰ.cases_cons (rw is at l))
        where
          go : (at i r ≡ at k.place_1 k.row_1) ⊎ (at i r ∈ at k.place_2 k.row_2 ∷ []) → (r ≡ k.row_1) ⊎ (r ≡ k.row_2)
          go (inl e) = inl (at_row e)
          go (inr l) = inr (at_row (Memᴰ.eq_of_singleton l))

      leaves : {v p q : ℕ} (f : Follows T v p q) → ¬ Stays a b f.by → (f.by ≡ k.row_1) ⊎ (f.by ≡ k.row_2)
      leaves f l = let i = leaving_in a b T f.here l in which i.0 f.by i.1

      ends : Ends a b k.row_1 k.row_2 x y
      ends = go (leaves o.left (λ l. stays_turned a b o.left.turned l (at_0 refl, at_1 refl))) (leaves o.right (λ l. stays_turned a b o.right.turned l (at_1 refl, at_0 refl)))
        where
          not_one : Third a b x b a y → ⊥
          not_one (third_0 i j l) = s.apart o.right i
          not_one (third_1 i j l) = s.apart (turn (turn o.left)) (sym j)
          not_one (third_2 i j l) = s.apart (turn o.left) i

          go : (o.left.by ≡ k.row_1) ⊎ (o.left.by ≡ k.row_2) → (o.right.by ≡ k.row_1) ⊎ (o.right.by ≡ k.row_2) → Ends a b k.row_1 k.row_2 x y
          go (inl e) (inl f) = absurd (not_one (third (rw (e ∙ sym f) at o.left.turned) o.right.turned))
          go (inl e) (inr f) = in_order (rw e at o.left.turned) (rw f at o.right.turned)
          go (inr e) (inl f) = crossed (rw f at o.right.turned) (rw e at o.left.turned)
          go (inr e) (inr f) = absurd (not_one (third (rw (e ∙ sym f) at o.left.turned) o.right.turned))

-- growing back accepts just what replaying accepts, the other way round
pub replay_iff : (n : ℕ) (T : List Row) (k : Record) (T' : List Row) → Accepted n T' k T ↔ (Stage n T × Replays T k T')
replay_iff n T k T' = (λ g. (g.stage, g.replays), λ h. there h.0 h.1)
  where
    there : Stage n T → Replays T k T' → Accepted n T' k T
    there s r = rw r.leaves at (step_accepted n T k s r.meets r.record_is r.lower)

pub replayed_grown : {n : ℕ} {T T' : List Row} {l : List Record} → Stage n T → Replayed T l T' → GrownBack n T' l T
replayed_grown {n} s r = leads_back (Stage n) (λ T T' k z d. (rw d.leaves at (contraction n T k.kept k.removed z d.meets), (replay_iff n T k T').1 (z, d))) s r

-- a log grows back to one table, and that is a stage
pub grown_back_one : (n : ℕ) {T' T₁ T₂ : List Row} (l : List Record) → GrownBack n T' l T₁ → GrownBack n T' l T₂ → T₁ ≡ T₂
grown_back_one n l g h = leads_one (λ T T₁ T₂ k a b. accepted_one a b) g h

pub grown_back_stage : (n : ℕ) {T' T : List Row} {l : List Record} → Stage n T' → Leads (Accepted n) T' l T → Stage n T
grown_back_stage n s g = leads_keep (Stage n) (λ T T' k z a. a.stage) s g
