-- A record is grown back exactly when the local rule holds, and to one table only.
use mathlib.Core.Path.{◌≡◌, refl, sym, ◌∙◌}
use mathlib.Core.Logic.{◌≢◌, ◌↔◌}
use mathlib.Core.List.Memᴰ
use mathlib.Core.List.{List}
use Prim.Native.Nat.{ℕ, ◌<◌, ◌+◌}
use native.Mathlib.Omega.{arith}
use lib.ListN.{length}
use Rattle.surface.specs.Lists.{◌∈◌}
use Rattle.surface.specs.Rows.{Row}
use Rattle.surface.specs.Table.{Edge}
use Rattle.surface.specs.Stage.{Stage}
use Rattle.surface.specs.Link.{Opposite}
use Rattle.surface.specs.Record.{Record, placed}
use Rattle.surface.proofs.Once.{turn}
use Rattle.surface.proofs.Contracted.{two_leave, from_a, b≢x, y≢b}
use Rattle.surface.proofs.Following.{re_edge, follows_same as one}
use Rattle.surface.proofs.Linked.{opposite, meets}
use Rattle.surface.proofs.Leaving.{leaving_out}
use Rattle.growth.specs.Grow.{put, put_back, Grown, Ends, in_order, crossed}
use Rattle.growth.specs.Accept.{Accepted}
use Rattle.growth.specs.InnerLocal.{Local}
use Rattle.growth.proofs.Growing.{no_second}
use Rattle.growth.proofs.Regrow.{Third, third_0, third_1, third_2, third, T_length, T_stage, T_opposite, T_back, T_leaving}
use Rattle.growth.proofs.Walked.{grow_back_lem, grow_back_grown}

-- no second table is accepted
pub accepted_one : {n₁ n₂ : ℕ} {T' T₁ T₂ : List Row} {k : Record} → Accepted n₁ T' k T₁ → Accepted n₂ T' k T₂ → T₁ ≡ T₂
accepted_one {n₁} {n₂} {T₁ = T₁} {T₂ = T₂} {k = k} g h =
    no_second n₁ n₂ k.kept k.removed T₁ T₂ g.stage h.stage g.replays.meets h.replays.meets (g.replays.leaves ∙ sym h.replays.leaves) (g.replays.record_is ∙ sym h.replays.record_is)

-- what is accepted meets the local rule
pub accepted_local : {n : ℕ} {T' T : List Row} {k : Record} → Accepted n T' k T → Local n T' k
accepted_local {n} {T'} {T} {k} g = record {
  lower = g.replays.lower;
  below = g.below;
  unused = g.unused;
  in_order = g.grows.in_order;
  inside = let h = g.grows.inside in let e = len in omega arith;
  room = let h = g.stage.most in let e = len in omega arith;
  x = g.grows.x;
  y = g.grows.y;
  ends = g.grows.ends;
  differ = λ e. o.two (sym ex ∙ e ∙ ey);
  at_x = re_edge refl (sym ex) at_x;
  at_y = re_edge refl (sym ey) at_y;
}
  where
    a : ℕ
    a = k.kept

    b : ℕ
    b = k.removed

    w : (x : ℕ) × (y : ℕ) × Opposite T a b x y
    w = opposite n T g.stage g.replays.meets

    x : ℕ
    x = w.0

    y : ℕ
    y = w.1

    o : Opposite T a b x y
    o = w.2

    len : length T ≡ 2 + length T'
    len = rw g.replays.leaves at (two_leave n T a b x y g.stage o)

    at_x : Edge T' a x
    at_x = rw g.replays.leaves at (from_a n T a b x y g.stage o (g.stage.both (b, turn (turn o.left))) (λ e. b≢x n T a b x y g.stage o (sym e)))

    at_y : Edge T' a y
    at_y = rw g.replays.leaves at (from_a n T a b x y g.stage o (b, turn o.right) (y≢b n T a b x y g.stage o))

    in_1 : k.row_1 ∈ T
    in_1 = (leaving_out a b T {i = k.place_1} {r = k.row_1} (rw g.replays.record_is (Memᴰ.head refl))).0

    in_2 : k.row_2 ∈ T
    in_2 = (leaving_out a b T {i = k.place_2} {r = k.row_2} (rw g.replays.record_is (Memᴰ.tail (Memᴰ.head refl)))).0

    ex : g.grows.x ≡ x
    ex = go g.grows.ends
      where
        go : Ends a b k.row_1 k.row_2 g.grows.x g.grows.y → g.grows.x ≡ x
        go (in_order l r) = one n T g.stage (record { by = k.row_1; here = in_1; turned = l }) o.left
        go (crossed r l) = one n T g.stage (record { by = k.row_2; here = in_2; turned = l }) o.left

    ey : g.grows.y ≡ y
    ey = go g.grows.ends
      where
        go : Ends a b k.row_1 k.row_2 g.grows.x g.grows.y → g.grows.y ≡ y
        go (in_order l r) = one n T g.stage (record { by = k.row_2; here = in_2; turned = r }) o.right
        go (crossed r l) = one n T g.stage (record { by = k.row_1; here = in_1; turned = r }) o.right

-- a table grown under the local rule is accepted
module _ (n : ℕ) (T' : List Row) (k : Record) (s : Stage n T') (l : Local n T' k) where
  pub local_accepts : (T : List Row) → Grown k.kept k.removed l.x l.y (placed k) T' T → Accepted n T' k T
  unfolding put_back
  local_accepts T g = rw g.whole (record {
    below = l.below;
    unused = l.unused;
    grows = record {
      x = l.x;
      y = l.y;
      ends = l.ends;
      in_order = l.in_order;
      inside = let h = l.inside in let e = len in omega arith;
      grown = record { middle = g.middle; each = g.each; whole = refl };
    };
    stage = stage;
    replays = record {
      lower = l.lower;
      meets = meets n T₀ stage (T_opposite n T' a b l.x l.y s l.at_x l.at_y l.differ a≢b l.unused l.below g.middle g.each i j k.row_1 k.row_2 l.ends);
      leaves = T_back n T' a b l.x l.y s l.at_x l.at_y l.differ a≢b l.unused l.below g.middle g.each i j k.row_1 k.row_2 l.ends;
      record_is = T_leaving n T' a b l.x l.y s l.at_x l.at_y l.differ a≢b l.unused l.below g.middle g.each i j k.row_1 k.row_2 l.ends l.in_order l.inside;
    };
  })
    where
      a : ℕ
      a = k.kept

      b : ℕ
      b = k.removed

      i : ℕ
      i = k.place_1

      j : ℕ
      j = k.place_2

      T₀ : List Row
      T₀ = put j k.row_2 (put i k.row_1 g.middle)

      a≢b : a ≢ b
      a≢b e = let h : a < b = l.lower in omega arith

      len : length T₀ ≡ 2 + length T'
      len = T_length n T' a b l.x l.y s l.at_x l.at_y l.differ a≢b l.unused l.below g.middle g.each i j k.row_1 k.row_2 l.ends

      stage : Stage n T₀
      stage = T_stage n T' a b l.x l.y s l.at_x l.at_y l.differ a≢b l.unused l.below g.middle g.each i j k.row_1 k.row_2 l.ends l.room

  -- the table that the function makes
  pub made : List Row
  made = grow_back_lem k.kept k.removed l.x l.y (placed k) T'

  pub made_accepted : Accepted n T' k made
  unfolding made
  made_accepted = local_accepts made (grow_back_grown n T' s k.kept k.removed l.x l.y l.at_x l.at_y (placed k))

-- accepted to some table exactly when the local rule holds
pub accepted_iff : (n : ℕ) (T' : List Row) (k : Record) → Stage n T' → ((T : List Row) × Accepted n T' k T) ↔ Local n T' k
accepted_iff n T' k s = (λ g. accepted_local g.1, λ l. (made n T' k s l, made_accepted n T' k s l))

-- the record tells x and y, so that growing back makes one table
pub ends_one : {a b x y x₂ y₂ : ℕ} {r₁ r₂ : Row} → a ≢ b → x ≢ a → x ≢ b → y ≢ a → y ≢ b → Ends a b r₁ r₂ x y → Ends a b r₁ r₂ x₂ y₂ → (x ≡ x₂) × (y ≡ y₂)
ends_one {a} {b} {x} {y} {x₂} {y₂} ab xa xb ya yb = go
  where
    same : {c d w z : ℕ} → c ≢ d → Third c d w c d z → w ≡ z
    same n (third_0 e f g) = sym g
    same n (third_1 e f g) = absurd (n e)
    same n (third_2 e f g) = absurd (n (sym f))

    never : {c d w z : ℕ} → c ≢ d → w ≢ c → w ≢ d → Third c d w d c z → ⊥
    never n wc wd (third_0 e f g) = n f
    never n wc wd (third_1 e f g) = wc (sym f)
    never n wc wd (third_2 e f g) = wd (sym e)

    go : {r₁ r₂ : Row} → Ends a b r₁ r₂ x y → Ends a b r₁ r₂ x₂ y₂ → (x ≡ x₂) × (y ≡ y₂)
    go (in_order l r) (in_order l₂ r₂) = (same ab (third l l₂), same (λ e. ab (sym e)) (third r r₂))
    go (in_order l r) (crossed r₂ l₂) = absurd (never ab xa xb (third l r₂))
    go (crossed r l) (in_order l₂ r₂) = absurd (never (λ e. ab (sym e)) yb ya (third r l₂))
    go (crossed r l) (crossed r₂ l₂) = (same ab (third l l₂), same (λ e. ab (sym e)) (third r r₂))
