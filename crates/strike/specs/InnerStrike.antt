-- A step on a table whose rows keep their slots: two rows leave, and in the others the kept number stands for the removed one.
use Rattle.std.specs.Prelude.{◌≡◌, ◌≢◌, ◌⊎◌, List, ℕ, ◌+◌, ◌*◌, ◌≤◌, ◌<◌, ◌/◌, ◌%◌, length, get_or}
use Rattle.std.proofs.Math.Logic.{ite}
use Rattle.std.proofs.Math.Decide.{ℕ_discrete}
use Rattle.surface.specs.Limits.{most_rows, most_corners}
use Rattle.surface.specs.Lists.{◌∈◌}
use Rattle.surface.specs.Rows.{row}
use Rattle.surface.specs.Link.{Meets}
use Rattle.surface.specs.Record.{Replays}
use Rattle.record.specs.declared.Leaving.{Leaving}
use Rattle.record.specs.declared.Record.{Record}
use Rattle.record.specs.Meant.{meant}
use Rattle.spots.specs.InnerHeld.{flat_of, held_rows, HoldsStage, after_place, own_place_lem}
use Rattle.ranks.specs.InnerRanks.{how_many, CountsRows}
use Rattle.around.specs.InnerRing.{RingOf}

-- 1 for a row that stands, 0 for one that has left
unfoldable pub stands : List ℕ → ℕ → ℕ
stands h i = ite {C = ℕ} (ℕ_discrete (get_or h (4 * i + 2) 0) most_corners) 0 1

-- sub and sup count the rows of h that stand
abbrev pub Tallied : List ℕ → List ℕ → List ℕ → Type 0
Tallied h sub sup = CountsRows (stands h) sub sup

-- the places of ring are those of slots of h
pub record Inside (h ring : List ℕ) : Type 0 where
  pub most : length h ≤ 4 * most_rows
  pub slots : {x : ℕ} → x ∈ ring → (x < length h) × (x % 4 < 3) × (own_place_lem x < length h) × (after_place x < length h)

-- r is x where the numbers a and b are the same, else y
abbrev pub Picks : ℕ → ℕ → ℕ → ℕ → ℕ → Type 0
Picks a b x y r = ((a ≡ b) × (r ≡ x)) ⊎ ((a ≢ b) × (r ≡ y))

-- of the places of ring, u comes right after the slot of one, and u is the third corner at that of two
pub record BothBeside (h ring : List ℕ) (u one two : ℕ) : Type 0 where
  pub one_in : one ∈ ring
  pub one_is : get_or h one 0 ≡ u
  pub two_in : two ∈ ring
  pub two_is : get_or h (after_place two) 0 ≡ u

-- there are such places
pub record SomeBeside (h ring : List ℕ) (u : ℕ) : Type 0 where
  pub one : ℕ
  pub two : ℕ
  pub both : BothBeside h ring u one two

-- the rows of two places, the earlier and the later
abbrev pub Ordered : ℕ → ℕ → ℕ → ℕ → Type 0
Ordered one two e l = ((one < two) × (e ≡ one / 4) × (l ≡ two / 4)) ⊎ ((two ≤ one) × (e ≡ two / 4) × (l ≡ one / 4))

-- the slots of ring now hold u, and nothing else changed
pub record SlotsRenamed (h ring : List ℕ) (u : ℕ) (h' : List ℕ) : Type 0 where
  pub size : length h' ≡ length h
  pub there : {x : ℕ} → x ∈ ring → get_or h' (own_place_lem x) 0 ≡ u
  pub else : (p : ℕ) → ((x : ℕ) → x ∈ ring → p ≢ own_place_lem x) → get_or h' p 0 ≡ get_or h p 0

-- the row r has left
pub record Killed (h : List ℕ) (r : ℕ) (h' : List ℕ) : Type 0 where
  pub size : length h' ≡ length h
  pub there : (p : ℕ) → p / 4 ≡ r → get_or h' p 0 ≡ most_corners
  pub else : (p : ℕ) → p / 4 ≢ r → get_or h' p 0 ≡ get_or h p 0

-- x tells the row r, and how many stand before it
pub record LeavingTold (h sub sup : List ℕ) (r : ℕ) (x : Leaving) : Type 0 where
  pub place : (f : ℕ → ℕ) → CountsRows f sub sup → x.place.0 ≡ how_many f 0 r
  pub is : row x.a.0 x.b.0 x.c.0 ≡ row (get_or h (4 * r + 2) 0) (get_or h (4 * r) 0) (get_or h (4 * r + 1) 0)

-- the edge from u up to v may be contracted, ring names the slots of v, and sub and sup count the rows
pub record Ready (h ring sub sup : List ℕ) (u v : ℕ) : Type 0 where
  pub corners : ℕ
  pub held : HoldsStage corners h
  pub rings : RingOf h v ring
  pub tallied : Tallied h sub sup
  pub rises : u < v
  pub meets : Meets (held_rows h) u v

-- the step: the rows that stand are those of the contraction, each where it stood
pub record Struck (h : List ℕ) (u v : ℕ) (k : Record) (h' sub' sup' : List ℕ) : Type 0 where
  pub size : length h' ≡ length h
  pub kept_is : k.kept.0 ≡ u
  pub removed_is : k.removed.0 ≡ v
  pub replays : Replays (held_rows h) (meant k) (held_rows h')
  pub held : {n : ℕ} → HoldsStage n h → HoldsStage n h'
  pub tallied : Tallied h' sub' sup'
  pub changes : (e : ℕ) → e < length (flat_of h) →
      (get_or (flat_of h') e 0 ≡ get_or (flat_of h) e 0) ⊎ (((get_or (flat_of h) e 0 ≡ v) × (get_or (flat_of h') e 0 ≡ u)) ⊎ (get_or (flat_of h') e 0 ≡ most_corners))
