-- The calls that refuse nothing: a number of the trial ring, and the caller's own memory told by places in it.
use Rattle.std.specs.Prelude.{◌≡◌, List, [], ℕ, ◌<◌, length, drop, Option}
use Rattle.std.specs.Borrow.{Bor}
use Rattle.ring.specs.Ring.{AnswerAt}
use Rattle.link.specs.Chosen.{Chosen}
use Rattle.catchup.specs.CatchUp.{PartOf, CaughtUp}
use Rattle.across.specs.declared.Stored.{Stored}
use Rattle.across.specs.Fields.{Stores}
use Rattle.bridge.specs.declared.Part.{Part}

-- as the call answers
pub record TrialShown (at : ℕ) (r : Stored) : Type 0 where
  pub answer : Option ℕ
  pub tells : AnswerAt at answer
  pub stores : Stores answer r

-- 0 where the ring is the first, 1 where it is the second and not the first
pub data Which (first second ring : Bor (List ℕ)) (r : ℕ) : Type 0 where
  the_first : ring ≡ first → r ≡ 0 → Which first second ring r
  the_second : ring ≡ second → ¬ (ring ≡ first) → r ≡ 1 → Which first second ring r

-- of the ring that the chooser hands back
pub record RingShown (first second : Bor (List ℕ)) (r : ℕ) : Type 0 where
  pub ring : Bor (List ℕ)
  pub chosen : Chosen first second ring
  pub which : Which first second ring r

-- the part p is the numbers of the log x from place k to its end
abbrev pub RestOf : Bor (List ℕ) → ℕ → Bor (List ℕ) → Type 0
RestOf x k p = PartOf x k (drop k x.now) p

-- an empty part is 0, 0, 0; any other goes to the end of the longer log, and starts where the shorter would end
pub data Places (first second p : Bor (List ℕ)) (r : Part) : Type 0 where
  nothing : p.now ≡ [] → r ≡ record { log = 0; from = 0; to = 0 } → Places first second p r
  of_second : ¬ (p.now ≡ []) → length first.now < length second.now → RestOf second (length first.now) p →
      r ≡ record { log = 1; from = length first.now; to = length second.now } → Places first second p r
  of_first : ¬ (p.now ≡ []) → length second.now < length first.now → RestOf first (length second.now) p →
      r ≡ record { log = 0; from = length second.now; to = length first.now } → Places first second p r

-- of the part that the call hands back
pub record PartShown (first second : Bor (List ℕ)) (r : Part) : Type 0 where
  pub part : Bor (List ℕ)
  pub caught_up : CaughtUp first second part
  pub places : Places first second part r
