-- Two rows leave: what the loops take off, and that what is left counts the set without them.
use mathlib.Core.Path.{◌≡◌, refl, sym, ◌∙◌}
use mathlib.Core.List.{List}
use mathlib.Core.Logic.{◌≢◌}
use Prim.Native.Nat.{ℕ, ◌+◌, ◌-◌, ◌*◌, ◌≤◌, ◌<◌, ◌/◌, ◌%◌}
use native.Mathlib.Decide.{ℕ_discrete, dec_lt}
use native.Mathlib.Omega.{arith}
use lib.ListN.{length, get_or, set, take, drop, length-set, length-drop}
use lib.Seq.{get_or-set_same, get_or-set_other, get_or-drop, take_all}
use Rattle.surface.specs.Limits.{most_rows}
use Rattle.ranks.specs.InnerRanks.{block, blocks, CountsRows, without, Stair, TwoStand, TwoLeft, past, later_in_block, CanLower, BlockWritten, BlockLowered, CanDrop, Dropped}
use Rattle.ranks.proofs.Filling.{Filled, fill_more}
use Rattle.ranks.proofs.Sums.{without_other, without_bit, past_yes, past_no, later_same, later_other, within_less, sums_less}

-- a stair taken so that its ones start past q
stair_past : (n q k : ℕ) (l : List ℕ) → Stair n l → q < n → k < n → get_or l (n - 1 - q + k) 0 ≡ past q k
stair_past n q k l s b h = go (dec_lt q k)
  where
    go : Dec (q < k) → get_or l (n - 1 - q + k) 0 ≡ past q k
    go (yes p) =
        let e : n - 1 - q + k ≡ n + (k - 1 - q) = omega arith in
        rw e (s.high (k - 1 - q) (omega arith) ∙ sym (past_yes q k p))
    go (no p) = s.low (n - 1 - q + k) (omega arith) ∙ sym (past_no q k (omega arith))

-- the rest of l from x on, as the code takes it
abbrev pub rest : List ℕ → ℕ → List ℕ
rest l x = take (length l - x) (drop x l)

rest_at : (l : List ℕ) (x k : ℕ) → get_or (rest l x) k 0 ≡ get_or l (x + k) 0
rest_at l x k = let e = length-drop x l in rw (take_all (length l - x) (drop x l) (omega arith)) (get_or-drop x l k 0)

flight_past : (l : List ℕ) (i k : ℕ) → Stair blocks l → i < most_rows → k < blocks → get_or (rest l (blocks - 1 - i / block)) k 0 ≡ past (i / block) k
flight_past l i k s b h = rest_at l (blocks - 1 - i / block) k ∙ stair_past blocks (i / block) k l s (omega arith) h

-- what is left of the number at place k of i's block
abbrev pub number_left : ℕ → List ℕ → ℕ → ℕ
number_left i sub k = get_or sub (block * (i / block) + k) 0 - later_in_block i (block * (i / block) + k)

-- in the block of i
module _ (i : ℕ) (small : i < most_rows) where
  abbrev pub start : ℕ
  start = block * (i / block)

  later_at : (k : ℕ) → k < block → past (i % block) k ≡ later_in_block i (start + k)
  later_at k h = let e : (start + k) / block ≡ i / block = omega arith in go (dec_lt (i % block) k) ∙ sym (later_same i (start + k) e)
    where
      go : Dec (i % block < k) → past (i % block) k ≡ past i (start + k)
      go (yes p) = past_yes (i % block) k p ∙ sym (past_yes i (start + k) (omega arith))
      go (no p) = past_no (i % block) k (omega arith) ∙ sym (past_no i (start + k) (omega arith))

  module _ (stair sub : List ℕ) (s : Stair block stair) (c : CanLower i sub) (k : ℕ) (h : k < block) where
    pub less_can : get_or stair (block - 1 - i % block + k) 0 ≤ get_or sub (start + k) 0
    less_can =
        let a = stair_past block (i % block) k stair s (omega arith) h in
        let e = later_at k h in
        let f = c.enough (start + k) (omega arith) in
        omega arith

    pub less_more : (less : List ℕ) → length less ≡ block → Filled (number_left i sub) k less → Filled (number_left i sub) (k + 1) (set less k (get_or sub (start + k) 0 - get_or stair (block - 1 - i % block + k) 0))
    less_more less n f = rw (stair_past block (i % block) k stair s (omega arith) h ∙ later_at k h) (fill_more (number_left i sub) k less (omega arith) f)

-- the numbers of less stand in l from a on, as far as k
pub record Writing (a k : ℕ) (less l₀ l : List ℕ) : Type 0 where
  pub size : length l ≡ length l₀
  pub here : (m : ℕ) → m < k → get_or l (a + m) 0 ≡ get_or less m 0
  pub before : (r : ℕ) → r < a → get_or l r 0 ≡ get_or l₀ r 0
  pub after : (r : ℕ) → a + k ≤ r → get_or l r 0 ≡ get_or l₀ r 0

pub write_none : (a : ℕ) (less l : List ℕ) → Writing a 0 less l l
write_none a less l = record { size = refl; here = λ m h. absurd (omega arith); before = λ r h. refl; after = λ r h. refl }

pub write_more : (a k : ℕ) (less l₀ l : List ℕ) → a + k < length l → Writing a k less l₀ l → Writing a (k + 1) less l₀ (set l (a + k) (get_or less k 0))
write_more a k less l₀ l h w = record {
  size = length-set l (a + k) (get_or less k 0) ∙ w.size;
  here = λ m q. here m q (ℕ_discrete m k);
  before = λ r q. get_or-set_other l (a + k) r (get_or less k 0) 0 (λ e. omega arith) ∙ w.before r q;
  after = λ r q. get_or-set_other l (a + k) r (get_or less k 0) 0 (λ e. omega arith) ∙ w.after r (omega arith);
}
  where
    here : (m : ℕ) → m < k + 1 → Dec (m ≡ k) → get_or (set l (a + k) (get_or less k 0)) (a + m) 0 ≡ get_or less m 0
    here m q (yes e) = rw e (get_or-set_same l (a + k) (get_or less k 0) 0 h)
    here m q (no e) = get_or-set_other l (a + k) (a + m) (get_or less k 0) 0 (λ z. e (omega arith)) ∙ w.here m (omega arith)

pub write_end : (i k : ℕ) (less sub sub' : List ℕ) → block ≤ k → k ≤ block → Writing (block * (i / block)) k less sub sub' → BlockWritten i less sub sub'
write_end i k less sub sub' h l w = record { size = w.size; here = λ m q. w.here m (omega arith); other = λ r d. other r d (dec_lt r (block * (i / block))) }
  where
    other : (r : ℕ) → r / block ≢ i / block → Dec (r < block * (i / block)) → get_or sub' r 0 ≡ get_or sub r 0
    other r d (yes q) = w.before r q
    other r d (no q) = w.after r (omega arith)

pub block_lowered : (i : ℕ) (sub less sub' : List ℕ) (k : ℕ) → block ≤ k → Filled (number_left i sub) k less → BlockWritten i less sub sub' → BlockLowered i sub sub'
block_lowered i sub less sub' k h f w = record { size = w.size; lost = λ r l. lost r (ℕ_discrete (r / block) (i / block)) }
  where
    lost : (r : ℕ) → Dec (r / block ≡ i / block) → get_or sub' r 0 ≡ get_or sub r 0 - later_in_block i r
    lost r (yes e) =
        let p : block * (i / block) + r % block ≡ r = omega arith in
        rw p at (w.here (r % block) (omega arith) ∙ f (r % block) (omega arith))
    lost r (no e) = let z = later_other i r e in let a = w.other r e in omega arith

-- what is left of the sum of block b
abbrev pub sum_left : ℕ → ℕ → List ℕ → ℕ → ℕ
sum_left i j sup b = get_or sup b 0 - past (i / block) b - past (j / block) b

module _ (i j : ℕ) (small-i : i < most_rows) (small-j : j < most_rows) (flight sup : List ℕ) (s : Stair blocks flight) (c : CanDrop i j sup) (k : ℕ) (h : k < blocks) where
  pub drop_can : get_or (rest flight (blocks - 1 - i / block)) k 0 + get_or (rest flight (blocks - 1 - j / block)) k 0 ≤ get_or sup k 0
  drop_can =
      let a = flight_past flight i k s small-i h in
      let b = flight_past flight j k s small-j h in
      let f = c.enough k h in
      omega arith

  pub drop_more : (less : List ℕ) → length less ≡ blocks → Filled (sum_left i j sup) k less →
      Filled (sum_left i j sup) (k + 1) (set less k (get_or sup k 0 - get_or (rest flight (blocks - 1 - i / block)) k 0 - get_or (rest flight (blocks - 1 - j / block)) k 0))
  drop_more less n f = rw (flight_past flight i k s small-i h, flight_past flight j k s small-j h) (fill_more (sum_left i j sup) k less (omega arith) f)

-- that both stand is enough, and what is left counts the set without them
module _ {i j : ℕ} {sub sup : List ℕ} (s : TwoStand i j sub sup) where
  second_stands : without s.set i j ≡ 1
  second_stands = without_other s.set i j (λ e. s.apart (sym e)) ∙ s.second

  pub can_first : CanLower i sub
  can_first = record { size = s.counts.size_sub; enough = λ k h. let a = s.counts.within k h in let b = within_less s.set i s.first k in omega arith }

  pub can_second : (sub₁ : List ℕ) → BlockLowered i sub sub₁ → CanLower j sub₁
  can_second sub₁ l = record {
    size = l.size ∙ s.counts.size_sub;
    enough = λ k h.
        let a = s.counts.within k h in
        let b = within_less s.set i s.first k in
        let c = within_less (without s.set i) j second_stands k in
        let d = l.lost k h in
        omega arith;
  }

  pub can_drop : CanDrop i j sup
  can_drop = record {
    size = s.counts.size_sup;
    enough = λ b h.
        let a = s.counts.sums b h in
        let d = sums_less s.set i s.first b in
        let e = sums_less (without s.set i) j second_stands b in
        omega arith;
  }

pub both_left : (i j : ℕ) (sub sup sub₁ sub₂ sup' : List ℕ) → BlockLowered i sub sub₁ → BlockLowered j sub₁ sub₂ → Dropped i j sup sup' → TwoLeft i j sub sup sub₂ sup'
both_left i j sub sup sub₁ sub₂ sup' l m d = record { counts = λ f c o q apart. left f c o (without_other f i j (λ e. apart (sym e)) ∙ q) }
  where
    left : (f : ℕ → ℕ) → CountsRows f sub sup → f i ≡ 1 → without f i j ≡ 1 → CountsRows (without (without f i) j) sub₂ sup'
    left f c o q = record {
      size_sub = m.size ∙ l.size ∙ c.size_sub;
      size_sup = d.size ∙ c.size_sup;
      bit = without_bit (without f i) j (without_bit f i c.bit);
      within = λ k h.
          let a = c.within k h in
          let x = l.lost k h in
          let y = m.lost k h in
          let u = within_less f i o k in
          let w = within_less (without f i) j q k in
          omega arith;
      sums = λ b h.
          let a = c.sums b h in
          let x = d.lost b h in
          let u = sums_less f i o b in
          let w = sums_less (without f i) j q b in
          omega arith;
    }
