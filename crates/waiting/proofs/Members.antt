-- What waits after a corner has joined and after one has left, and the least that waits.
use mathlib.Core.Path.{◌≡◌, refl, sym, ◌∙◌, ap}
use mathlib.Core.Logic.{◌≢◌, ◌⊎◌, inl, inr}
use mathlib.Core.Bool.{Bool, true, false}
use mathlib.Core.List.{List}
use Prim.Native.Nat.{ℕ, zero, suc, ◌+◌, ◌-◌, ◌*◌, ◌^◌, ◌≤◌, ◌<◌, ◌/◌, ◌%◌}
use native.Mathlib.Decide.{ℕ_discrete, dec_lt}
use native.Mathlib.Nat.{mod-eq_of_lt}
use native.Mathlib.Omega.{arith}
use lib.Bits.{bit_or, or_lt, or_zero_r}
use lib.Count.{count_trailing_zeros}
use lib.ListN.{length, get_or, set, replicate, length-set}
use lib.Pow.{pow-lt}
use lib.Seq.{get_or-set_same, get_or-set_other}
use Rattle.surface.specs.Limits.{most_corners}
use Rattle.std.specs.Int.{from_bool}
use Rattle.std.specs.Prelude.{nat_eq}
use Rattle.std.proofs.lemmas.Bool.Decides.{nat_tests}
use Rattle.waiting.specs.InnerWaiting.{word, words, digit, digit_of, Member, TopsTell, Joined, Released, LeastWaits}
use Rattle.waiting.proofs.Digits.{digit_zero, digit_some, power_some, or_here, or_other, less_fits, less_here, less_other, Lowest, lowest}

-- 2 ^ k as a word
pub power_fits : (k : ℕ) → k < word → 2 ^ k < 2 ^ word
power_fits k h = pow-lt h

pub shifted_one : (k : ℕ) → k < word → (1 * 2 ^ k) % 2 ^ word ≡ 2 ^ k
shifted_one k h = let e : 1 * 2 ^ k ≡ 2 ^ k = omega arith in rw e (mod-eq_of_lt (power_fits k h))

pub shifted_none : (k : ℕ) → (0 * 2 ^ k) % 2 ^ word ≡ 0
shifted_none k = let e : 0 * 2 ^ k ≡ 0 = omega arith in rw e refl

-- the word b is x now, the others are as they were
record Put (l : List ℕ) (b x : ℕ) (l' : List ℕ) : Type 0 where
  size : length l' ≡ length l
  here : get_or l' b 0 ≡ x
  other : (c : ℕ) → c ≢ b → get_or l' c 0 ≡ get_or l c 0

put_set : (l : List ℕ) (b x : ℕ) → b < length l → Put l b x (set l b x)
put_set l b x h = record { size = length-set l b x; here = get_or-set_same l b x 0 h; other = λ c n. get_or-set_other l b c x 0 n }

-- the place of w
split : (v w : ℕ) → v / word ≡ w / word → v % word ≡ w % word → v ≡ w
split v w a b = omega arith

-- r is one where x is nought, else nought
abbrev Emptied : ℕ → ℕ → Type 0
Emptied x r = ((x ≡ 0) × (r ≡ 1)) ⊎ ((x ≢ 0) × (r ≡ 0))

emptied : (x : ℕ) → Emptied x (from_bool (nat_eq x 0))
emptied zero = inl (refl, refl)
emptied (suc x) = let e : nat_eq (suc x) 0 ≡ false = grind (arith, nat_tests) in inr (λ q. omega arith, ap from_bool e)

module _ {bits : List ℕ} {tops : ℕ} (g : TopsTell bits tops) (w : ℕ) (inside : w / word < words) where
  abbrev b : ℕ
  b = w / word

  abbrev k : ℕ
  k = w % word

  abbrev x : ℕ
  x = get_or bits (w / word) 0

  abbrev s : ℕ
  s = tops

  small : w % word < word
  small = omega arith

  -- the digit of another corner, where only the digit k of the word b changed
  digit_kept : {bits' : List ℕ} {y : ℕ} → Put bits b y bits' → ((j : ℕ) → j ≢ k → digit y j ≡ digit x j) → (v : ℕ) → v ≢ w → digit_of bits' v ≡ digit_of bits v
  digit_kept {bits'} {y} p f v n = go (ℕ_discrete (v / word) b)
    where
      go : Dec (v / word ≡ b) → digit_of bits' v ≡ digit_of bits v
      go (yes e) = ap (λ (z : ℕ). digit (get_or bits' z 0) (v % word)) e ∙ ap (λ (z : ℕ). digit z (v % word)) p.here ∙ f (v % word) (λ q. n (split v w e q)) ∙ ap (λ (z : ℕ). digit (get_or bits z 0) (v % word)) (sym e)
      go (no e) = ap (λ (z : ℕ). digit z (v % word)) (p.other (v / word) e)

  module _ (corner : w < most_corners) {bits' : List ℕ} {tops' : ℕ} where
    -- w joins
    joined_on : Put bits b (bit_or x (2 ^ k)) bits' → tops' ≡ bit_or s (2 ^ b) → Joined true w bits bits' × TopsTell bits' tops'
    joined_on p q = (
      record {
        here = λ e. (corner, in_w);
        kept = λ v m. (m.0, stay v m (ℕ_discrete v w));
        only = λ v m. back v m (ℕ_discrete v w);
      },
      record {
        size_bits = p.size ∙ g.size_bits;
        bits_fit = λ c. fits c (ℕ_discrete c b);
        tops_fit = rw q (or_lt word s (2 ^ b) g.tops_fit (power_fits b (omega arith)));
        beyond = λ v h l. kept v (λ e. omega arith) ∙ g.beyond v h l;
        some = λ c h n. some c h n (ℕ_discrete c b);
        only = λ c h. only c h (ℕ_discrete c b);
      },
    )
      where
        kept : (v : ℕ) → v ≢ w → digit_of bits' v ≡ digit_of bits v
        kept = digit_kept p (λ j n. or_other x k j n)

        in_w : digit_of bits' w ≡ 1
        in_w = ap (λ (z : ℕ). digit z k) p.here ∙ or_here x k

        fits : (c : ℕ) → Dec (c ≡ b) → get_or bits' c 0 < 2 ^ word
        fits c (yes e) = rw (e, p.here) (or_lt word x (2 ^ k) (g.bits_fit b) (power_fits k small))
        fits c (no e) = rw (p.other c e) (g.bits_fit c)

        some : (c : ℕ) → c < words → get_or bits' c 0 ≢ 0 → Dec (c ≡ b) → digit (tops') c ≡ 1
        some c h n (yes e) = rw (e, q) (or_here s b)
        some c h n (no e) = rw q (or_other s b c e ∙ g.some c h (λ z. n (p.other c e ∙ z)))

        only : (c : ℕ) → digit (tops') c ≡ 1 → Dec (c ≡ b) → (c < words) × (get_or bits' c 0 ≢ 0)
        only c h (yes e) = rw e (inside, λ z. digit_some (get_or bits' b 0) k in_w z)
        only c h (no e) = let o = g.only c (sym (or_other s b c e) ∙ (rw q at h)) in (o.0, λ z. o.1 (sym (p.other c e) ∙ z))

        stay : (v : ℕ) → Member bits v → Dec (v ≡ w) → digit_of bits' v ≡ 1
        stay v m (yes e) = rw e in_w
        stay v m (no e) = kept v e ∙ m.1

        back : (v : ℕ) → Member bits' v → Dec (v ≡ w) → Member bits v ⊎ ((v ≡ w) × (◌≡◌ {A = Bool} true true))
        back v m (yes e) = inr (e, refl)
        back v m (no e) = inl (m.0, sym (kept v e) ∙ m.1)

    -- nothing changes
    joined_off : Put bits b x bits' → tops' ≡ s → Joined false w bits bits' × TopsTell bits' tops'
    joined_off p q = (
      record {
        here = λ e. absurd (never e);
        kept = λ v m. (m.0, kept v ∙ m.1);
        only = λ v m. inl (m.0, sym (kept v) ∙ m.1);
      },
      record {
        size_bits = p.size ∙ g.size_bits;
        bits_fit = λ c. rw (same c) (g.bits_fit c);
        tops_fit = rw q g.tops_fit;
        beyond = λ v h l. kept v ∙ g.beyond v h l;
        some = λ c h n. rw q (g.some c h (λ z. n (same c ∙ z)));
        only = λ c h. let o = g.only c (rw q at h) in (o.0, λ z. o.1 (sym (same c) ∙ z));
      },
    )
      where
        same : (c : ℕ) → get_or bits' c 0 ≡ get_or bits c 0
        same c = go (ℕ_discrete c b)
          where
            go : Dec (c ≡ b) → get_or bits' c 0 ≡ get_or bits c 0
            go (yes e) = rw e p.here
            go (no e) = p.other c e

        kept : (v : ℕ) → digit_of bits' v ≡ digit_of bits v
        kept v = ap (λ (z : ℕ). digit z (v % word)) (same (v / word))

        never : false ≡ true → ⊥
        never e = let z : ◌≡◌ {A = ℕ} 0 1 = cc in omega arith

    -- w leaves: y is what is left of its word, and e tells whether that is nought
    released : {e : ℕ} → digit_of bits w ≡ 1 → Emptied (x - 2 ^ k) e → Put bits b (x - 2 ^ k) bits' → tops' ≡ s - e * 2 ^ b → Released w bits bits' × TopsTell bits' tops'
    released {e} set em p q = (
      record {
        gone = λ m. let z = out_w in let y = m.1 in omega arith;
        kept = λ v n m. (m.0, kept v n ∙ m.1);
        only = λ v m. (m.0, back v m (ℕ_discrete v w));
      },
      record {
        size_bits = p.size ∙ g.size_bits;
        bits_fit = λ c. fits c (ℕ_discrete c b);
        tops_fit = let z = g.tops_fit in rw q (omega arith);
        beyond = λ v h l. kept v (λ e. omega arith) ∙ g.beyond v h l;
        some = λ c h n. some c h n (ℕ_discrete c b) em;
        only = λ c h. only c h (ℕ_discrete c b) em;
      },
    )
      where
        kept : (v : ℕ) → v ≢ w → digit_of bits' v ≡ digit_of bits v
        kept = digit_kept p (λ j n. less_other k x j set n)

        out_w : digit_of bits' w ≡ 0
        out_w = ap (λ (z : ℕ). digit z k) p.here ∙ less_here k x set

        was : digit s b ≡ 1
        was = g.some b inside (digit_some x k set)

        one_off : s - 1 * 2 ^ b ≡ s - 2 ^ b
        one_off = omega arith

        none_off : s - 0 * 2 ^ b ≡ s
        none_off = omega arith

        fits : (c : ℕ) → Dec (c ≡ b) → get_or bits' c 0 < 2 ^ word
        fits c (yes e) = let z = g.bits_fit b in rw (e, p.here) (omega arith)
        fits c (no e) = rw (p.other c e) (g.bits_fit c)

        tops_is : {r : ℕ} → e ≡ r → tops' ≡ s - r * 2 ^ b
        tops_is z = q ∙ ap (λ (y : ℕ). s - y * 2 ^ b) z

        some : (c : ℕ) → c < words → get_or bits' c 0 ≢ 0 → Dec (c ≡ b) → Emptied (x - 2 ^ k) e → digit (tops') c ≡ 1
        some c h n (yes i) (inl z) = absurd (n (rw i (p.here ∙ z.0)))
        some c h n (yes i) (inr z) = rw (i, tops_is z.1, none_off) was
        some c h n (no i) (inl z) = rw (tops_is z.1, one_off) (less_other b s c was i ∙ g.some c h (λ y. n (p.other c i ∙ y)))
        some c h n (no i) (inr z) = rw (tops_is z.1, none_off) (g.some c h (λ y. n (p.other c i ∙ y)))

        only : (c : ℕ) → digit (tops') c ≡ 1 → Dec (c ≡ b) → Emptied (x - 2 ^ k) e → (c < words) × (get_or bits' c 0 ≢ 0)
        only c h (yes i) (inl z) = let y = less_here b s was in let h' : digit (s - 2 ^ b) b ≡ 1 = (rw (tops_is z.1, one_off, i) at h) in absurd (omega arith)
        only c h (yes i) (inr z) = rw i (inside, λ y. z.0 (sym p.here ∙ y))
        only c h (no i) (inl z) = let o = g.only c (sym (less_other b s c was i) ∙ (rw (tops_is z.1, one_off) at h)) in (o.0, λ y. o.1 (sym (p.other c i) ∙ y))
        only c h (no i) (inr z) = let o = g.only c (rw (tops_is z.1, none_off) at h) in (o.0, λ y. o.1 (sym (p.other c i) ∙ y))

        back : (v : ℕ) → Member bits' v → Dec (v ≡ w) → digit_of bits v ≡ 1
        back v m (yes i) = rw i set
        back v m (no i) = sym (kept v i) ∙ m.1

-- r is one where on says so, else nought
data BitOf (on : Bool) (r : ℕ) : Type 0 where
  one : on ≡ true → r ≡ 1 → BitOf on r
  nought : on ≡ false → r ≡ 0 → BitOf on r

bit_of : (on : Bool) → BitOf on (from_bool on)
bit_of true = one refl refl
bit_of false = nought refl refl

-- what the code writes
pub joins : {bits : List ℕ} {tops : ℕ} (g : TopsTell bits tops) (w : ℕ) → w < most_corners → (on : Bool) {r : ℕ} → r ≡ from_bool on →
    let bits' : List ℕ = set bits (w / word) (bit_or (get_or bits (w / word) 0) ((r * 2 ^ (w % word)) % 2 ^ word)) in
    Joined on w bits bits' × TopsTell bits' (bit_or tops ((r * 2 ^ (w / word)) % 2 ^ word))
joins {bits} {tops} g w h on {r} is = rw is (go (from_bool on) (bit_of on))
  where
    go : (r : ℕ) → BitOf on r → Joined on w bits (set bits (w / word) (bit_or (get_or bits (w / word) 0) ((r * 2 ^ (w % word)) % 2 ^ word))) × TopsTell (set bits (w / word) (bit_or (get_or bits (w / word) 0) ((r * 2 ^ (w % word)) % 2 ^ word))) (bit_or tops ((r * 2 ^ (w / word)) % 2 ^ word))
    go r (one e z) =
        let a = shifted_one (w % word) (omega arith) in
        let c = shifted_one (w / word) (omega arith) in
        let m = g.size_bits in
        rw (e, z, a, c) (joined_on g w (omega arith) h (put_set bits (w / word) _ (omega arith)) refl)
    go r (nought e z) =
        let a = shifted_none (w % word) in
        let c = shifted_none (w / word) in
        let m = g.size_bits in
        rw (e, z, a, c, or_zero_r (get_or bits (w / word) 0), or_zero_r tops) (joined_off g w (omega arith) h (put_set bits (w / word) _ (omega arith)) refl)

module _ {bits : List ℕ} {tops : ℕ} (g : TopsTell bits tops) {v : ℕ} (m : Member bits v) where
  abbrev y : ℕ
  y = get_or bits (v / word) 0 - (1 * 2 ^ (v % word)) % 2 ^ word

  one_is : (1 * 2 ^ (v % word)) % 2 ^ word ≡ 2 ^ (v % word)
  one_is = shifted_one (v % word) (omega arith)

  pub take_fits : (1 * 2 ^ (v % word)) % 2 ^ word ≤ get_or bits (v / word) 0
  take_fits = rw one_is (less_fits (v % word) (get_or bits (v / word) 0) m.1)

  was : digit tops (v / word) ≡ 1
  was = let c = m.0 in g.some (v / word) (omega arith) (digit_some (get_or bits (v / word) 0) (v % word) m.1)

  shift_is : {e : ℕ} → Emptied y e → (e * 2 ^ (v / word)) % 2 ^ word ≡ e * 2 ^ (v / word)
  shift_is (inl z) = let c = m.0 in rw z.1 (shifted_one (v / word) (omega arith) ∙ omega arith)
  shift_is (inr z) = rw z.1 (shifted_none (v / word) ∙ omega arith)

  pub tops_fit : {e : ℕ} → e ≡ from_bool (nat_eq y 0) → (e * 2 ^ (v / word)) % 2 ^ word ≤ tops
  tops_fit is = rw (is, shift_is (emptied y)) (go (emptied y))
    where
      go : {e : ℕ} → Emptied y e → e * 2 ^ (v / word) ≤ tops
      go (inl z) = let a = less_fits (v / word) tops was in rw z.1 (omega arith)
      go (inr z) = rw z.1 (omega arith)

  pub releases : {e : ℕ} → e ≡ from_bool (nat_eq y 0) → Released v bits (set bits (v / word) y) × TopsTell (set bits (v / word) y) (tops - (e * 2 ^ (v / word)) % 2 ^ word)
  releases is = rw is (go (emptied y))
    where
      go : {e : ℕ} → Emptied y e → Released v bits (set bits (v / word) y) × TopsTell (set bits (v / word) y) (tops - (e * 2 ^ (v / word)) % 2 ^ word)
      go {e} em =
          let c = m.0 in
          let a = g.size_bits in
          let s = shift_is em in
          rw (s, one_is) (released g v (omega arith) m.0 m.1 (rw one_is at em) (put_set bits (v / word) _ (omega arith)) refl)

-- the least
module _ {bits : List ℕ} {tops : ℕ} (g : TopsTell bits tops) where
  member_word : {v : ℕ} → Member bits v → (v / word < words) × (get_or bits (v / word) 0 ≢ 0) × (digit tops (v / word) ≡ 1)
  member_word {v} m =
      let c = m.0 in
      let n = digit_some (get_or bits (v / word) 0) (v % word) m.1 in
      let i : v / word < words = omega arith in
      (i, n, g.some (v / word) i n)

  pub none_waits : tops ≡ 0 → (v : ℕ) → ¬ Member bits v
  none_waits e v m = (let z = digit_zero (v / word) in let q : digit 0 (v / word) ≡ 1 = (rw e at (member_word m).2) in omega arith)

  module _ (n : tops ≢ 0) where
    abbrev lw : ℕ
    lw = count_trailing_zeros word tops

    at_b : Lowest word tops (count_trailing_zeros word tops)
    at_b = lowest word tops g.tops_fit n

    pub word_inside : lw < words
    word_inside = (g.only lw at_b.set).0

    abbrev lp : ℕ
    lp = count_trailing_zeros word (get_or bits (count_trailing_zeros word tops) 0)

    at_k : Lowest word (get_or bits (count_trailing_zeros word tops) 0) (count_trailing_zeros word (get_or bits (count_trailing_zeros word tops) 0))
    at_k = lowest word (get_or bits lw 0) (g.bits_fit lw) (g.only lw at_b.set).1

    pub place_inside : lp < word
    place_inside = at_k.below

    word_of : (word * lw + lp) / word ≡ lw
    word_of = let l = place_inside in omega arith

    place_of : (word * lw + lp) % word ≡ lp
    place_of = let l = place_inside in omega arith

    set_at : digit_of bits (word * lw + lp) ≡ 1
    set_at = rw (word_of, place_of) at_k.set

    pub least_corner : word * lw + lp < most_corners
    least_corner = go (dec_lt (word * lw + lp) most_corners)
      where
        go : Dec (word * lw + lp < most_corners) → word * lw + lp < most_corners
        go (yes l) = l
        go (no l) = let z = g.beyond (word * lw + lp) (omega arith) (let i = word_inside in let j = place_inside in omega arith) in let y = set_at in absurd (omega arith)

    pub least_waits : LeastWaits bits (word * lw + lp)
    least_waits = record { member = (least_corner, set_at); least = λ v m. first v m (dec_lt (v / word) lw) (ℕ_discrete (v / word) lw) (dec_lt (v % word) lp) }
      where
        first : (v : ℕ) → Member bits v → Dec (v / word < lw) → Dec (v / word ≡ lw) → Dec (v % word < lp) → word * lw + lp ≤ v
        first v m (yes l) e q = let z = at_b.first (v / word) l in let y = (member_word m).2 in absurd (omega arith)
        first v m (no l) (yes e) (yes q) = let z = at_k.first (v % word) q in let y : digit (get_or bits lw 0) (v % word) ≡ 1 = (rw e at m.1) in absurd (omega arith)
        first v m (no l) (yes e) (no q) = omega arith
        first v m (no l) (no e) q = let j = place_inside in omega arith

-- nobody waits at first
zeros : (n k : ℕ) → ◌≡◌ {A = ℕ} (get_or (replicate n 0) k 0) 0
zeros zero k = refl
zeros (suc n) zero = refl
zeros (suc n) (suc k) = zeros n k

pub none_new : (w : ℕ) → ¬ Member (replicate words 0) w
none_new w m = let z = digit_zero (w % word) in let q : digit 0 (w % word) ≡ 1 = (rw (zeros words (w / word)) at m.1) in omega arith

pub waiting_new : TopsTell (replicate words 0) 0
waiting_new = record {
  size_bits = refl;
  bits_fit = λ b. rw (zeros words b) (power_some word);
  tops_fit = power_some word;
  beyond = λ w h l. rw (zeros words (w / word)) (digit_zero (w % word));
  some = λ b h n. absurd (n (zeros words b));
  only = λ b h. let z = digit_zero b in absurd (omega arith);
}
