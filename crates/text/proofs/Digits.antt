-- Laws of decimal text: its two equations, what all its digits are, how many, and that no two numbers share one.
use mathlib.Core.Path.{◌≡◌, refl, sym, ◌∙◌, ap, subst}
use mathlib.Core.List.{List, [], ◌∷◌, ◌++◌}
use Prim.Native.Nat.{ℕ, zero, suc, ◌+◌, ◌-◌, ◌*◌, ◌/◌, ◌%◌, ◌^◌, ◌≤◌, ◌<◌}
use native.Mathlib.Omega.{arith}
use lib.ListN.{length, length-append}
use Rattle.text.specs.Decimal.{digit, front, digits, decimal}
use Rattle.text.specs.Inner.{Digit, NoDigit}

-- ---- the two equations

-- more room for digits than there are spells the same
enough : (j k n : ℕ) → n < j → n < k → digits j n ≡ digits k n
unfolding digits
enough (suc j) (suc k) n h l = ap (λ x. x ++ (digit (n % 10) ∷ [])) (go (n / 10) refl (λ q a b. enough j k q a b))
  where
    go : (q : ℕ) → n / 10 ≡ q → ((q : ℕ) → q < j → q < k → digits j q ≡ digits k q) → front q (digits j) ≡ front q (digits k)
    go zero e r = refl
    go (suc q) e r = r (suc q) (omega arith) (omega arith)
enough zero k n h l = elim h [ ]
enough (suc j) zero n h l = elim l [ ]

pub decimal_one : (n : ℕ) → n < 10 → decimal n ≡ digit n ∷ []
unfolding decimal digits
decimal_one n h = go (n / 10) (n % 10) (omega arith) (omega arith)
  where
    go : (q d : ℕ) → q ≡ 0 → d ≡ n → front q (digits n) ++ (digit d ∷ []) ≡ digit n ∷ []
    go zero d e f = ap (λ (x : ℕ). digit x ∷ []) f
    go (suc q) d e f = absurd (omega arith)

pub decimal_more : (v d : ℕ) → 0 < v → d < 10 → decimal (v * 10 + d) ≡ decimal v ++ (digit d ∷ [])
unfolding decimal digits
decimal_more zero d h l = absurd (omega arith)
decimal_more (suc v) d h l = go ((suc v * 10 + d) / 10) ((suc v * 10 + d) % 10) (omega arith) (omega arith)
  where
    n : ℕ
    n = suc v * 10 + d

    go : (q e : ℕ) → q ≡ suc v → e ≡ d → front q (digits (suc v * 10 + d)) ++ (digit e ∷ []) ≡ digits (suc (suc v)) (suc v) ++ (digit d ∷ [])
    go zero e p f = absurd (omega arith)
    go (suc q) e p f = rw (p, f) (ap (λ x. x ++ (digit d ∷ [])) (enough (suc v * 10 + d) (suc (suc v)) (suc v) (omega arith) (omega arith)))

-- a law of every number's text: of one digit, and of one more
module _ (P : ℕ → List ℕ → Type 0) (one : (d : ℕ) → d < 10 → P d (digit d ∷ [])) (more : (v d : ℕ) → 0 < v → d < 10 → P v (decimal v) → P (v * 10 + d) (decimal v ++ (digit d ∷ []))) where
  below : (k n : ℕ) → n < k → P n (decimal n)
  below (suc k) n h = go (n / 10) (n % 10) (omega arith) (omega arith) (λ q l. below k q l)
    where
      go : (q d : ℕ) → n ≡ q * 10 + d → d < 10 → ((q : ℕ) → q < k → P q (decimal q)) → P n (decimal n)
      go zero d e l r = let f : n ≡ d = omega arith in rw (f, decimal_one d l) (one d l)
      go (suc q) d e l r = rw (e, decimal_more (suc q) d (omega arith) l) (more (suc q) d (omega arith) l (r (suc q) (omega arith)))
  below zero n h = elim h [ ]

  pub each : (n : ℕ) → P n (decimal n)
  each n = below (suc n) n (omega arith)

-- ---- digits and nothing else

abbrev pub AllDigits : List ℕ → Type 0
AllDigits [] = Unit
AllDigits (b ∷ l) = Digit b × AllDigits l

pub is_digit : (d : ℕ) → d < 10 → Digit (digit d)
is_digit d h = record { least = omega arith; most = omega arith }

pub one_more : (l : List ℕ) (b : ℕ) → AllDigits l → Digit b → AllDigits (l ++ (b ∷ []))
one_more [] b h e = (e, tt)
one_more (x ∷ l) b h e = (h.0, one_more l b h.1 e)

pub all_digits : (n : ℕ) → AllDigits (decimal n)
all_digits = each (λ n l. AllDigits l) (λ d h. (is_digit d h, tt)) (λ v d h l a. one_more (decimal v) (digit d) a (is_digit d l))

-- ---- the first digit is 0 only in 0

pub record Head (n : ℕ) (l : List ℕ) : Type 0 where
  pub b : ℕ
  pub rest : List ℕ
  pub is : l ≡ b ∷ rest
  pub zero_only : b ≡ digit 0 → n ≡ 0

pub head : (n : ℕ) → Head n (decimal n)
head =
    each
    Head
    (λ d h. record { b = digit d; rest = []; is = refl; zero_only = λ e. omega arith })
    (λ v d h l a. record { b = a.b; rest = a.rest ++ (digit d ∷ []); is = ap (λ x. x ++ (digit d ∷ [])) a.is; zero_only = λ e. absurd (let z = a.zero_only e in omega arith) })

-- ---- the number is read back from its digits

value : ℕ → List ℕ → ℕ
value n [] = n
value n (b ∷ l) = value (n * 10 + (b - digit 0)) l

value_more : (n : ℕ) (l : List ℕ) (b : ℕ) → value n (l ++ (b ∷ [])) ≡ value n l * 10 + (b - digit 0)
unfolding value
value_more n [] b = refl
value_more n (x ∷ l) b = value_more (n * 10 + (x - digit 0)) l b

value_of : (n : ℕ) → value 0 (decimal n) ≡ n
unfolding value
value_of =
    each
    (λ n l. value 0 l ≡ n)
    (λ d h. one d)
    (λ v d h l a. value_more 0 (decimal v) (digit d) ∙ (let e : digit d - digit 0 ≡ d = omega arith in rw (a, e)))
  where
    one : (d : ℕ) → value 0 (digit d ∷ []) ≡ d
    one d = omega arith

-- no two numbers have the same digits
pub decimal_injective : (m n : ℕ) → decimal m ≡ decimal n → m ≡ n
decimal_injective m n e = sym (value_of m) ∙ ap (value 0) e ∙ value_of n

-- ---- how many digits

-- a number of at most k digits is below 10 ^ k, and the other way round
pub digits_below : (n k : ℕ) → length (decimal n) ≤ k → n < 10 ^ k
digits_below = each (λ n l. (k : ℕ) → length l ≤ k → n < 10 ^ k) one more
  where
    one : (d : ℕ) → d < 10 → (k : ℕ) → 1 ≤ k → d < 10 ^ k
    one d h zero l = absurd (omega arith)
    one d h (suc k) l = omega (arith, some k)
      where
        some : (k : ℕ) → 0 < 10 ^ k
        some zero = omega arith
        some (suc k) = omega (arith, some k)

    more : (v d : ℕ) → 0 < v → d < 10 → ((k : ℕ) → length (decimal v) ≤ k → v < 10 ^ k) → (k : ℕ) → length (decimal v ++ (digit d ∷ [])) ≤ k → v * 10 + d < 10 ^ k
    more v d h l a zero m = absurd (omega (arith, length-append (decimal v) (digit d ∷ [])))
    more v d h l a (suc k) m = let i = a k (omega (arith, length-append (decimal v) (digit d ∷ []))) in omega arith

pub below_digits : (n k : ℕ) → 0 < k → n < 10 ^ k → length (decimal n) ≤ k
below_digits n k = each (λ n l. (k : ℕ) → 0 < k → n < 10 ^ k → length l ≤ k) one more n k
  where
    one : (d : ℕ) → d < 10 → (k : ℕ) → 0 < k → d < 10 ^ k → 1 ≤ k
    one d h k l m = omega arith

    more : (v d : ℕ) → 0 < v → d < 10 → ((k : ℕ) → 0 < k → v < 10 ^ k → length (decimal v) ≤ k) → (k : ℕ) → 0 < k → v * 10 + d < 10 ^ k → length (decimal v ++ (digit d ∷ [])) ≤ k
    more v d h l a zero p m = absurd (omega arith)
    more v d h l a (suc zero) p m = absurd (omega arith)
    more v d h l a (suc (suc k)) p m = omega (arith, length-append (decimal v) (digit d ∷ []), a (suc k) (omega arith) (omega arith))

-- ---- digits in front of bytes

-- what follows digits of a text that is all digits up to r: the digits not yet passed
pub record Left (ds w r q : List ℕ) : Type 0 where
  pub es : List ℕ
  pub text : w ≡ ds ++ es
  pub after : r ≡ es ++ q

pub left : (ds w r q : List ℕ) → AllDigits ds → NoDigit q → ds ++ r ≡ w ++ q → Left ds w r q
left [] w r q a h e = record { es = w; text = refl; after = e }
left (d ∷ ds) [] r [] a h e = absurd (let z : ◌≡◌ {A = ℕ} 0 1 = cc in omega arith)
left (d ∷ ds) [] r (b ∷ q) a h e = absurd (let z : d ≡ b = cc in h (subst Digit z a.0))
left (d ∷ ds) (x ∷ w) r q a h e =
    let z : d ≡ x = cc in
    let y : ds ++ r ≡ w ++ q = cc in
    let k = left ds w r q a.1 h y in
    record { es = k.es; text = (λ i. sym z i ∷ k.text i); after = k.after }

-- all digits, then none: only one way to cut
pub same_digits : (xs ys p q : List ℕ) → AllDigits xs → AllDigits ys → NoDigit p → NoDigit q → xs ++ p ≡ ys ++ q → (xs ≡ ys) × (p ≡ q)
same_digits [] [] p q a b h l e = (refl, e)
same_digits [] (y ∷ ys) [] q a b h l e = absurd (let z : ◌≡◌ {A = ℕ} 0 1 = cc in omega arith)
same_digits [] (y ∷ ys) (x ∷ p) q a b h l e = absurd (let z : y ≡ x = cc in h (subst Digit z b.0))
same_digits (x ∷ xs) [] p [] a b h l e = absurd (let z : ◌≡◌ {A = ℕ} 0 1 = cc in omega arith)
same_digits (x ∷ xs) [] p (y ∷ q) a b h l e = absurd (let z : x ≡ y = cc in l (subst Digit z a.0))
same_digits (x ∷ xs) (y ∷ ys) p q a b h l e =
    let z : x ≡ y = cc in
    let f : xs ++ p ≡ ys ++ q = cc in
    let k = same_digits xs ys p q a.1 b.1 h l f in
    (λ i. z i ∷ k.0 i, k.1)
