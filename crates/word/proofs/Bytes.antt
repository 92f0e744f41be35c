-- Numbers and their bytes: reading a word, writing one, and reading what was written.
use Rattle.std.proofs.Common.{◌≡◌, ℕ, zero, suc, ◌+◌, ◌*◌, ◌/◌, ◌^◌, ◌<◌, ◌≤◌, List, [], ◌∷◌, ◌++◌, length, get_or, take, drop, refl, sym, ap, ◌∙◌, append_assoc, pow-suc, arith, length-take-le, drop-cons, drop-drop, take_at, drop_at}
use Rattle.std.specs.Int.{w64, from_le_bytes, to_le_bytes}
use Rattle.std.proofs.lemmas.List.{take_all}
use Rattle.std.proofs.lemmas.List.Edits.{sets, sets-eq}
use Rattle.std.proofs.Math.Nat.{div-div-eq-div-mul}
use borrow.Rule.Slice.PartMut.{put_mid}
use Rattle.word.specs.Bytes.{of_bytes, bytes_of, bytes_at}

-- ---- reading

-- what stands behind n bytes counts 256 ^ n times
pub of_bytes_append : (l m : List ℕ) → of_bytes (l ++ m) ≡ of_bytes l + 256 ^ length l * of_bytes m
unfolding of_bytes
of_bytes_append [] m = omega arith
of_bytes_append (b ∷ l) m = omega (arith, of_bytes_append l m, ap (λ k. k * of_bytes m) (pow-suc 256 (length l)))

-- one byte, and those behind it
one_more : (n : ℕ) (b : List ℕ) (i j : ℕ) → j ≡ suc i → i < length b → bytes_at (suc n) b i ≡ get_or b i 0 + 256 * bytes_at n b j
unfolding of_bytes
one_more n b i j e h = rw (e, drop-cons b i 0 h)

-- what the library reads of eight bytes
pub read_eight : (l : List ℕ) → length l ≡ 8 → from_le_bytes w64 l ≡ of_bytes l
unfolding of_bytes
read_eight l e =
    let s0 = one_more 7 l 0 1 refl (omega arith) in
    let s1 = one_more 6 l 1 2 refl (omega arith) in
    let s2 = one_more 5 l 2 3 refl (omega arith) in
    let s3 = one_more 4 l 3 4 refl (omega arith) in
    let s4 = one_more 3 l 4 5 refl (omega arith) in
    let s5 = one_more 2 l 5 6 refl (omega arith) in
    let s6 = one_more 1 l 6 7 refl (omega arith) in
    let s7 = one_more 0 l 7 8 refl (omega arith) in
    let none : bytes_at 0 l 8 ≡ 0 = refl in
    let all : take 8 l ≡ l = take_all 8 l (omega arith) in
    let whole = ap of_bytes all in
    omega arith

-- ---- writing

pub length_bytes : (n w : ℕ) → length (bytes_of n w) ≡ n
unfolding bytes_of
length_bytes zero w = refl
length_bytes (suc n) w = ap suc (length_bytes n (w / 256))

-- what the library writes of a word
pub write_eight : (w : ℕ) → to_le_bytes w64 w ≡ bytes_of 8 w
unfolding bytes_of
write_eight w = simp div-div-eq-div-mul

-- the word's bytes in the place of as many
pub put_eight : (b : List ℕ) (i w : ℕ) {k : ℕ} → k ≡ 8 → i + 8 ≤ length b → put_mid i k b (to_le_bytes w64 w) ≡ sets b i (bytes_of 8 w)
put_eight b i w {k} e h =
    let l = bytes_of 8 w in
    let n = length_bytes 8 w in
    let behind : drop (i + length l) b ≡ drop 8 (drop i b) = rw n (sym (drop-drop 8 i b)) in
    ap (put_mid i k b) (write_eight w) ∙ rw e (sym (sets-eq l b i (omega arith) ∙ ap (λ m. take i b ++ l ++ m) behind ∙ append_assoc (take i b) l (drop 8 (drop i b))))

-- ---- reading what was written

-- the number of a number's bytes is the number, where they are enough
pub of_bytes_of : (n w : ℕ) → w < 256 ^ n → of_bytes (bytes_of n w) ≡ w
unfolding of_bytes bytes_of
of_bytes_of zero w h = omega arith
of_bytes_of (suc n) w h = omega (arith, of_bytes_of n (w / 256) (omega (arith, pow-suc 256 n)))

-- a word is read back from where it was written
pub read_back : (b : List ℕ) (i w : ℕ) → i + 8 ≤ length b → w < 2 ^ 64 → bytes_at 8 (sets b i (bytes_of 8 w)) i ≡ w
read_back b i w h small =
    let l = bytes_of 8 w in
    let n = length_bytes 8 w in
    let rest = drop (i + length l) b in
    let s = sets-eq l b i (omega arith) ∙ append_assoc (take i b) l rest in
    let d = ap (drop i) s ∙ drop_at (take i b) (l ++ rest) i (length-take-le i b (omega arith)) in
    ap (λ m. of_bytes (take 8 m)) d ∙ ap of_bytes (take_at l rest 8 n) ∙ of_bytes_of 8 w small
