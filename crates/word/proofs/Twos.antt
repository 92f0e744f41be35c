-- Two's complement: a number's word, and the one number that a word is.
use Rattle.std.proofs.Common.{◌≡◌, ℕ, ◌^◌, ◌<◌, ℤ, pos, negsuc, sym, refl, ap, ◌∙◌, arith, le→leb, ltb→lt, lt→ltb, leb→le, w32, w64, SFits, to_z, of_z}
use lib.Signed.{mag}
use mir.ValLaws.{to_z-of_z}
use Rattle.word.specs.Twos.{twos, Narrow, ReadNarrow}
use Rattle.std.specs.Prelude.{Option, Some, None, Result, Ok, Err, OkIff}
use Rattle.std.specs.Result.{result_ok}
use Rattle.std.proofs.lemmas.Int.{of_z-to_z}

-- ---- a number's word

pub twos_bits : (x : ℤ) → twos x ≡ of_z w64 x
unfolding twos
twos_bits (pos n) = refl
twos_bits (negsuc n) = refl

-- ---- the number that a word is

pub narrow : {w : ℕ} (x : ℤ) → mag x < 2 ^ 31 → w ≡ twos x → Narrow w x
narrow (pos n) h e = record { word = e; least = record { le = tt }; most = record { lt = lt→ltb n (2 ^ 31) h } }
narrow (negsuc n) h e = record { word = e; least = record { le = le→leb n 2147483647 (omega arith) }; most = record { lt = tt } }

narrow_mag : {w : ℕ} (x : ℤ) → Narrow w x → mag x < 2 ^ 31
narrow_mag (pos n) h = ltb→lt n (2 ^ 31) h.most.lt
narrow_mag (negsuc n) h = omega (arith, leb→le n 2147483647 h.least.le)

-- ---- nothing left free: no two numbers have one word, so a word is read in one way

pub twos_one : (x y : ℤ) → SFits w64 x → SFits w64 y → twos x ≡ twos y → x ≡ y
twos_one x y f g e = sym (to_z-of_z w64 x f) ∙ ap (to_z w64) (sym (twos_bits x) ∙ e ∙ twos_bits y) ∙ to_z-of_z w64 y g

wide_fits : {w : ℕ} (x : ℤ) → Narrow w x → SFits w64 x
wide_fits x h = record { sfits = omega (arith, narrow_mag x h) }

pub read_narrow_one : (w : ℕ) (a b : Option ℤ) → ReadNarrow w a → ReadNarrow w b → a ≡ b
unfolding ReadNarrow
read_narrow_one w (Some x) (Some y) h k = ap Some (twos_one x y (wide_fits x h) (wide_fits y k) (sym h.word ∙ k.word))
read_narrow_one w (Some x) None h k = absurd (k x h)
read_narrow_one w None (Some y) h k = absurd (h y k)
read_narrow_one w None None h k = refl

-- what the library's conversions give is the number that a word is
pub read_narrow : {E : Type 0} {w : ℕ} {m : ℤ} (r : Result ℤ E) → w < 2 ^ 64 → m ≡ to_z w64 w → OkIff r (SFits w32 m) m → ReadNarrow w (result_ok r)
unfolding ReadNarrow
read_narrow {w = w} {m = m} (Ok x) h e p =
    rw p.1 (narrow m p.0.sfits (sym (twos_bits m ∙ ap (of_z w64) e ∙ of_z-to_z w64 w h)))
read_narrow {w = w} {m = m} (Err f) h e p =
    λ x n. let same : m ≡ x = e ∙ ap (to_z w64) (n.word ∙ twos_bits x) ∙ to_z-of_z w64 x (wide_fits x n) in
    p (rw same (record { sfits = narrow_mag x n }))

-- a number of 32 bits is read back from its word
pub read_narrow_back : (x : ℤ) → SFits w32 x → (r : Option ℤ) → ReadNarrow (twos x) r → r ≡ Some x
unfolding ReadNarrow
read_narrow_back x f r h = read_narrow_one (twos x) r (Some x) h (narrow x f.sfits refl)
