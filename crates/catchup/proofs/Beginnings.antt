-- A beginning by `starts_with`, and what each answer hands back.
use mathlib.Core.Path.{◌≡◌, refl, sym, ◌∙◌, ap}
use mathlib.Core.Logic.{◌≢◌}
use mathlib.Core.Bool.{Bool, true, false}
use mathlib.Core.List.{List, [], ◌∷◌, ◌++◌, append-nil, List-discrete}
use Prim.Native.Nat.{ℕ, ◌+◌, ◌-◌, ◌<◌}
use native.Mathlib.Decide.{ℕ_discrete, dec_lt}
use lib.Dec.{eqb}
use native.Mathlib.Omega.{arith}
use lib.ListN.{length, take, drop, length-append}
use lib.Seq.{drop_at, take_all}
use denote.Ref.{Bor}
use Rattle.std.specs.List.{starts_with}
use Rattle.std.proofs.lemmas.Bool.Decides.{Decides-eqb}
use Rattle.std.proofs.lemmas.Slice.Eq.{starts_is}
use Rattle.catchup.specs.CatchUp.{Beginning, PartOf, CaughtUp, second_longer, first_longer, equal, neither}

true_false : ◌≡◌ {A = Bool} true false → ⊥
true_false e = let u : ◌≡◌ {A = ℕ} 0 1 = cc in omega arith

-- what `starts_with` says of beginnings
module _ (l m : List ℕ) (r : Bool) (e : r ≡ starts_with eqb m l) where
  pub begins : r ≡ true → Beginning l m
  begins t = record { rest = drop (length l) m; is = (starts_is Decides-eqb m l r e).0 t }

  pub begins_not : r ≡ false → ¬ Beginning l m
  begins_not t w = true_false (sym ((starts_is Decides-eqb m l r e).1 w.rest w.is) ∙ t)

-- a beginning is no longer, and as long only where it is the whole
beginning_length : {l m : List ℕ} (w : Beginning l m) → length m ≡ length l + length w.rest
beginning_length {l} w = ap length w.is ∙ length-append l w.rest

pub no_rest : (l : List ℕ) → length l ≡ 0 → l ≡ []
no_rest [] h = refl
no_rest (a ∷ l) h = absurd (omega arith)

beginning_whole : {l m : List ℕ} → Beginning l m → length l ≡ length m → l ≡ m
beginning_whole {l} {m} w h =
    let k = beginning_length w in
    sym (append-nil l) ∙ ap (λ z. l ++ z) (sym (no_rest w.rest (omega arith))) ∙ sym w.is

-- what the answers hand back
module _ (first second r : Bor (List ℕ)) where
  abbrev f : List ℕ
  f = first.now

  abbrev s : List ℕ
  s = second.now

  rest_is : {l m : List ℕ} (w : Beginning l m) → take (length m - length l) (drop (length l) m) ≡ w.rest
  rest_is {l} {m} w =
      let k = beginning_length w in
      ap (take (length m - length l)) (ap (drop (length l)) w.is ∙ drop_at l w.rest (length l) refl) ∙ take_all (length m - length l) w.rest (omega arith)

  some_rest : {l m : List ℕ} (w : Beginning l m) → length l < length m → w.rest ≢ []
  some_rest w h e = let k = beginning_length w in let z = ap length e in omega arith

  pub rest_of_second : length f < length s → Beginning f s → PartOf second (length f) (take (length s - length f) (drop (length f) s)) r → CaughtUp first second r
  rest_of_second h w p = second_longer w (some_rest w h) (record { place = p.place; holds = p.holds ∙ rest_is w })

  pub rest_of_first : length s < length f → Beginning s f → PartOf first (length s) (take (length f - length s) (drop (length s) f)) r → CaughtUp first second r
  rest_of_first h w p = first_longer w (some_rest w h) (record { place = p.place; holds = p.holds ∙ rest_is w })

  -- the longer is no beginning of the shorter
  too_long : {l m : List ℕ} → length m < length l → ¬ Beginning l m
  too_long h w = let k = beginning_length w in omega arith

  -- neither is a shorter beginning of the other
  pub no_rest_of_either : (length f < length s → ¬ Beginning f s) → (length s < length f → ¬ Beginning s f) → PartOf first 0 [] r → CaughtUp first second r
  no_rest_of_either a b p = go (dec_lt (length f) (length s)) (dec_lt (length s) (length f))
    where
      as_long : length f ≡ length s → Dec (f ≡ s) → CaughtUp first second r
      as_long h (yes e) = equal e p
      as_long h (no n) = neither (λ w. n (beginning_whole w h)) (λ w. n (sym (beginning_whole w (sym h)))) p

      go : Dec (length f < length s) → Dec (length s < length f) → CaughtUp first second r
      go (yes h) k = neither (a h) (too_long h) p
      go (no h) (yes k) = neither (too_long k) (b k) p
      go (no h) (no k) = as_long (omega arith) (List-discrete ℕ_discrete f s)
