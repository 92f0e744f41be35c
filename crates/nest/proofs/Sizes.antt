-- How large nets may be. Every entry stands in one other at most, so one level deeper adds the sizes of all entries at most once more.
use mathlib.Core.Path.{◌≡◌, refl}
use mathlib.Core.Bool.{Bool, true, false, cond}
use mathlib.Core.List.{List}
use Prim.Native.Nat.{ℕ, zero, suc, ◌+◌, ◌*◌, ◌≤◌, ◌<◌}
use native.Mathlib.Nat.{mul-le-mul}
use native.Mathlib.Omega.{arith}
use native.Mathlib.Decide.{ℕ_discrete}
use borrow.Author.Tests.{eq-eqb, ne_eqb}
use lib.Dec.{eqb}
use lib.IntN.{ℤ, pos, ◌-ℤ◌, nat_abs}
use lib.ListN.{length}
use Rattle.std.specs.Prelude.{Option, Some, None}
use Rattle.ints.proofs.Ints.{abs_add, abs_minus}
use Rattle.wide.specs.declared.Wide.{Wide}
use Rattle.wide.specs.Wide.{Exact}
use Rattle.wide.specs.Inner.{most_wide, Fits}
use Rattle.wide.proofs.Laws.{fits_within}
use Rattle.jobform.specs.declared.Entry.{Entry}
use Rattle.jobform.specs.Limits.{most_entries}
use Rattle.nest.specs.Limits.{most_depth, most_sum}
use Rattle.nest.specs.Net.{names, added, told_sum}
use Rattle.nest.specs.Inner.{told_name, named_in, net_within, Summable}

-- a figure for each number below n, added up
over : ℕ → (ℕ → ℕ) → ℕ
over zero g = 0
over (suc n) g = g n + over n g

over_plus : (n : ℕ) (g a b : ℕ → ℕ) → ((i : ℕ) → g i ≤ a i + b i) → over n g ≤ over n a + over n b
unfolding over
over_plus zero g a b h = omega arith
over_plus (suc n) g a b h = let x = h n in let y = over_plus n g a b h in omega arith

over_most : (n most : ℕ) (g : ℕ → ℕ) → ((i : ℕ) → g i ≤ most) → over n g ≤ n * most
unfolding over
over_most zero most g h = omega arith
over_most (suc n) most g h = let x = h n in let y = over_most n most g h in omega arith

over_more : (m n : ℕ) (g : ℕ → ℕ) → m ≤ n → over m g ≤ over n g
unfolding over
over_more m zero g h = let e : m ≡ 0 = omega arith in rw e (omega arith)
over_more m (suc n) g h = go (ℕ_discrete m (suc n)) (over_more m n g)
  where
    go : Dec (m ≡ suc n) → (m ≤ n → over m g ≤ over n g) → over m g ≤ g n + over n g
    go (yes e) less = rw e (omega arith)
    go (no d) less = let x = less (omega arith) in omega arith

one_of : (n i : ℕ) (g : ℕ → ℕ) → i < n → g i ≤ over n g
unfolding over
one_of n i g h = let x = over_more (suc i) n g h in omega arith

-- the one of i below n that v names
hit : Option ℕ → ℤ → ℕ → ℕ
hit v x i = nat_abs (cond (names i v) x (pos 0))

none_hit : (n : ℕ) (x : ℤ) → over n (hit None x) ≡ 0
unfolding over hit
none_hit zero x = refl
none_hit (suc n) x = omega (arith, none_hit n x)

past_hit : (n j : ℕ) (x : ℤ) → n ≤ j → over n (hit (Some j) x) ≡ 0
unfolding over hit
past_hit zero j x h = refl
past_hit (suc n) j x h = rw (ne_eqb j n (λ e. (let z = e in omega arith))) (omega (arith, past_hit n j x (omega arith)))

one_hit : (n : ℕ) (v : Option ℕ) (x : ℤ) → over n (hit v x) ≤ nat_abs x
unfolding over hit
one_hit n None x = omega (arith, none_hit n x)
one_hit zero (Some j) x = omega arith
one_hit (suc n) (Some j) x = go (ℕ_discrete j n) (one_hit n (Some j) x)
  where
    go : Dec (j ≡ n) → over n (hit (Some j) x) ≤ nat_abs x → nat_abs (cond (eqb j n) x (pos 0)) + over n (hit (Some j) x) ≤ nat_abs x
    go (yes e) less = rw (eq-eqb j n e) (omega (arith, past_hit n j x (omega arith)))
    go (no d) less = rw (ne_eqb j n d) (omega (arith, less))

-- over all entries, what stands directly in them is no more than all there is
parts : (es : List Entry) (f : ℕ → ℤ) (n m : ℕ) → over n (λ i. nat_abs (added f (named_in es i) m)) ≤ over m (λ k. nat_abs (f k))
unfolding over added hit
parts es f n zero = let h = over_most n 0 (λ i. 0) (λ i. omega arith) in omega arith
parts es f n (suc m) =
    let a = over_plus n (λ i. nat_abs (added f (named_in es i) (suc m))) (λ i. nat_abs (added f (named_in es i) m)) (hit (told_name es m) (f m)) (λ i. abs_add (added f (named_in es i) m) (cond (named_in es i m) (f m) (pos 0))) in
    let b = parts es f n m in
    let c = one_hit n (told_name es m) (f m) in
    omega arith

either : (b : Bool) (z : ℤ) → nat_abs (cond b z (pos 0)) ≤ nat_abs z
either true z = omega arith
either false z = omega arith

part_most : (f : ℕ → ℤ) (there : ℕ → Bool) (m : ℕ) → nat_abs (added f there m) ≤ over m (λ k. nat_abs (f k))
unfolding over added
part_most f there zero = omega arith
part_most f there (suc m) =
    let a = abs_add (added f there m) (cond (there m) (f m) (pos 0)) in
    let b = either (there m) (f m) in
    omega (arith, part_most f there m)

module _ {es : List Entry} (s : Summable es) where
  all_nets : ℕ → ℕ
  all_nets d = over (length es) (λ i. nat_abs (net_within d es i))

  -- each level adds the sums of all entries at most
  nets_size : (d : ℕ) → all_nets d ≤ suc d * (length es * most_sum)
  unfolding all_nets net_within
  nets_size zero =
      let n = length es in
      let h = over_most n most_sum (λ i. nat_abs (told_sum es i -ℤ pos 0)) (λ i. (let x = s.small i in omega (arith, abs_minus (told_sum es i) (pos 0)))) in
      omega arith
  nets_size (suc d) =
      let n = length es in
      let f = net_within d es in
      let a = over_plus n (λ i. nat_abs (told_sum es i -ℤ added f (named_in es i) n)) (λ i. nat_abs (told_sum es i)) (λ i. nat_abs (added f (named_in es i) n)) (λ i. abs_minus (told_sum es i) (added f (named_in es i) n)) in
      let b = over_most n most_sum (λ i. nat_abs (told_sum es i)) s.small in
      let c = parts es f n n in
      let e = nets_size d in
      omega arith

  -- so no net, and no part of what is taken off one, is too wide to be exact
  nets_fit : (d : ℕ) → d < most_depth → all_nets d ≤ most_wide
  nets_fit d h =
      let a = nets_size d in
      let b : length es * most_sum ≤ most_entries * most_sum = omega (arith, s.few) in
      let c : suc d * (length es * most_sum) ≤ most_depth * (most_entries * most_sum) = mul-le-mul h b in
      omega (arith, a, c)

  pub net_fits : (d : ℕ) → d < most_depth → (i : ℕ) → i < length es → {w : Wide} → Exact (net_within d es i) w → Fits w
  unfolding all_nets
  net_fits d h i k e = fits_within e (let a = nets_fit d h in omega (arith, one_of (length es) i (λ j. nat_abs (net_within d es j)) k))

  pub part_fits : (d : ℕ) → d < most_depth → (i k : ℕ) → k ≤ length es → {w : Wide} → Exact (added (net_within d es) (named_in es i) k) w → Fits w
  unfolding all_nets
  part_fits d h i k m e =
      let g : ℕ → ℕ = λ j. nat_abs (net_within d es j) in
      fits_within e (let a = nets_fit d h in omega (arith, part_most (net_within d es) (named_in es i) k, over_more k (length es) g m))

  pub own_fits : (i : ℕ) {w : Wide} → Exact (told_sum es i) w → Fits w
  own_fits i e = fits_within e (let h = s.small i in omega arith)
