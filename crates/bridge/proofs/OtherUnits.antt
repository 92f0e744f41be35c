-- A unit past 4 is none: its limit is unusable, so the answer is 1 and nothing is written.
use mathlib.Core.Path.{◌≡◌, refl}
use mathlib.Core.List.{List}
use Prim.Native.Nat.{ℕ, ◌<◌}
use native.Mathlib.Omega.{arith}
use lib.IntN.{ℤ}
use lib.Ieee.{Float, nan}
use borrow.Author.Tests.{ne_eqb}
use Rattle.std.specs.Prelude.{Err, None}
use Rattle.refusal.proofs.Laws.{verdicts, given_first, none_yet}
use Rattle.refusal.specs.declared.Refusal.TheVariants.{LimitUnusable}
use Rattle.length.specs.declared.Length.TheVariants.{Centimetres}
use Rattle.length.specs.declared.Order.TheVariants.{Limit}
use Rattle.length.specs.Limit.{reading, limit_of}
use Rattle.thin.specs.Order.{asked}
use Rattle.thin.specs.Thin.{thin_refusals, refused}
use Rattle.regrow.specs.declared.Halt.TheVariants as halt
use Rattle.recover.specs.Outcome as recovering
use Rattle.across.specs.declared.Counted.{Counted}
use Rattle.across.specs.declared.Centimetres as struct
use Rattle.across.specs.declared.Recovery.{Recovery}
use Rattle.across.specs.Units.{length_of_lem, order_of_lem}
use Rattle.bridge.specs.Calls.{ThinShown, LimitShown, RecoverShown}
use Rattle.bridge.proofs.Main.{thin_crosses, limit_crosses, recover_crosses}

module _ (u : ℕ) (v : Float) (other : 4 < u) where
  no_length : length_of_lem u v ≡ Centimetres nan
  unfolding length_of_lem
  no_length = rw (ne_eqb u 1 (λ e. omega (arith, other, e)), ne_eqb u 2 (λ e. omega (arith, other, e)), ne_eqb u 3 (λ e. omega (arith, other, e)), ne_eqb u 4 (λ e. omega (arith, other, e))) refl

  no_number : limit_of (Centimetres nan) ≡ None
  unfolding limit_of reading
  no_number = refl

  no_order : order_of_lem u v ≡ Limit (length_of_lem u v)
  unfolding order_of_lem
  no_order = rw (ne_eqb u 0 (λ e. omega (arith, other, e))) refl

  no_use_lem : asked (order_of_lem u v) ≡ Err LimitUnusable
  no_use_lem = rw (no_order, no_length, no_number) refl

  pub other_unit_limit : {r : struct.Centimetres} → LimitShown u v r → r ≡ record { status = 1; whole = 0 }
  other_unit_limit p = limit_crosses u v p (record { answer = None; gives = rw (no_length, no_number) refl; says = record { status = refl; values = refl } })

  pub other_unit_thin : {xs : List ℤ} {t l t' l' : List ℕ} {r : Counted} → ThinShown u v xs t l r t' l' → (r ≡ record { status = 1; records = 0 }) × (t' ≡ t) × (l' ≡ l)
  unfolding thin_refusals
  other_unit_thin p =
      thin_crosses u v p (record { answer = Err LimitUnusable; gives = refused {e = LimitUnusable} (given_first verdicts none_yet no_use_lem) refl refl refl; says = record { status = refl; values = refl } })

  pub other_unit_recover : {xs : List ℤ} {t l b t' l' : List ℕ} {r : Recovery} → RecoverShown u v xs t l b r t' l' → (r ≡ record { status = 1; kept = 0; records = 0 }) × (t' ≡ t) × (l' ≡ l)
  unfolding thin_refusals
  other_unit_recover p =
      recover_crosses u v p (record { answer = Err (halt.Refused LimitUnusable); gives = recovering.refused {e = LimitUnusable} (given_first verdicts none_yet no_use_lem) refl refl refl; says = record { status = refl; values = refl } })
