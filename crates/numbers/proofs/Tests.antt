-- What one slot tells, and what all slots tell: 5 and 6.
use mathlib.Core.Path.{◌≡◌, sym, ◌∙◌}
use mathlib.Core.Logic.{◌≢◌}
use mathlib.Core.List.{List}
use Prim.Native.Nat.{ℕ, ◌≤◌, ◌<◌}
use lib.ListN.{length, get_or}
use Rattle.surface.specs.Rows.{rows}
use Rattle.faults.specs.Words.{NotBelow, Below, TwiceInRow, Apart}
use Rattle.slots.specs.Slot.{next_slot, Whole, Under}
use Rattle.slots.proofs.Slots.{follows_at, at_follows}

module _ (t : List ℕ) (w : Whole t) where
  -- 5
  pub not_below_at : (n e : ℕ) → e < length t → n ≤ get_or t e 0 → NotBelow n (rows t)
  not_below_at n e h k = record { v = get_or t e 0; p = get_or t (next_slot e) 0; q = get_or t (next_slot (next_slot e)) 0; here = at_follows t w.threes e h; past = k }

  pub below_all : (n : ℕ) → ((e : ℕ) → e < length t → get_or t e 0 < n) → Below n (rows t)
  below_all n h v p q f =
      let a = follows_at t w.threes f in
      rw (sym a.is_v) (h a.e a.inside)

  pub below_under : (n : ℕ) → Below n (rows t) → Under t n
  below_under n b = record { under = λ e h. b _ _ _ (at_follows t w.threes e h) }

  -- 6
  pub twice_at : (e : ℕ) → e < length t → get_or t e 0 ≡ get_or t (next_slot e) 0 → TwiceInRow (rows t)
  twice_at e h k = record { v = get_or t e 0; p = get_or t (next_slot e) 0; q = get_or t (next_slot (next_slot e)) 0; here = at_follows t w.threes e h; same = k }

  pub apart_all : ((e : ℕ) → e < length t → get_or t e 0 ≢ get_or t (next_slot e) 0) → Apart (rows t)
  apart_all h v p q f =
      let a = follows_at t w.threes f in
      λ k. h a.e a.inside (a.is_v ∙ k ∙ sym a.is_p)
