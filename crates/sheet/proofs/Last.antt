-- What a sheet holds is checked and put into the lent rooms; and the two halves of reading a sheet make the whole.
use mathlib.Core.Path.{◌≡◌, refl, subst}
use mathlib.Core.Bool.{true}
use mathlib.Core.List.{List, ◌++◌}
use Prim.Native.Nat.{ℕ, ◌*◌, ◌≤◌, ◌<◌}
use native.Mathlib.Omega.{arith}
use lib.IntN.{ℤ}
use lib.ListN.{length, take, drop}
use Rattle.std.specs.Prelude.{Result, Ok, Err}
use Rattle.surface.specs.Rows.{rows}
use Rattle.corners.specs.Skin.{Skin}
use Rattle.refusal.specs.First.{First}
use Rattle.refusal.specs.declared.Refusal.{Refusal}
use Rattle.refusal.specs.declared.Refusal.TheVariants.{RoomShort}
use Rattle.refusal.proofs.Laws.{verdicts, rest_decides, given_first, none_yet, ◌nor◌}
use Rattle.faults.specs.Counts.{corners}
use Rattle.faults.specs.Order.{refusals_at}
use Rattle.faults.specs.Inner.{CheckedFirst}
use Rattle.form.specs.Inner.{Held, FormRead}
use Rattle.form.proofs.Within.{held_refusals}
use Rattle.sheet.specs.Outcome.{NoRoom, table_short, corners_short, skin_refusals, ReadSheet, bad_skin, read}
use Rattle.sheet.specs.Inner.{Delivered, kept, put}

module _ {n m : ℕ} {xs : List ℤ} {t : List ℕ} (held : Held n m xs t) where
  module _ (troom : List ℕ) (croom : List ℤ) where
    pub no_table_room : length troom < length t → Delivered n m xs t troom troom croom croom (Err RoomShort)
    unfolding skin_refusals
    no_table_room h = kept (given_first verdicts none_yet (table_short h)) refl refl refl

    pub no_corner_room : length croom < length xs → Delivered n m xs t troom troom croom croom (Err RoomShort)
    unfolding skin_refusals
    no_corner_room h = kept (given_first verdicts none_yet (corners_short h)) refl refl refl

    module _ (troom-fits : length t ≤ length troom) (croom-fits : length xs ≤ length croom) where
      room_enough : ¬ NoRoom troom croom xs t
      room_enough (table_short h) = omega arith
      room_enough (corners_short h) = omega arith

      pub after_room : (v : Result Unit Refusal) → First (refusals_at true xs t) v → First (skin_refusals troom croom xs t) v
      unfolding skin_refusals
      after_room v k = rest_decides verdicts (room_enough nor none_yet) v (held_refusals held v k)

      pub refused_skin : (v : Result Unit Refusal) (r : Refusal) → CheckedFirst xs t v → v ≡ Err r → Delivered n m xs t troom troom croom croom (Err r)
      refused_skin v r k e = kept (subst (First (skin_refusals troom croom xs t)) e (after_room v k.holds)) refl refl refl

      pub skin_put : (v : Result Unit Refusal) → CheckedFirst xs t v → v ≡ Ok tt → Delivered n m xs t troom (t ++ drop (length t) troom) croom (xs ++ drop (length xs) croom) (Ok (n, m))
      skin_put v k e =
          let cs = held.corners in
          let c : corners xs ≡ n = omega arith in
          put (subst (First (skin_refusals troom croom xs t)) e (after_room v k.holds)) (subst (λ (j : ℕ). Skin j (rows t) xs) c (k.skin e)) refl refl refl

-- what a sheet in its form holds
module _ {b : List ℕ} {n m : ℕ} {xroom : List ℤ} {nroom : List ℕ} (f : FormRead b n m xroom nroom) where
  pub whole_outcome : {troom troom' : List ℕ} {croom croom' : List ℤ} {a : Result (ℕ × ℕ) Refusal} → Delivered n m (take (n * 3) xroom) (take (m * 3) nroom) troom troom' croom croom' a → ReadSheet b troom troom' croom croom' a
  whole_outcome (kept p e q r) = bad_skin f.passes f.sheet p e q r
  whole_outcome (put p w e q r) = read f.passes f.sheet p w e q r
