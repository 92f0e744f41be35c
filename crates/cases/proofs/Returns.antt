-- A skin on which a limit returns to a lower corner: it keeps 2 first, and then 1. A program that never returns is refuted by it.
use mathlib.Core.Path.{refl, ap}
use mathlib.Core.Logic.{◌≢◌}
use mathlib.Core.List.{List, [], ◌∷◌}
use Prim.Native.Nat.{ℕ}
use native.Mathlib.Decide.{ℕ_discrete}
use native.Mathlib.Omega.{arith}
use lib.Ieee.{binary64, of_bits}
use lib.IntN.{ℤ, pos}
use lib.ListN.{get_or}
use Rattle.std.specs.Prelude.{Ok, Result, Some}
use Rattle.refusal.specs.declared.Refusal.{Refusal}
use Rattle.surface.specs.Rows.{row, rows, flat}
use Rattle.surface.specs.Table.{edges}
use Rattle.surface.specs.Contract.{contract, renumber, replace, stays?, holds?}
use Rattle.surface.specs.Record.{later, leaving, Record}
use Rattle.corners.specs.Skin.{Skin}
use Rattle.distance.specs.Corners.{squared_distance_lem}
use Rattle.length.specs.declared.Order.{Order}
use Rattle.length.specs.declared.Order.TheVariants.{Limit}
use Rattle.length.specs.declared.Length.TheVariants.{Centimetres}
use Rattle.length.specs.Limit.{capped, reading, limit_of}
use Rattle.record.specs.Layout.{log_of, width, room_for}
use Rattle.thin.specs.Thin.{Thinned, done}
use Rattle.thin.proofs.Main.{thinned_one, thin_passes}
use Rattle.thin.proofs.Judging.{under_usable}
use Rattle.computed.proofs.Running.{stays_at, goes_on, run_sound}
use Rattle.cases.specs.Cases.{lent}
use Rattle.cases.proofs.Skinned.{skin_sound}
use Rattle.cases.proofs.Starred.{within, limited}

abbrev pub six : List ℕ
six = 2 ∷ 3 ∷ 1 ∷ 5 ∷ 2 ∷ 4 ∷ 3 ∷ 5 ∷ 1 ∷ 1 ∷ 5 ∷ 4 ∷ 3 ∷ 2 ∷ 5 ∷ 1 ∷ 0 ∷ 2 ∷ 0 ∷ 1 ∷ 4 ∷ 0 ∷ 4 ∷ 2 ∷ []

abbrev pub six_corners : List ℤ
six_corners =
    pos 3 ∷ pos 4 ∷ pos 0 ∷ pos 1 ∷ pos 1 ∷ pos 2 ∷ pos 4 ∷ pos 0 ∷ pos 1 ∷ pos 4 ∷ pos 1 ∷ pos 0 ∷ pos 3 ∷ pos 4 ∷ pos 4 ∷ pos 2 ∷ pos 1 ∷ pos 2 ∷ []

abbrev pub cm_3 : Order
cm_3 = Limit (Centimetres (of_bits binary64 0x4008000000000000))

six_skin : Skin 6 (rows six) six_corners
unfolding edges rows
six_skin = skin_sound 6 (rows six) six_corners refl tt tt tt

abbrev r₁ : Record
r₁ = record { kept = 2; removed = 3; place_1 = 0; row_1 = row 2 3 1; place_2 = 4; row_2 = row 3 2 5 }

abbrev r₂ : Record
r₂ = record { kept = 1; removed = 5; place_1 = 1; row_1 = row 2 5 1; place_2 = 2; row_2 = row 1 5 4 }

abbrev six_last : List ℕ
six_last = 1 ∷ 2 ∷ 4 ∷ 1 ∷ 0 ∷ 2 ∷ 0 ∷ 1 ∷ 4 ∷ 0 ∷ 4 ∷ 2 ∷ 0 ∷ 0 ∷ 0 ∷ 0 ∷ 0 ∷ 0 ∷ 0 ∷ 0 ∷ 0 ∷ 0 ∷ 0 ∷ 0 ∷ []

abbrev six_log : List ℕ
six_log = 2 ∷ 3 ∷ 0 ∷ 2 ∷ 3 ∷ 1 ∷ 4 ∷ 3 ∷ 2 ∷ 5 ∷ 1 ∷ 5 ∷ 1 ∷ 2 ∷ 5 ∷ 1 ∷ 2 ∷ 1 ∷ 5 ∷ 4 ∷ []

pub returns : Thinned cm_3 six_corners six (lent (room_for 2)) (Ok 2) six_last six_log
unfolding edges rows flat log_of contract renumber replace stays? holds? ℕ_discrete leaving later limit_of reading capped of_bits squared_distance_lem
returns = done {b = Some 3} {log = r₁ ∷ r₂ ∷ []} {last = row 1 2 4 ∷ row 1 0 2 ∷ row 0 1 4 ∷ row 0 4 2 ∷ []} (thin_passes six (under_usable {b = Some 3} refl) refl six_skin (omega arith)) six_skin refl
    (limited 3 six_corners (run_sound (within 3 six_corners) (goes_on {k = r₁} tt refl (goes_on {k = r₂} tt refl (stays_at refl))) tt)) refl refl refl

-- one that never returns to a lower corner does not keep 1 in its second record
pub never_returning : (b : Result ℕ Refusal) (u m : List ℕ) → get_or m width 0 ≢ 1 → ¬ Thinned cm_3 six_corners six (lent (room_for 2)) b u m
never_returning b u m n h = n (ap (λ l. get_or l width 0) (thinned_one h returns).2)
