-- Programs that 01 warns of: what each would answer on T or O is not allowed by the words of the contract.
use mathlib.Core.Path.{◌≡◌, refl, sym, ◌∙◌, ap}
use mathlib.Core.Logic.{◌≢◌}
use mathlib.Core.List.{List, []}
use Prim.Native.Nat.{ℕ, suc, ◌<◌, ◌+◌}
use native.Mathlib.Omega.{arith}
use lib.IntN.{pos, ◌-ℤ◌}
use lib.ListN.{get_or}
use Rattle.std.specs.Prelude.{Ok, Result, ℤ, Err}
use Rattle.surface.specs.Rows.{rows, flat}
use Rattle.follow.specs.Leads.{no_step}
use Rattle.refusal.specs.declared.Refusal.{Refusal}
use Rattle.run.specs.Run.{none_yet}
use Rattle.figure.specs.Sum.{sixfold}
use Rattle.record.specs.Layout.{log_of, width, room_for}
use Rattle.length.specs.declared.Order.TheVariants.{NoLimit}
use Rattle.volume.specs.Answer.{told}
use Rattle.volume.specs.Report.{VolumeReport, ChangeReport, Near}
use Rattle.volume.proofs.Main.{log_volume, log_change}
use Rattle.shift.specs.declared.Shifted.{Shifted}
use Rattle.shift.specs.Answer as shifts
use Rattle.shift.specs.Report.{ShiftReport, Bounded}
use Rattle.shift.proofs.Main.{log_shift_bound}
use Rattle.thin.specs.Thin.{Thinned}
use Rattle.thin.proofs.Main.{done_refused, done_count}
use Rattle.cases.specs.Skins.{T, T_corners, O, O_corners, M, M_corners}
use Rattle.cases.specs.Cases.{lent, cm_141, cm_142, O_one}
use Rattle.cases.proofs.Skinned.{O_skin}
use Rattle.cases.proofs.Starred.{case_T, case_M, case_O, case_141, case_142, weighs_O, weighs_one}

-- one that refuses everything
pub refuses_all : (r : Refusal) (u m : List ℕ) → ¬ Thinned NoLimit T_corners T [] (Err r) u m
refuses_all r u m h = done_refused (sym (case_T.1 (Err r) u m h).0)

-- one that answers with the tetrahedron for everything: its first row is not the one that O ends with
pub tetrahedron_for_all : (b : Result ℕ Refusal) (u m : List ℕ) → get_or u 1 0 ≡ get_or T 1 0 → ¬ Thinned NoLimit O_corners O (lent (room_for 2)) b u m
tetrahedron_for_all b u m e h = let k = ap (λ l. get_or l 1 0) (case_O.1 b u m h).1 in let f : ◌≡◌ {A = ℕ} 1 3 = sym e ∙ k in omega arith

-- one that ends in a tetrahedron whatever it is given: M has no record
pub tetrahedron_for_M : (k : ℕ) (u m : List ℕ) → ¬ Thinned NoLimit M_corners M (lent (room_for 3)) (Ok (suc k)) u m
tetrahedron_for_M k u m h = let e = done_count (case_M.1 (Ok (suc k)) u m h).0 in omega arith

-- one that contracts nothing
pub contracts_nothing : (u m : List ℕ) → ¬ Thinned NoLimit O_corners O (lent (room_for 2)) (Ok 0) u m
contracts_nothing u m h = let e = done_count (case_O.1 (Ok 0) u m h).0 in omega arith

-- it satisfies demand 3 all the same. What it leaves of O is the first table and no record: each volume shown of that table, and each change
-- from it to itself, is within half a cubic metre of exact, and under a limit of L, any L, each corner lies within k x L of its stand-in
pub contracts-nothing-near :
    ((a : Result ℤ Refusal) → VolumeReport O_corners O (told a) → Near (sixfold O_corners (rows O)) a)
    × ((a : Result ℤ Refusal) → ChangeReport O_corners O O (told a) → Near (sixfold O_corners (rows O) -ℤ sixfold O_corners (rows O)) a)
    × ((L v : ℕ) → v < 6 → (a : Result Shifted Refusal) → ShiftReport O_corners [] v (shifts.told a) → Bounded L a)
unfolding rows flat log_of
contracts-nothing-near = (
  log_volume O_skin (no_step refl),
  log_change O_skin (no_step refl) (no_step refl),
  λ L v h. log_shift_bound L O_skin.stage O_skin.corners O_skin.in_range (λ x y s. s) [] [] (none_yet refl) h,
)

-- one that does all steps under the first record: the log's second record does not remove corner 2
pub all_under_one : (b : Result ℕ Refusal) (u m : List ℕ) → get_or m (width + 1) 0 ≢ 2 → ¬ Thinned NoLimit O_corners O (lent (room_for 2)) b u m
all_under_one b u m n h = n (ap (λ l. get_or l (width + 1) 0) (case_O.1 b u m h).2)

-- an invented step count
pub invented_count : (k : ℕ) (u m : List ℕ) → k ≢ 2 → ¬ Thinned NoLimit O_corners O (lent (room_for 2)) (Ok k) u m
invented_count k u m n h = n (done_count (case_O.1 (Ok k) u m h).0)

-- one that counts common neighbours only, and contracts an edge of T
pub neighbours_only : (k : ℕ) (u m : List ℕ) → ¬ Thinned NoLimit T_corners T [] (Ok (suc k)) u m
neighbours_only k u m h = let e = done_count (case_T.1 (Ok (suc k)) u m h).0 in omega arith

-- one that keeps the higher number: the first record does not begin 1, 0
pub keeps_higher : (b : Result ℕ Refusal) (u m : List ℕ) → get_or m 0 0 ≡ 1 → ¬ Thinned NoLimit O_corners O (lent (room_for 2)) b u m
keeps_higher b u m e h = let k = ap (λ l. get_or l 0 0) (case_O.1 b u m h).2 in let f : ◌≡◌ {A = ℕ} 1 0 = sym e ∙ k in omega arith

-- one that writes no zeros behind the last stage
pub no_zeros : (b : Result ℕ Refusal) (u m : List ℕ) → get_or u 12 0 ≡ get_or O 12 0 → ¬ Thinned NoLimit O_corners O (lent (room_for 2)) b u m
no_zeros b u m e h = let k = ap (λ l. get_or l 12 0) (case_O.1 b u m h).1 in let f : ◌≡◌ {A = ℕ} 5 0 = sym e ∙ k in omega arith

-- one that rounds the length down before comparing, or takes a limit for none: at 141 cm nothing is contracted
pub limit_ignored : (k : ℕ) (u m : List ℕ) → ¬ Thinned cm_141 O_corners O (lent (room_for 2)) (Ok (suc k)) u m
limit_ignored k u m h = let e = done_count (case_141.1 (Ok (suc k)) u m h).0 in omega arith

-- one that compares the squared length with the limit unsquared: at 142 cm it contracts nothing
pub limit_stops_all : (u m : List ℕ) → ¬ Thinned cm_142 O_corners O (lent (room_for 2)) (Ok 0) u m
limit_stops_all u m h = let e = done_count (case_142.1 (Ok 0) u m h).0 in omega arith

-- one that takes rounded changes off a rounded start: O shows 0 at stage one, where 1 is right
pub rounded_start : ¬ VolumeReport O_corners O_one (told (Ok (pos 0)))
rounded_start h = let e : ◌≡◌ {A = Result ℤ Refusal} (Ok (pos 0)) (Ok (pos 1)) = weighs_one.2 (Ok (pos 0)) h in let z : ◌≡◌ {A = ℕ} 0 1 = cc in omega arith

-- one that rounds each row: every row of O has 1,000,000, which rounds to 0
pub rounds_each_row : ¬ VolumeReport O_corners O (told (Ok (pos 0)))
rounds_each_row h = let e : ◌≡◌ {A = Result ℤ Refusal} (Ok (pos 0)) (Ok (pos 1)) = weighs_O.2 (Ok (pos 0)) h in let z : ◌≡◌ {A = ℕ} 0 1 = cc in omega arith
