-- From the stage handed over on: the engine has room, and what it leaves is recovery's.
use mathlib.Core.Path.{◌≡◌, refl, sym, ◌∙◌, ap}
use mathlib.Core.List.{List, ◌++◌}
use Prim.Native.Nat.{ℕ, ◌+◌, ◌-◌, ◌*◌, ◌/◌, ◌≤◌}
use native.Mathlib.Omega.{arith}
use lib.IntN.{ℤ}
use lib.ListN.{length, length-append, length-drop, take, drop, replicate}
use lib.Seq.{take_all, take_at, drop-append-add, drop-drop}
use Rattle.std.specs.Prelude.{Ok, Err, Option}
use Rattle.regrow.specs.declared.Halt.{Halt}
use Rattle.regrow.specs.declared.Halt.TheVariants.{Stopped, Refused}
use Rattle.surface.specs.Limits.{least_corners}
use Rattle.surface.specs.Lists.{Exactly}
use Rattle.surface.specs.Rows.{rows, flat}
use Rattle.surface.specs.Table.{Used}
use Rattle.surface.specs.Stage.{Stage}
use Rattle.surface.specs.Record.{Replayed}
use Rattle.surface.specs.InnerStageTable.{StageTable}
use Rattle.surface.proofs.Main.{corners_there}
use Rattle.slots.proofs.Slots.{whole_rows}
use Rattle.faults.specs.Counts.{corners}
use Rattle.run.specs.Run.{Run}
use Rattle.run.proofs.Main.{replayed_stage, replayed_rows, replayed_corners, taken_replayed}
use Rattle.record.specs.Layout.{count, records, log_of, room_for}
use Rattle.record.specs.Front.{standing, zeroed, lowered}
use Rattle.record.proofs.Places.{records_length}
use Rattle.record.proofs.Front.{front_stage, standing_front, zeroed_length, zeroed_again}
use Rattle.least.specs.Limited.{Allowed}
use Rattle.going.specs.Going.{CanGoOn, WentOn}
use Rattle.engine.proofs.Whole.{used_most}
use Rattle.recover.specs.Inner.{CanHandOver, HandedOver, CanRecover, WentOnFrom, fails, goes_on}
use Rattle.recover.proofs.Handing.{not_refused, all_followed}

module _ {bound : Option ℕ} {xs : List ℤ} {t kept l : List ℕ} (c : CanRecover bound xs t kept l) where
  whole : 3 * length (rows t) ≡ length t
  whole = whole_rows t c.threes

  stage_table : StageTable (corners xs) t
  stage_table = record { count = sym whole; stage = c.skin.stage }

  pub can_hand_over : CanHandOver (corners xs) t kept l
  can_hand_over = record { table = stage_table; fits = let h = c.whole in let f = c.few in let r = c.room in omega arith }

  -- a record does not replay
  pub failed : (h : Halt) {t' l' : List ℕ} → HandedOver (corners xs) t kept l (Err h) t' l' → WentOnFrom bound xs t kept l (Err h) t' l'
  failed (Stopped k) h = fails h.reached refl h.table h.logged
  failed (Refused r) h = absurd (not_refused _ _ _ h.reached)

  module _ {k : ℕ} {t₁ l₁ : List ℕ} (h : HandedOver (corners xs) t kept l (Ok k) t₁ l₁) where
    led : Replayed (rows t) (records kept) h.state
    led = (all_followed (corners xs) t kept h.reached).0

    many : k ≡ count kept
    many = (all_followed (corners xs) t kept h.reached).1

    numbers : length kept ≡ room_for k
    numbers = let w = c.whole in let m = many in omega arith

    left_rows : length (rows t) ≡ length h.state + 2 * k
    left_rows = replayed_rows c.skin.stage led ∙ (let m = many in omega (arith, records_length kept))

    pub rows_there : 2 * k ≤ length t / 3
    rows_there = omega (arith, left_rows, whole)

    here : length h.state ≡ length t / 3 - 2 * k
    here = omega (arith, left_rows, whole)

    inside : 3 * length h.state ≤ length t
    inside = omega (arith, left_rows, whole)

    handed_stage : Stage (corners xs) h.state
    handed_stage = replayed_stage c.skin.stage led

    abbrev rest : List ℕ
    rest = replicate (length t - length (flat h.state)) 0

    stands : standing (length t / 3 - 2 * k) t₁ ≡ h.state
    stands = ap (standing (length t / 3 - 2 * k)) h.table ∙ standing_front (length t / 3 - 2 * k) h.state rest here

    log_is : l₁ ≡ kept ++ drop (room_for k) l
    log_is = h.logged ∙ ap (λ q. q ++ drop (room_for k) l) (take_all (room_for k) kept (omega (arith, numbers)))

    log_length : length l₁ ≡ length l
    log_length =
        let f = can_hand_over.fits in
        ap length log_is ∙ length-append kept (drop (room_for k) l) ∙ omega (arith, numbers, length-drop (room_for k) l)

    pub can_go_on : CanGoOn (corners xs) t₁ (length t / 3 - 2 * k) l₁ k
    can_go_on = record {
      inside = omega (arith, here, inside, ap length h.table ∙ zeroed_length h.state t inside);
      table = rw h.table (front_stage (length t / 3 - 2 * k) h.state rest here handed_stage);
      stand = let f = can_hand_over.fits in omega (arith, numbers, log_length);
      room = room;
    }
      where
        -- as many corners are used as there were, less one for each record
        room : (v : ℕ) → Exactly (Used (standing (length t / 3 - 2 * k) t₁)) v → room_for (k + v) ≤ length l₁ + room_for least_corners
        room v u =
            let first = corners_there (corners xs) (rows t) c.skin.stage in
            let most = used_most c.skin.stage first.1 in
            let less = replayed_corners c.skin.stage led first.1 (rw stands at u) in
            let m = many in
            let r = c.room in
            let f = c.skin.stage.few in
            omega (arith, records_length kept, log_length)

    pub went_on : {all : ℕ} {t' l' : List ℕ} → WentOn (Allowed bound xs) t₁ (length t / 3 - 2 * k) l₁ k all t' l' → WentOnFrom bound xs t kept l (Ok (k, all)) t' l'
    went_on {all} {t'} {l'} w = goes_on h.reached run (ap (λ (j : ℕ). Ok (k, j)) w.count) table logged
      where
        run : Run (Allowed bound xs) h.state w.log w.last
        run = rw stands at w.run

        fewer : length w.last ≤ length h.state
        fewer = let e = replayed_rows handed_stage (taken_replayed run.taken) in omega arith

        table : t' ≡ zeroed w.last t
        table = w.table ∙ (λ i. lowered (sym here i) w.last (h.table i)) ∙ zeroed_again h.state w.last t fewer inside

        after : drop (room_for all) l₁ ≡ drop (room_for (k + length w.log)) l
        after =
            let n = w.count in
            let e : room_for all ≡ length kept + room_for (length w.log) = omega (arith, numbers) in
            let f : room_for k + room_for (length w.log) ≡ room_for (k + length w.log) = omega arith in
            (λ i. drop (e i) (log_is i))
            ∙ drop-append-add kept (drop (room_for k) l) (room_for (length w.log))
            ∙ drop-drop (room_for (length w.log)) (room_for k) l
            ∙ ap (λ (j : ℕ). drop j l) f

        logged : l' ≡ kept ++ (log_of w.log ++ drop (room_for (k + length w.log)) l)
        logged = w.logged ∙ (λ i. (ap (take (room_for k)) log_is ∙ take_at kept (drop (room_for k) l) (room_for k) numbers) i ++ (log_of w.log ++ after i))
