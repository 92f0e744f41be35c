-- What following the records kept comes to: those done are the first of them, and the stage that they lead to has room to go on.
use mathlib.Core.Path.{◌≡◌, ◌∙◌, ap}
use mathlib.Core.List.{List, ◌∷◌, ◌++◌}
use Prim.Native.Nat.{ℕ, ◌*◌, ◌≤◌}
use native.Mathlib.Omega.{arith}
use lib.ListN.{length, length-append, take, drop}
use lib.Seq.{sets, length-take-le}
use Rattle.std.specs.Prelude.{Ok, Err, Result}
use Rattle.follow.specs.Follow.{Followed, all, some}
use Rattle.surface.specs.Rows.{Row, rows}
use Rattle.surface.specs.Record.{Replayed}
use Rattle.refusal.specs.declared.Refusal.{Refusal}
use Rattle.record.specs.Layout.{width, count, records, room_for}
use Rattle.record.specs.Front.{zeroed}
use Rattle.record.proofs.Places.{records_length}
use Rattle.regrow.specs.declared.Halt.{Halt}
use Rattle.regrow.specs.declared.Halt.TheVariants.{Refused}
use Rattle.regrow.proofs.Counted.{regrown_apart}
use Rattle.replay.specs.Outcome.{replaying}
use Rattle.lines.proofs.Turns.{in_front}
use Rattle.recover.specs.Inner.{done_in_lem, CanHandOver, HandedOver}

module _ (n : ℕ) (t kept : List ℕ) where
  -- no more are done than were kept
  pub done_few : {a : Result ℕ Halt} {T : List Row} → Followed (replaying n t kept) a T → done_in_lem a ≤ count kept
  done_few (all w e) = let h = ap done_in_lem e in omega (arith, records_length kept)
  done_few (some done i rest q w f e) =
      let h = ap done_in_lem e in
      let k = ap length q ∙ length-append done (i ∷ rest) in
      omega (arith, records_length kept)

  -- following refuses nothing
  pub not_refused : {r : Refusal} {T : List Row} → ¬ Followed (replaying n t kept) (Err (Refused r)) T
  not_refused (all w e) = regrown_apart.refused_finished e
  not_refused (some done i rest {r = r} q w f e) = regrown_apart.refused_stopped {r = r} e

  -- where all are done, they lead to the stage handed over
  pub all_followed : {k : ℕ} {T : List Row} → Followed (replaying n t kept) (Ok k) T → Replayed (rows t) (records kept) T × (k ≡ count kept)
  all_followed (all w e) = (w, let h = ap done_in_lem e in omega (arith, records_length kept))
  all_followed (some done i rest {r = r} q w f e) = absurd (regrown_apart.finished_stopped {r = r} e)

-- ---- the records done, in front of the log

module _ {n : ℕ} {t kept l : List ℕ} {a : Result ℕ Halt} {T : List Row} (h : CanHandOver n t kept l) (f : Followed (replaying n t kept) a T) (d : ℕ) (e : d ≡ done_in_lem a) where
  pub numbers_kept : d * width ≤ length kept
  numbers_kept = omega (arith, done_few n t kept f)

  pub numbers_fit : length (take (d * width) kept) ≤ length l
  numbers_fit = let g = h.fits in let k = numbers_kept in omega (arith, length-take-le (d * width) kept k)

  pub handed_over : {t' l' : List ℕ} → t' ≡ zeroed T t → l' ≡ sets l 0 (take (d * width) kept) → HandedOver n t kept l a t' l'
  handed_over et el = record { state = T; reached = f; table = et; logged = el ∙ in_front l (take (d * width) kept) numbers_fit ∙ (λ i. take (same i) kept ++ drop (many i) l) }
    where
      same : d * width ≡ room_for (done_in_lem a)
      same = omega arith

      many : length (take (d * width) kept) ≡ room_for (done_in_lem a)
      many = length-take-le (d * width) kept numbers_kept ∙ same
