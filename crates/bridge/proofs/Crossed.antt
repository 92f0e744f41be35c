-- Each function that crosses answers as its call does, and has no second outcome.
use mathlib.Core.Path.{◌≡◌, sym, ◌∙◌}
use mathlib.Core.List.{List}
use Prim.Native.Nat.{ℕ}
use lib.IntN.{ℤ}
use lib.Ieee.{Float}
use denote.Ref.{Bor}
use Rattle.std.specs.Prelude.{Result}
use Rattle.refusal.specs.declared.Refusal.{Refusal}
use Rattle.thin.specs.Thin.{Thinned}
use Rattle.thin.specs.Answer as ThinAnswer
use Rattle.thin.proofs.Main.{thinned_one}
use Rattle.regrow.specs.Answer as RegrowAnswer
use Rattle.regrow.proofs.Main.{grown_one}
use Rattle.replay.proofs.Main.{replay_one}
use Rattle.volume.specs.Answer as VolumeAnswer
use Rattle.volume.proofs.Main.{volume_one, change_one}
use Rattle.volume.proofs.Sums as sums
use Rattle.shift.specs.Answer as ShiftAnswer
use Rattle.shift.proofs.Main.{shift_one}
use Rattle.length.specs.Answer as LengthAnswer
use Rattle.sheet.specs.Answer as SheetAnswer
use Rattle.sheet.proofs.Promises.{one_outcome}
use Rattle.job.specs.Answer as JobAnswer
use Rattle.flipped.specs.Answer as FlipAnswer
use Rattle.fliplist.proofs.Main.{flipped_one}
use Rattle.undoflips.proofs.Main.{undid_one}
use Rattle.job.proofs.Answering.{one_answer}
use Rattle.tell.specs.Answer as ReplyAnswer
use Rattle.reply.proofs.Main.{replied_one}
use Rattle.logsheet.specs.Answer as LogAnswer
use Rattle.logsheet.proofs.Main.{read_log_one, wrote_log_one}
use Rattle.logrecords.specs.Answer.{told_opened, told_next}
use Rattle.logrecords.proofs.Main.{opened_one, next_one}
use Rattle.logreader.proofs.Main.{each_one}
use Rattle.recover.specs.Answer as RecoverAnswer
use Rattle.recover.proofs.Main.{recovered_one}
use Rattle.ring.proofs.Rule.{trial_one}
use Rattle.link.proofs.Laws.{chosen_one}
use Rattle.catchup.proofs.One.{SamePart, caught_up_one}
use Rattle.across.specs.declared.Counted.{Counted}
use Rattle.across.specs.Units.{order_of_lem}
use Rattle.across.specs.Says.{Says}
use Rattle.across.specs.Fields.{of_counted}
use Rattle.bridge.specs.declared.Part.{Part}
use Rattle.bridge.specs.Calls.{ThinShown}
use Rattle.bridge.specs.Lent.{Places, nothing, of_second, of_first}
use Rattle.bridge.specs.Crossing.{Crossing}
use Rattle.across.proofs.Saying.{said}
use Rattle.bridge.proofs.Main.{thin_crosses, grow_crosses, replay_crosses, volume_crosses, change_crosses, exact_crosses, shift_crosses, limit_crosses, sheet_crosses, reply_crosses, trial_crosses, ring_crosses, part_crosses, write_log_crosses, read_log_crosses, each_crosses, recover_crosses, job_crosses, flip_crosses, undo_crosses, open_log_crosses, next_crosses}

-- the places tell of the same memory, by whatever name
places_same : {first second x y : Bor (List ℕ)} {r : Part} → SamePart x y → Places first second x r → Places first second y r
places_same e (nothing h k) = nothing (sym e.1 ∙ h) k
places_same e (of_second n lt p k) = of_second (λ z. n (e.1 ∙ z)) lt (record { place = sym e.0 ∙ p.place; holds = sym e.1 ∙ p.holds }) k
places_same e (of_first n lt p k) = of_first (λ z. n (e.1 ∙ z)) lt (record { place = sym e.0 ∙ p.place; holds = sym e.1 ∙ p.holds }) k

-- thinning by either engine
thin_as_told : (u : ℕ) (v : Float) {xs : List ℤ} {t l : List ℕ} {r : Counted} {t₁ t₂ l₁ l₂ : List ℕ} {a : Result ℕ Refusal} → ThinShown u v xs t l r t₁ l₁ → Thinned (order_of_lem u v) xs t l a t₂ l₂ →
    Says (ThinAnswer.told a) (of_counted r) × (t₁ ≡ t₂) × (l₁ ≡ l₂)
thin_as_told u v p w = let e = thinned_one w p.gives in (said ThinAnswer.told e.0 p.says, sym e.1, sym e.2)

pub crossing : Crossing
crossing = record {
  thin = λ u v p w. thin_as_told u v p w;
  thin_one = λ u v p q. thin_crosses u v p q;
  grow_back_lem = λ p w. let e = grown_one w p.gives in (said RegrowAnswer.told e.0 p.says, sym e.1);
  grow_back_one = λ p q. grow_crosses p q;
  replay = λ p w. let e = replay_one w p.gives in (said RegrowAnswer.told e.0 p.says, sym e.1);
  replay_one = λ p q. replay_crosses p q;
  volume = λ a p w. said VolumeAnswer.told (volume_one a p.answer w p.gives) p.says;
  volume_one = λ p q. volume_crosses p q;
  change = λ a p w. said VolumeAnswer.told (change_one a p.answer w p.gives) p.says;
  change_one = λ p q. change_crosses p q;
  shift = λ a p w. said ShiftAnswer.told (shift_one a p.answer w p.gives) p.says;
  shift_one = λ p q. shift_crosses p q;
  limit = λ u v p w. said LengthAnswer.told (w ∙ sym p.gives) p.says;
  limit_one = λ u v p q. limit_crosses u v p q;
  shorter_ring_lem = λ p w. rw (chosen_one w p.chosen) p.which;
  shorter_ring_one = λ p q. ring_crosses p q;
  catch_up_lem = λ p w. places_same (caught_up_one p.caught_up w) p.places;
  catch_up_one = λ p q. part_crosses p q;
  read_sheet_lem = λ {b} {t} {xs = xs} p w. let e = one_outcome b t xs w p.gives in (said SheetAnswer.told e.answer p.says, sym e.table, sym e.corners);
  read_sheet_one = λ p q. sheet_crosses p q;
  trial_number_lem = λ {k} a p w. rw (trial_one k a p.answer w p.tells) p.stores;
  trial_number_one = λ p q. trial_crosses p q;
  reply = λ p w. let e = replied_one w p.gives in (said ReplyAnswer.told e.0 p.says, sym e.1);
  reply_one = λ p q. reply_crosses p q;
  write_log = λ p w. let e = wrote_log_one w p.gives in (said ReplyAnswer.told e.0 p.says, sym e.1);
  write_log_one = λ p q. write_log_crosses p q;
  read_log = λ p w. let e = read_log_one w p.gives in (said LogAnswer.told e.0 p.says, sym e.1);
  read_log_one = λ p q. read_log_crosses p q;
  each_record_lem = λ p w. let e = each_one w p.gives in (said LogAnswer.told e.0 p.says, sym e.1);
  each_record_one = λ p q. each_crosses p q;
  recover = λ u v p w. let e = recovered_one w p.gives in (said RecoverAnswer.told e.0 p.says, sym e.1, sym e.2);
  recover_one = λ u v p q. recover_crosses u v p q;
  job = λ p w. said JobAnswer.told (one_answer w p.gives) p.says;
  job_one = λ p q. job_crosses p q;
  flip_list_lem = λ p w. let e = flipped_one w p.gives in (said FlipAnswer.told e.0 p.says, sym e.1, sym e.2);
  flip_list_one = λ p q. flip_crosses p q;
  undo_flips_lem = λ p w. let e = undid_one w p.gives in (said FlipAnswer.told e.0 p.says, sym e.1);
  undo_flips_one = λ p q. undo_crosses p q;
  thin_plain = λ u v p w. thin_as_told u v p w;
  thin_plain_one = λ u v p q. thin_crosses u v p q;
  open_log = λ p w. said told_opened (opened_one w p.gives) p.says;
  open_log_one = λ p q. open_log_crosses p q;
  next_record_lem = λ p w. said told_next (next_one w p.shown.gives) p.shown.says;
  next_record_one = λ p q. next_crosses p q;
  exact_sum_lem = λ a p w. said VolumeAnswer.told_exact (sums.exact_sum_one a p.answer w p.gives) p.says;
  exact_sum_one = λ p q. exact_crosses p q;
}
