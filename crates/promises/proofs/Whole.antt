-- Demands 2 and 3, and that nothing is left to choose. Demand 1 stands in Refusing.antt.
use mathlib.Core.Path.{sym, ◌∙◌, ap}
use Rattle.length.proofs.Laws.{reading_one}
use Rattle.thin.specs.Answer as thinnings
use Rattle.thin.proofs.Main.{thinned_one, accepted, thinned_run, thinned_kept}
use Rattle.regrow.proofs.Main.{grown_one, grown_leaves}
use Rattle.replay.proofs.Main.{replay_one, replay_leaves}
use Rattle.volume.proofs.Main.{volume_one, change_one}
use Rattle.volume.proofs.Sums.{exact_sum_one}
use Rattle.shift.proofs.Main.{shift_one}
use Rattle.link.proofs.Laws.{chosen_one}
use Rattle.catchup.proofs.One.{caught_up_one}
use Rattle.sheet.proofs.Promises.{one_outcome}
use Rattle.ring.proofs.Rule.{trial_one}
use Rattle.reply.proofs.Main.{replied_one}
use Rattle.logsheet.proofs.Main.{read_log_one, wrote_log_one}
use Rattle.recover.proofs.Main.{recovered_one}
use Rattle.job.proofs.Answering.{one_answer}
use Rattle.fliplist.proofs.Main.{flipped_one}
use Rattle.undoflips.proofs.Main.{undid_one}
use Rattle.logrecords.proofs.Main.{opened_one, next_one}
use Rattle.logreader.proofs.Main.{each_one}
use Rattle.logreader.proofs.Again.{asked_one, answered_one}
use Rattle.promises.specs.Choice.{NothingLeft}
use Rattle.promises.specs.Thinning.{DemandTwo, DemandThree}
use Rattle.promises.specs.Stages.{StagesLeft}
use Rattle.promises.proofs.Back.{led_leaves, as_done, restored, restored_from, replayed, thinned_leaves}
use Rattle.promises.proofs.Recovering.{as_recovery, as_stopped, whole_led, whole_many, front_led}
use Rattle.promises.proofs.Figures.{volume_promised, change_promised, shift_promised, printed_promised}

pub nothing_left : NothingLeft
nothing_left = record {
  thin = λ o p q. thinned_one p q;
  grow_back_lem = λ p q. grown_one p q;
  replay = λ p q. replay_one p q;
  volume = λ a b p q. volume_one a b p q;
  change = λ a b p q. change_one a b p q;
  shift = λ a b p q. shift_one a b p q;
  limit = λ l p q. reading_one l p q;
  shorter_ring_lem = λ p q. chosen_one p q;
  catch_up_lem = λ p q. caught_up_one p q;
  read_sheet_lem = λ b troom croom p q. let o = one_outcome b troom croom p q in (o.answer, o.table, o.corners);
  trial_number_lem = λ k a b p q. trial_one k a b p q;
  reply = λ p q. replied_one p q;
  write_log = λ p q. wrote_log_one p q;
  read_log = λ p q. read_log_one p q;
  each_record_lem = λ p q. each_one p q;
  recover = λ o p q. recovered_one p q;
  job = λ p q. one_answer p q;
  flip_list_lem = λ p q. flipped_one p q;
  undo_flips_lem = λ p q. undid_one p q;
  thin_plain = λ o p q. thinned_one p q;
  open_log = λ p q. opened_one p q;
  next_record_lem = λ p q. next_one p q;
  exact_sum_lem = λ a b p q. exact_sum_one a b p q;
  reader_at = λ p q. (p.0 ∙ sym q.0, p.1 ∙ sym q.1);
  reader = λ p q. asked_one p q;
  ask = λ p q. answered_one p q;
}

pub stages_left : StagesLeft
stages_left = record {
  thin = λ o w. thinned_leaves o (as_done w);
  replay = λ w d. let s = replay_leaves w d in record { many = s.0; stage = s.1 };
  grow_back_lem = λ w d. let s = grown_leaves w d in record { many = s.0; stage = s.1 };
  recover = λ o w. let r = as_recovery w in led_leaves (whole_led r) (whole_many r);
  recover_stopped = λ o w. let s = as_stopped w in led_leaves (front_led s) s.many;
}

pub demand_two : DemandTwo
demand_two = record {
  accepts = λ o u threes s h w. let k = accepted u threes s h w in (k.0, ap thinnings.told k.1);
  runs = λ o w. thinned_run (as_done w);
  keeps = λ o w p q e. thinned_kept w p q e;
  restores = λ o w g. restored o (as_done w) g;
  restores_from = λ o w p q e h g. restored_from w p q e h g;
  replays = λ o w g. replayed o (as_done w) g;
}

pub demand_three : DemandThree
demand_three = record {
  volumes_near = λ o w p h a r. volume_promised w p h a r;
  changes_near = λ o w p q h i a r. change_promised w p q h i a r;
  shifts_within = λ d read w p q e v b a r. shift_promised d read w p q e v b a r;
  printed_near = λ w s. printed_promised w s;
}
