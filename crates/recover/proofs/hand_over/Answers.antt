-- `hand_over` meets its contract: the records done are the first of those kept.
use Rattle.std.proofs.Common.{◌≡◌, ℕ, ◌≤◌, List, ◌++◌, length, take, drop, sym, ◌∙◌, ap, rules, arith}
use Rattle.std.proofs.lemmas.List.{length-take-le}
use Rattle.std.proofs.lemmas.List.Edits.{sets}
use Rattle.lines.proofs.Turns.{in_front}
use Rattle.recover.proofs.Handing.{numbers_kept, numbers_fit, handed_over}
use Rattle.recover.proofs.hand_over.Goals as goal

module _ (kept log : List ℕ) (end : ℕ) (h : end ≤ length kept) (fit : length (take end kept) ≤ length log) where
  count : length (take end kept) ≡ end
  count = length-take-le end kept h

  inside : end ≤ length log
  inside = let n = count in omega arith

  place : length (take end log) ≡ end
  place = length-take-le end log inside

  put : (new : List ℕ) → new ≡ take end kept → new ++ drop end log ≡ sets log 0 (take end kept)
  put new e = ap (λ xs. xs ++ drop end log) e ∙ ap (λ (k : ℕ). take end kept ++ drop k log) (sym count) ∙ sym (in_front log (take end kept) fit)

pub overflow_mul-end : goal.overflow_mul-end
overflow_mul-end c = let h = numbers_kept c.requires c.replay_log-followed.ensures.reached c.done_in-end.result c.done_in-end.ensures in search rules

pub slice_bounds-copy_from_slice-end : goal.slice_bounds-copy_from_slice-end
slice_bounds-copy_from_slice-end c =
    inside c.args.kept.now c.args.log.now _ (numbers_kept c.requires c.replay_log-followed.ensures.reached c.done_in-end.result c.done_in-end.ensures) (numbers_fit c.requires c.replay_log-followed.ensures.reached c.done_in-end.result c.done_in-end.ensures)

pub slice_bounds-copy_from_slice-end-2 : goal.slice_bounds-copy_from_slice-end-2
slice_bounds-copy_from_slice-end-2 c =
    sym (place c.args.kept.now c.args.log.now _ (numbers_kept c.requires c.replay_log-followed.ensures.reached c.done_in-end.result c.done_in-end.ensures) (numbers_fit c.requires c.replay_log-followed.ensures.reached c.done_in-end.result c.done_in-end.ensures))

pub slice_bounds-copy_from_slice-end-3 : goal.slice_bounds-copy_from_slice-end-3
slice_bounds-copy_from_slice-end-3 c =
    sym (length-take-le _ c.args.kept.now (numbers_kept c.requires c.replay_log-followed.ensures.reached c.done_in-end.result c.done_in-end.ensures))

pub copy_from_slice-requires : goal.copy_from_slice-requires
copy_from_slice-requires c =
    let h = numbers_kept c.requires c.replay_log-followed.ensures.reached c.done_in-end.result c.done_in-end.ensures in
    let fit = numbers_fit c.requires c.replay_log-followed.ensures.reached c.done_in-end.result c.done_in-end.ensures in
    place c.args.kept.now c.args.log.now _ h fit ∙ sym (length-take-le _ c.args.kept.now h)

pub returns : goal.returns
returns c =
    let replayed = c.replay_log-followed.ensures in
    let h = numbers_kept c.requires replayed.reached c.done_in-end.result c.done_in-end.ensures in
    let fit = numbers_fit c.requires replayed.reached c.done_in-end.result c.done_in-end.ensures in
    handed_over c.requires replayed.reached c.done_in-end.result c.done_in-end.ensures replayed.left (put c.args.kept.now c.args.log.now _ h fit _ c.copy_from_slice.ensures.after)
