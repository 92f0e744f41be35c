-- The engine on a whole table from no record: what it is asked for, and what it leaves.
use mathlib.Core.Path.{◌≡◌, sym, ◌∙◌, ap}
use mathlib.Core.List.{List, [], ◌++◌, append-nil}
use Prim.Native.Nat.{ℕ, ◌-◌, ◌*◌, ◌/◌, ◌%◌, ◌≤◌}
use native.Mathlib.Omega.{arith}
use lib.ListN.{length, drop, replicate}
use lib.Seq.{take_all, drop-length}
use Rattle.surface.specs.Limits.{least_corners}
use Rattle.surface.specs.Lists.{Exactly}
use Rattle.surface.specs.Rows.{Row, rows, flat}
use Rattle.surface.specs.Table.{Used}
use Rattle.surface.specs.Stage.{Stage}
use Rattle.surface.specs.Record.{Record}
use Rattle.surface.proofs.Count.{fits}
use Rattle.surface.proofs.Round.{upto, every_upto}
use Rattle.surface.proofs.Stepped.{upto_length}
use Rattle.slots.proofs.Slots.{whole_rows}
use Rattle.run.specs.Run.{Run}
use Rattle.record.specs.Layout.{width, log_of, room_for}
use Rattle.record.specs.Front.{front_rows, zeroed}
use Rattle.going.specs.Going.{CanGoOn, WentOn}

-- no more corners are used than there are
pub used_most : {n v : ℕ} {T : List Row} → Stage n T → Exactly (Used T) v → v ≤ n
used_most {n} s c =
    let h = fits c.distinct (upto n) (λ u m. every_upto n u (s.below (c.only m).1.1)) in
    let e = c.count in
    let k = upto_length n in
    omega arith

-- the run from a whole table: its last stage in front and zeros in the rest, its records in front of the log and the rest as it was
pub record Went (P : ℕ → ℕ → Type 0) (t l : List ℕ) (k : ℕ) (t' l' : List ℕ) : Type 0 where
  pub log : List Record
  pub last : List Row
  pub run : Run P (rows t) log last
  pub count : k ≡ length log
  pub table : t' ≡ zeroed last t
  pub logged : l' ≡ log_of log ++ drop (room_for (length log)) l

module _ (t : List ℕ) (threes : length t % 3 ≡ 0) where
  whole : 3 * (length t / 3) ≡ length t
  whole = omega arith

  all : front_rows (length t / 3) t ≡ t
  all = take_all (3 * (length t / 3)) t (omega (arith, whole))

  -- a record for each corner but four suffices
  pub ready : {n : ℕ} → Stage n (rows t) → (l : List ℕ) → room_for (n - least_corners) ≤ length l → CanGoOn n t (length t / 3) l 0
  ready s l room = record {
    inside = omega (arith, whole);
    table = rw all (record { count = sym (whole_rows t threes); stage = s });
    stand = omega arith;
    room = λ v c. let h = used_most s (rw all at c) in let f = s.few in omega arith;
  }

  pub went : {P : ℕ → ℕ → Type 0} {l : List ℕ} {k : ℕ} {t' l' : List ℕ} → WentOn P t (length t / 3) l 0 k t' l' → Went P t l k t' l'
  went {l = l} {k} w = record {
    log = w.log;
    last = w.last;
    run = rw all at w.run;
    count = count;
    table = w.table ∙ (λ i. flat w.last ++ (replicate (whole i - length (flat w.last)) 0 ++ rest i)) ∙ ap (λ q. flat w.last ++ q) (append-nil (replicate (length t - length (flat w.last)) 0));
    logged = w.logged ∙ ap (λ m. log_of w.log ++ drop (width * m) l) count;
  }
    where
      count : k ≡ length w.log
      count = let c = w.count in omega arith

      rest : drop (3 * (length t / 3)) t ≡ []
      rest = ap (λ m. drop m t) whole ∙ drop-length t
