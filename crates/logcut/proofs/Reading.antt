-- Reading a cut log sheet: why each answer is the first that holds.
use mathlib.Core.Path.{◌≡◌, refl}
use mathlib.Core.Logic.{inl, inr}
use mathlib.Core.List.{List}
use Rattle.std.specs.Prelude.{Ok, Err}
use Prim.Native.Nat.{ℕ, ◌-◌, ◌≤◌, ◌<◌}
use native.Mathlib.Omega.{arith}
use lib.ListN.{length, take}
use lib.Seq.{length-take-le}
use Rattle.surface.specs.Limits.{least_corners}
use Rattle.refusal.specs.First.{FirstOf, First}
use Rattle.refusal.specs.declared.Refusal.{Refusal}
use Rattle.refusal.specs.declared.Refusal.TheVariants.{CountsOutside, SheetForm}
use Rattle.refusal.proofs.Laws.{verdicts, given_first, passed, refused_one, refused_passes, none_yet, ◌nor◌}
use Rattle.record.specs.Layout.{count}
use Rattle.logform.specs.LogSheet.{most_log_bytes, LogSheetOf, NoLogSheet}
use Rattle.logsheet.specs.declared.LogCounts.{LogCounts}
use Rattle.logsheet.specs.Outcome.{CountsOut, NoRoom, read_refusals, ReadLogSheet, refused, read}
use Rattle.logcut.specs.Cut.{NoCut, cut_refusals}
use Rattle.logcut.specs.Inner.{WholeEnd, CanKeep, KeptIn}
use Rattle.logcut.proofs.Ending.{cut_there, cut_back, cut_passes}

pub cut_long : (b : List ℕ) (n m : ℕ) → most_log_bytes < length b → First (cut_refusals b n m) (Err SheetForm)
unfolding cut_refusals
cut_long b n m h = given_first verdicts none_yet h

module _ {b : List ℕ} {n m k : ℕ} {room : List ℕ} (size : length b ≤ most_log_bytes) (w : WholeEnd b k) (c : CanKeep n m room) where
  fits : ¬ (most_log_bytes < length b)
  fits h = omega arith

  whole_fits : ¬ (most_log_bytes < length (take k b))
  whole_fits h = omega (arith, length-take-le k b w.none_after.inside, w.none_after.inside)

  no_cut : NoLogSheet (take k b) → First (cut_refusals b n m) (Err SheetForm)
  unfolding cut_refusals
  no_cut none = given_first verdicts (fits nor none_yet) (λ n' m' log u. none n' m' log (cut_back w u))

  module _ {n' m' : ℕ} {log : List ℕ} (s : LogSheetOf (take k b) n' m' log) where
    there : ¬ NoCut b
    there none = none n' m' log (cut_there w s)

    -- counts that are not the skin's
    pub cut_other : ¬ ((n' ≡ n) × (m' ≡ m) × (count log ≤ n - least_corners)) → First (cut_refusals b n m) (Err CountsOutside)
    unfolding cut_refusals
    cut_other h = given_first verdicts (fits nor there nor none_yet) (record { n' = n'; m' = m'; log = log; cut = cut_there w s; other = h })

  -- what a log sheet's reader refuses the whole lines for, the skin refuses
  counts_other : CountsOut (take k b) → First (cut_refusals b n m) (Err CountsOutside)
  counts_other o = cut_other o.sheet (λ e.
      let d = c.counts in
      o.out (record { few = rw e.0 d.few; many = rw e.0 d.many; least = rw e.1 d.least; most = rw e.1 d.most; fewer = rw e.0 e.2 }))

  -- whatever a sheet's counts allow fits the room
  room_there : ¬ CountsOut (take k b) → ¬ NoRoom (take k b) (length room)
  room_there n3 o = n3 (record {
    n = o.n;
    m = o.m;
    log = o.log;
    sheet = o.sheet;
    out = λ d. let e = d.many in let f = d.fewer in let g = o.short in let h = o.sheet.whole in let i = c.enough in omega arith;
  })

  refused_lines : (e : Refusal) → First (read_refusals (take k b) (length room)) (Err e) → First (cut_refusals b n m) (Err e)
  unfolding read_refusals FirstOf
  refused_lines e (inl (h, q)) = absurd (whole_fits h)
  refused_lines e (inr (n1, inl (h, q))) = rw (refused_one q) (no_cut h)
  refused_lines e (inr (n1, inr (n2, inl (h, q)))) = rw (refused_one q) (counts_other h)
  refused_lines e (inr (n1, inr (n2, inr (n3, inl (h, q))))) = absurd (room_there n3 h)
  refused_lines e (inr (n1, inr (n2, inr (n3, inr (n4, q))))) = refused_passes q

  pub cut_refused : {room' : List ℕ} {r : Refusal} → ReadLogSheet (take k b) room room' (Err r) → First (cut_refusals b n m) (Err r)
  cut_refused {r = r} (refused {r = e} f ea er) = let h : r ≡ e = cc in rw h (refused_lines e f)
  cut_refused (read f s ea er) = let z : ◌≡◌ {A = ℕ} 0 1 = cc in absurd (omega arith)

  pub cut_counts : {room' : List ℕ} {r : LogCounts} → ReadLogSheet (take k b) room room' (Ok r) → ¬ ((r.corners ≡ n) × (r.rows ≡ m)) → First (cut_refusals b n m) (Err CountsOutside)
  cut_counts (refused f ea er) h = let z : ◌≡◌ {A = ℕ} 0 1 = cc in absurd (omega arith)
  cut_counts {r = r} (read {n = n'} {m = m'} {log = log} f s ea er) h =
      let e : r ≡ record { corners = n'; rows = m'; records = count log } = cc in
      cut_other s (λ q. h (rw e (q.0, q.1)))

  -- what the reader passes has no more records than its corners allow
  few_kept : {n' m' : ℕ} {log : List ℕ} → First (read_refusals (take k b) (length room)) (Ok tt) → LogSheetOf (take k b) n' m' log → count log ≤ n' - least_corners
  unfolding read_refusals
  few_kept {n'} {m'} {log} f s =
      let out = (passed verdicts _ _ (passed verdicts _ _ (passed verdicts _ _ f).1).1).0 in
      let h : ¬ (n' - least_corners < count log) = λ h. out (record { n = n'; m = m'; log = log; sheet = s; out = λ d. let e = d.fewer in omega arith }) in
      omega arith

  pub cut_kept : {room' : List ℕ} {r : LogCounts} → ReadLogSheet (take k b) room room' (Ok r) → r.corners ≡ n → r.rows ≡ m → KeptIn b n m room r.records room'
  cut_kept (refused f ea er) en em = let z : ◌≡◌ {A = ℕ} 0 1 = cc in absurd (omega arith)
  cut_kept {r = r} (read {n = n'} {m = m'} {log = log} f s ea er) en em =
      let e : r ≡ record { corners = n'; rows = m'; records = count log } = cc in
      let e1 : n' ≡ n = rw e at en in
      let e2 : m' ≡ m = rw e at em in
      let e3 : r.records ≡ count log = rw e refl in
      let few : count log ≤ n - least_corners = rw e1 at (few_kept f s) in
      let cut = rw (e1, e2) at (cut_there w s) in
      record { passes = cut_passes cut size few; log = log; cut = cut; counted = e3; few = rw e3 few; put = er }
