-- Log sheets: what was written reads back, the log of a thinning can be mailed, and demands 2 and 3 hold of what was mailed.
use mathlib.Core.Path.{◌≡◌, refl, sym, ◌∙◌, ap, subst}
use mathlib.Core.List.{List, [], ◌∷◌, ◌++◌}
use Prim.Native.Nat.{ℕ, ◌+◌, ◌-◌, ◌≤◌}
use native.Mathlib.Omega.{arith}
use lib.IntN.{ℤ, pos, nat_abs}
use lib.ListN.{length, length-append, get_or, take, drop}
use lib.Seq.{take_at}
use Rattle.std.specs.Prelude.{Result, Ok, Err}
use Rattle.surface.specs.Rows.{Row, rows}
use Rattle.surface.specs.Stage.{Stage}
use Rattle.surface.specs.Record.{Record, Replayed}
use Rattle.surface.proofs.Main.{four_used}
use Rattle.engine.proofs.Whole.{used_most}
use Rattle.refusal.specs.declared.Refusal.{Refusal}
use Rattle.refusal.specs.Told as answers
use Rattle.refusal.specs.First.{First}
use Rattle.refusal.proofs.Laws.{verdicts, first_one, refused_passes, passed, passes_none, none_yet, ◌nor◌}
use Rattle.refusal.proofs.Outcome.{refused_done}
use Rattle.faults.specs.Counts.{corners}
use Rattle.run.proofs.Main.{taken_replayed}
use Rattle.record.specs.Layout.{count, records, log_of, room_for}
use Rattle.record.proofs.Log.{log_length}
use Rattle.thin.specs.Order.{Asked}
use Rattle.thin.specs.Run.{RunOf}
use Rattle.thin.proofs.Main.{thinned_kept, replayed_kept}
use Rattle.tell.specs.Answer as texts
use Rattle.reply.proofs.Most.{log_few}
use Rattle.heading.specs.Heading.{first_line_lem}
use Rattle.logform.specs.LogSheet.{LOG, most_log_bytes, log_text, LogSheetOf}
use Rattle.logform.proofs.Forming.{its_line, one_log, only_log_sheet}
use Rattle.logsheet.specs.declared.LogCounts.{LogCounts}
use Rattle.logsheet.specs.Answer as logs
use Rattle.logsheet.specs.Outcome.{ReadLogSheet, refused, read, write_refusals, Writable, WroteLogSheet, unwritten, wrote}
use Rattle.logsheet.proofs.Main.{its_log_sheet, log_size, written_reads}
use Rattle.heading.specs.declared.Heading.{Heading}
use Rattle.logrecords.specs.Answer.{told_opened}
use Rattle.logrecords.specs.Outcome.{open_refusals, OpenedLog, unopened, opened}
use Rattle.logrecords.specs.Walk.{Walked}
use Rattle.logrecords.proofs.Main.{opened_one}
use Rattle.logrecords.proofs.Walking.{walked_through, broken_off}
use Rattle.logreader.specs.Outcome as asking
use Rattle.logreader.specs.Outcome.{each_refusals, EachRecord}
use Rattle.logreader.proofs.Main.{open_passes, each_as_read, reader_through, reader_breaks}
use Rattle.promises.specs.Mailing.{Mailed, LogSheets}
use Rattle.promises.proofs.Back.{Led, restored, restored_from, replayed, run_led, leads_rest, as_done}
use Rattle.promises.proofs.Figures.{shift_promised}
use Rattle.promises.proofs.Logged.{front_log, rest_log}

-- ---- what is told, and what was written or read

-- the value at place i of what is told
abbrev told_at : ℕ → answers.Told → ℕ
told_at i v = nat_abs (get_or v.values i (pos 0))

pub wrote_told : (a : Result ℕ Refusal) {j : ℕ} → texts.told a ≡ answers.done (pos j ∷ []) → a ≡ Ok j
wrote_told (Ok k) e = ap Ok (ap (told_at 0) e)
wrote_told (Err r) e = absurd (refused_done r e)

read_told : (a : Result LogCounts Refusal) {n m k : ℕ} → logs.told a ≡ answers.done (pos n ∷ pos m ∷ pos k ∷ []) → a ≡ Ok (record { corners = n; rows = m; records = k })
read_told (Ok c) e = λ i. Ok (record { corners = told_at 0 (e i); rows = told_at 1 (e i); records = told_at 2 (e i) })
read_told (Err r) e = absurd (refused_done r e)

-- the bytes that were written are the log sheet of the counts and the log
pub written_sheet : {n m j : ℕ} {log txt txt' : List ℕ} → WroteLogSheet n m log txt txt' (Ok j) → LogSheetOf (take j txt') n m log
written_sheet (unwritten f e p) = let z : ◌≡◌ {A = ℕ} 0 1 = cc in absurd (omega arith)
written_sheet {n} {m} {j} {log} {txt} {txt'} (wrote f w e p) = rw same (its_log_sheet w)
  where
    long : j ≡ length (log_text n m log)
    long = cc

    same : take j txt' ≡ log_text n m log
    same = ap (take j) p ∙ take_at (log_text n m log) (drop (length (log_text n m log)) txt) j (sym long)

-- which could be written
pub written_can : {n m j : ℕ} {log txt txt' : List ℕ} → WroteLogSheet n m log txt txt' (Ok j) → Writable n m log
written_can (unwritten f e p) = let z : ◌≡◌ {A = ℕ} 0 1 = cc in absurd (omega arith)
written_can (wrote f w e p) = w

-- and have the size of one
pub written_size : {n m j : ℕ} {log txt txt' : List ℕ} → WroteLogSheet n m log txt txt' (Ok j) → length (take j txt') ≤ most_log_bytes
written_size (unwritten f e p) = let z : ◌≡◌ {A = ℕ} 0 1 = cc in absurd (omega arith)
written_size {n} {m} {j} {log} {txt} {txt'} (wrote f w e p) =
    let same : take j txt' ≡ log_text n m log = (written_sheet {txt = txt} (wrote f w e p)).text in rw same (log_size w)

-- a sheet that was read has the counts told, and its log stands in the room
record HasRead (b room' : List ℕ) (n m k : ℕ) : Type 0 where
  log : List ℕ
  sheet : LogSheetOf b n m log
  many : k ≡ count log
  stands : take (room_for k) room' ≡ log

-- from the answer, the sheet and what is left
held : (room : List ℕ) {b room' : List ℕ} {n m k x y : ℕ} {log : List ℕ} (a : Result LogCounts Refusal) → LogSheetOf b x y log → a ≡ Ok (record { corners = x; rows = y; records = count log }) → room' ≡ log ++ drop (length log) room →
    logs.told a ≡ answers.done (pos n ∷ pos m ∷ pos k ∷ []) → HasRead b room' n m k
held room {b} {room'} {n} {m} {k} {x} {y} {log} a s e p t =
    let g = sym (ap logs.told e) ∙ t in
    let hx : x ≡ n = ap (told_at 0) g in
    let hy : y ≡ m = ap (told_at 1) g in
    let hk : k ≡ count log = sym (ap (told_at 2) g) in
    let w = s.whole in
    record {
      log = log;
      sheet = subst (λ v. LogSheetOf b v m log) hx (subst (λ v. LogSheetOf b x v log) hy s);
      many = hk;
      stands = ap (take (room_for k)) p ∙ take_at log (drop (length log) room) (room_for k) (omega (arith, hk, w));
    }

has_read : {b room room' : List ℕ} {n m k : ℕ} {a : Result LogCounts Refusal} → ReadLogSheet b room room' a → logs.told a ≡ answers.done (pos n ∷ pos m ∷ pos k ∷ []) → HasRead b room' n m k
has_read (refused {r = r} f e p) t = absurd (refused_done r (sym (ap logs.told e) ∙ t))
has_read {room = room} {a = a} (read f s e p) t = held room a s e p t

has_each : {b room room' : List ℕ} {n m k : ℕ} {a : Result LogCounts Refusal} → EachRecord b room room' a → logs.told a ≡ answers.done (pos n ∷ pos m ∷ pos k ∷ []) → HasRead b room' n m k
has_each (asking.unread {r = r} f e p) t = absurd (refused_done r (sym (ap logs.told e) ∙ t))
has_each {room = room} {a = a} (asking.each f s e p) t = held room a s e p t

-- what was mailed is the same log, with the same counts
mailed_same : {n m : ℕ} {log log' : List ℕ} (w : Mailed n m log log') → (w.n' ≡ n) × (w.m' ≡ m) × (log' ≡ log)
mailed_same {n} {m} {log} w =
    let s = written_sheet (subst (λ a. WroteLogSheet n m log w.text w.text' a) (wrote_told w.written w.writes) w.wrote) in
    let h = has_read w.read w.tells in
    let o = one_log h.sheet s in
    (o.corners, o.rows, w.log_is ∙ h.stands ∙ o.numbers)

written_back : {n m j : ℕ} {log txt txt' : List ℕ} {a : Result ℕ Refusal} → WroteLogSheet n m log txt txt' a → texts.told a ≡ answers.done (pos j ∷ []) →
    {room room' : List ℕ} {z : Result LogCounts Refusal} → length log ≤ length room → ReadLogSheet (take j txt') room room' z →
    (logs.told z ≡ answers.done (pos n ∷ pos m ∷ pos (count log) ∷ [])) × (room' ≡ log ++ drop (length log) room)
written_back {n} {m} {log = log} {txt} {txt'} {a} w tells fits r =
    let o = written_reads (subst (λ x. WroteLogSheet n m log txt txt' x) (wrote_told a tells) w) fits r in
    (ap logs.told o.0, o.1)

-- ---- the log of a thinning can be mailed

-- what can be written is written where as many bytes are lent as a log sheet may have
pub can_write : {n m : ℕ} {log txt txt' : List ℕ} {a : Result ℕ Refusal} → Writable n m log → most_log_bytes ≤ length txt → WroteLogSheet n m log txt txt' a → (j : ℕ) × (texts.told a ≡ answers.done (pos j ∷ []))
unfolding write_refusals
can_write w h (unwritten f g same) = refused_passes (first_one verdicts _ f ((passes_none verdicts _).1 ((λ no. no w) nor (λ short. omega (arith, log_size w, short, h)) nor none_yet)))
can_write {n} {m} {log} w h (wrote f v g same) = (length (log_text n m log), ap texts.told g)

-- records that lead from a skin on
module _ {n : ℕ} {t : List ℕ} {m : List Record} {last : List Row} {t' : List ℕ} (w : Led n t m last t') where
  -- no more than the corners but four: a stage uses four
  pub fewer : length m ≤ n - 4
  fewer =
      let kept = replayed_kept w.first w.leads in
      let f = four_used n last kept.stage kept.used_after in
      let h = used_most w.first kept.used_before in
      omega (arith, f, h)

  -- a part of them, from one of their stages to another
  pub part_writable : {T T' : List Row} (p : List Record) → Stage n T → Replayed T p T' → length p ≤ length m → Writable n (length (rows t)) (log_of p)
  part_writable p stage leads few =
      let s = w.first in
      let a = log_length p in
      record {
        whole = omega arith;
        counts = record { few = s.few; many = s.many; least = s.least; most = s.most; fewer = omega (arith, fewer, few, a) };
        short = log_few stage leads;
      }

module _ {d : Asked} {xs : List ℤ} {t l : List ℕ} {k : ℕ} {t' l' : List ℕ} (w : RunOf d xs t l k t' l') (p q : List Record) (e : w.log ≡ p ++ q) where
  both : length w.log ≡ length p + length q
  both = ap length e ∙ length-append p q

  front_writable : Writable (corners xs) (length (rows t)) (take (room_for (length p)) l')
  front_writable = rw (front_log w p q e) (part_writable (run_led w) p w.skin.stage (taken_replayed (thinned_kept w p q e).1) (omega (arith, both)))

  rest_writable : Writable (corners xs) (length (rows t)) (drop (room_for (length p)) (take (room_for k) l'))
  rest_writable =
      let h = thinned_kept w p q e in
      rw (rest_log w p q e) (part_writable (run_led w) q h.2.stage (leads_rest (run_led w) p q e (taken_replayed h.1)) (omega (arith, both)))

-- ---- one by one

-- a sheet that is opened with some counts
opens_at : {b : List ℕ} {n m : ℕ} {log : List ℕ} {c : Result Heading Refusal} → First (open_refusals b) (Ok tt) → LogSheetOf b n m log → OpenedLog b c → c ≡ Ok (record { corners = n; rows = m; after = record { at = length (first_line_lem LOG n m) } })
opens_at f s o = opened_one o (opened f (record { rest = _; line = its_line s }) refl)

-- what passes the reading record by record is opened
each_opens : (b : List ℕ) (room : ℕ) → First (each_refusals b room) (Ok tt) → First (open_refusals b) (Ok tt)
unfolding each_refusals open_refusals
each_opens b room f =
    let a = passed verdicts _ _ f in
    let c = passed verdicts _ _ a.1 in
    let d = passed verdicts _ _ c.1 in
    (passes_none verdicts _).1 (a.0 nor c.0 nor d.0 nor none_yet)

walks_each : {n m k : ℕ} {b room room' : List ℕ} {a : Result LogCounts Refusal} {c : Result Heading Refusal} → EachRecord b room room' a → logs.told a ≡ answers.done (pos n ∷ pos m ∷ pos k ∷ []) → OpenedLog b c →
    (at : ℕ) × (told_opened c ≡ answers.done (pos n ∷ pos m ∷ pos at ∷ [])) × Walked b at (records (take (room_for k) room'))
walks_each (asking.unread {r = r} f e p) t o = absurd (refused_done r (sym (ap logs.told e) ∙ t))
walks_each {n} {m} {k} {b} {room} {room'} (asking.each f s e p) t o =
    let h = has_each (asking.each f s e p) t in
    (length (first_line_lem LOG n m), ap told_opened (opens_at (each_opens b (length room) f) h.sheet o), rw h.stands (walked_through h.sheet))

walks : {n m k : ℕ} {b room room' : List ℕ} {a : Result LogCounts Refusal} {c : Result Heading Refusal} → ReadLogSheet b room room' a → logs.told a ≡ answers.done (pos n ∷ pos m ∷ pos k ∷ []) → OpenedLog b c →
    (at : ℕ) × (told_opened c ≡ answers.done (pos n ∷ pos m ∷ pos at ∷ [])) × Walked b at (records (take (room_for k) room'))
walks (refused {r = r} f e p) t o = absurd (refused_done r (sym (ap logs.told e) ∙ t))
walks {n} {m} {k} {b} {room} {room'} (read f s e p) t o =
    let h = has_read (read f s e p) t in
    (length (first_line_lem LOG n m), ap told_opened (opens_at (open_passes h.sheet (length room) f) h.sheet o), rw h.stands (walked_through h.sheet))

-- the place after the first line
opened_place : {b : List ℕ} {n m at : ℕ} {c : Result Heading Refusal} → OpenedLog b c → told_opened c ≡ answers.done (pos n ∷ pos m ∷ pos at ∷ []) → at ≡ length (first_line_lem LOG n m)
opened_place (unopened {r = r} f e) t = absurd (refused_done r (sym (ap told_opened e) ∙ t))
opened_place (opened {n = x} {m = y} f s e) t =
    let g = sym (ap told_opened e) ∙ t in
    let hx = ap (told_at 0) g in
    let hy = ap (told_at 1) g in
    sym (ap (told_at 2) g) ∙ (λ i. length (first_line_lem LOG (hx i) (hy i)))

-- record by record
each_too : {b room room₁ room₂ : List ℕ} {n m k : ℕ} {a z : Result LogCounts Refusal} → ReadLogSheet b room room₁ a → logs.told a ≡ answers.done (pos n ∷ pos m ∷ pos k ∷ []) → EachRecord b room room₂ z →
    (logs.told z ≡ answers.done (pos n ∷ pos m ∷ pos k ∷ [])) × (room₂ ≡ room₁)
each_too {b} {room} {room₁} {a = a} r t x = let o = each_as_read (subst (λ y. ReadLogSheet b room room₁ y) (read_told a t) r) x in (ap logs.told o.0, o.1)

pub log_sheets : LogSheets
log_sheets = record {
  reads_back = λ w t h r. written_back w t h r;
  same = λ w. mailed_same w;
  only = λ {n} {m} {k} {b} {c} p q s t e.
      let h = has_read p s in
      let g = has_read q t in
      only_log_sheet h.sheet (subst (λ log. LogSheetOf c n m log) (sym g.stands ∙ sym e ∙ h.stands) g.sheet);
  only_each = λ {n} {m} {k} {b} {c} p q s t e.
      let h = has_each p s in
      let g = has_each q t in
      only_log_sheet h.sheet (subst (λ log. LogSheetOf c n m log) (sym g.stands ∙ sym e ∙ h.stands) g.sheet);
  writes = λ o w p q e h g. can_write (front_writable w p q e) h g;
  writes_from = λ o w p q e h g. can_write (rest_writable w p q e) h g;
  one_by_one = λ r t o. walks r t o;
  one_by_one_each = λ r t o. walks_each r t o;
  by_reader = λ r w t o g. let h = has_each w t in rw h.stands (reader_through r h.sheet (opened_place o g));
  each = λ r t x. each_too r t x;
  breaks_off = λ w o t. rw (opened_place o t) (broken_off w);
  reader_breaks_off = λ r w o t. reader_breaks r w (opened_place o t);
  restores = λ o w m g. restored o (as_done w) (rw (mailed_same m).2 at g);
  restores_from = λ o w p q e h m g. restored_from w p q e h (rw (mailed_same m).2 at g);
  replays = λ o w m g. replayed o (as_done w) (rw (mailed_same m).2 at g);
  shifts_within = λ d read w p q e m v b a r. shift_promised d read w p q e v b a (rw (mailed_same m).2 at r);
}
