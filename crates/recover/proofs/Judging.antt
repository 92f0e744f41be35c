-- From thinning's verdict and the cut sheet to recovery's outcome.
use mathlib.Core.Path.{◌≡◌, refl, sym, ◌∙◌, ap}
use mathlib.Core.List.{List}
use Prim.Native.Nat.{ℕ, ◌-◌, ◌*◌, ◌/◌, ◌≤◌}
use native.Mathlib.Omega.{arith}
use lib.IntN.{ℤ}
use lib.ListN.{length, take, drop, replicate, length-replicate}
use lib.Seq.{take_at}
use Rattle.std.specs.Prelude.{Ok, Err, Result, Option}
use Rattle.surface.specs.Limits.{least_corners, most_corners}
use Rattle.surface.specs.Rows.{rows}
use Rattle.slots.proofs.Slots.{whole_rows}
use Rattle.refusal.specs.declared.Refusal.{Refusal}
use Rattle.refusal.specs.First.{First}
use Rattle.refusal.proofs.Laws.{verdicts, rest_decides, passes_none, refused_before, all_nor, none_yet}
use Rattle.faults.specs.Counts.{corners}
use Rattle.record.specs.Layout.{width}
use Rattle.thin.specs.Order.{Asked}
use Rattle.thin.specs.Thin.{thin_refusals}
use Rattle.thin.specs.Inner.{Fair, JudgedThinning}
use Rattle.thin.proofs.Engaged.{thin_measured}
use Rattle.logcut.specs.Cut.{CutOf, cut_refusals}
use Rattle.logcut.specs.Inner.{CanKeep, KeptIn}
use Rattle.regrow.specs.declared.Halt.{Halt}
use Rattle.regrow.specs.declared.Halt.TheVariants.{Refused}
use Rattle.recover.specs.Outcome.{recover_refusals, RecoveredAs, refused, stopped, done}
use Rattle.recover.specs.Inner.{CanRecover, WentOnFrom, fails, goes_on}

-- numbers of the longest log that a sheet may hold, as the code has them
abbrev pub no_kept : List ℕ
no_kept = replicate ((most_corners - least_corners) * width) 0

-- what thinning refuses, recovery refuses
pub thin_refused : {a : Asked} {xs : List ℤ} {t : List ℕ} (l b : List ℕ) {r : Refusal} → JudgedThinning a xs t (length l) (Err r) → RecoveredAs a xs t l b (Err (Refused r)) t l
thin_refused {a} {xs} {t} l b {r} j = refused {e = r} (refused_before verdicts (thin_refusals a xs t (length l)) (cut_refusals b (corners xs) (length (rows t))) r j.holds) refl refl refl

-- what thinning passes, the cut sheet decides
pub cut_decides : (a : Asked) (xs : List ℤ) (t l b : List ℕ) → First (thin_refusals a xs t (length l)) (Ok tt) → (v : Result Unit Refusal) → First (cut_refusals b (corners xs) (length (rows t))) v →
    First (recover_refusals a xs t (length l) b) v
cut_decides a xs t l b f v c = rest_decides verdicts (all_nor ((passes_none verdicts (thin_refusals a xs t (length l))).0 f) none_yet) v c

module _ {a : Asked} {xs : List ℤ} {t : List ℕ} (l b : List ℕ) (j : JudgedThinning a xs t (length l) (Ok tt)) where
  row_count : length t / 3 ≡ length (rows t)
  row_count = let h = whole_rows t (j.fits refl).table.threes in omega arith

  decides : (v : Result Unit Refusal) → First (cut_refusals b (corners xs) (length t / 3)) v → First (recover_refusals a xs t (length l) b) v
  decides v f = cut_decides a xs t l b j.holds v (rw (sym row_count) f)

  pub can_keep : CanKeep (corners xs) (length t / 3) no_kept
  can_keep =
      let f = j.fits refl in
      let r = row_count in
      record {
        counts = record { few = f.coordinates.count.few; many = f.coordinates.count.many; least = let h = f.table.count.least in omega arith; most = let h = f.table.count.most in omega arith; fewer = omega arith };
        enough = omega (arith, length-replicate {A = ℕ} ((most_corners - least_corners) * width) 0);
      }

  pub cut_refused : {r : Refusal} → First (cut_refusals b (corners xs) (length t / 3)) (Err r) → RecoveredAs a xs t l b (Err (Refused r)) t l
  cut_refused {r} f = refused {e = r} (decides (Err r) f) refl refl refl

  module _ {k : ℕ} {room room' : List ℕ} (c : KeptIn b (corners xs) (length t / 3) room k room') where
    numbers : length c.log ≡ k * width
    numbers = let w = c.cut.sheet.whole in let e = c.counted in omega arith

    pub few_kept : k ≤ most_corners - least_corners
    few_kept = let f = c.few in let g = (j.fits refl).coordinates.count.many in omega arith

    log_is : take (k * width) room' ≡ c.log
    log_is = ap (take (k * width)) c.put ∙ take_at c.log (drop (length c.log) room) (k * width) numbers

    pub can_recover : {bound : Option ℕ} → a ≡ Ok bound → Fair a → CanRecover bound xs t (take (k * width) room') l
    can_recover {bound} e fair = rw log_is (record {
      threes = (j.fits refl).table.threes;
      skin = j.skin refl;
      whole = c.cut.sheet.whole;
      few = let n = c.counted in let f = c.few in omega arith;
      room = j.room_enough refl;
      measurable = thin_measured a xs t (length l) j bound e fair;
    })

    pub recovered : {bound : Option ℕ} → a ≡ Ok bound → {r : Result (ℕ × ℕ) Halt} {t' l' : List ℕ} → WentOnFrom bound xs t (take (k * width) room') l r t' l' → RecoveredAs a xs t l b r t' l'
    recovered {bound} e {r} {t'} {l'} w = go (rw log_is at w)
      where
        cut : CutOf b (corners xs) (length (rows t)) c.log
        cut = rw row_count at c.cut

        go : WentOnFrom bound xs t c.log l r t' l' → RecoveredAs a xs t l b r t' l'
        go (fails f er et el) = stopped (decides (Ok tt) c.passes) (j.skin refl) cut f er et el
        go (goes_on f q er et el) = done (decides (Ok tt) c.passes) (j.skin refl) cut f e q er et el
