-- A corner opened, tried out, and finished.
use mathlib.Core.Path.{◌≡◌, refl, sym, ◌∙◌}
use mathlib.Core.Logic.{◌≢◌, ◌⊎◌, inl, inr}
use mathlib.Core.List.{List, [], ◌∷◌, ◌++◌}
use Prim.Native.Nat.{ℕ, ◌+◌, ◌-◌, ◌*◌, ◌≤◌, ◌<◌}
use native.Mathlib.Decide.{ℕ_discrete}
use native.Mathlib.Numerals.{add-one}
use native.Mathlib.Omega.{arith}
use lib.ListN.{length, get_or, set, length-set}
use lib.Seq.{sets, get_or-set_same, get_or-set_other}
use Rattle.follow.specs.Leads.{no_step, one_step}
use Rattle.follow.proofs.Leading.{leads_on}
use Rattle.surface.specs.Limits.{most_corners}
use Rattle.surface.specs.Lists.{◌∈◌}
use Rattle.surface.specs.Table.{Edge}
use Rattle.surface.specs.Record as surface
use Rattle.record.specs.Layout.{width, numbers, room_for}
use Rattle.neighbours.specs.Around.{Neighbours}
use Rattle.spots.specs.InnerHeld.{held_rows}
use Rattle.waiting.specs.InnerWaiting.{Member, waiters}
use Rattle.waiting.proofs.Waiters.{waiters_most}
use Rattle.around.specs.InnerRing.{RingOf, next_to}
use Rattle.around.specs.InnerMeeting.{Met}
use Rattle.around.proofs.Nears.{ring_neighbours, ring_listed}
use Rattle.trapped.specs.Trapped.{NextAt}
use Rattle.trapped.specs.ByCorner.{not_begun, next_corner}
use Rattle.quick.specs.InnerGround.{gone_mark, MarksHold, BeforeCorner}
use Rattle.quick.specs.InnerRound.{AtOpenCorner, Progress, Tried, CornerDone, AllDone}
use Rattle.quick.proofs.Logging.{logged_none, logged_one, logged_on}
use Rattle.quick.proofs.Grounds.{stage, ground_inside, ground_marked}

-- no step, one step, and steps after steps
pub progress_none : (u : ℕ) (h l : List ℕ) (d : ℕ) → room_for d ≤ length l → Progress u h l d d h l
progress_none u h l d r = record { log = []; steps = no_step refl; logged = logged_none l d r }

pub progress_one : (u : ℕ) (h l : List ℕ) (d : ℕ) (h' l' : List ℕ) (k : surface.Record) → k.kept ≡ u → NextAt (held_rows h) u k.removed → surface.Replays (held_rows h) k (held_rows h') →
    room_for d + width ≤ length l → l' ≡ sets l (room_for d) (numbers k) → Progress u h l d (d + 1) h' l'
progress_one u h l d h' l' k e next replays room wrote =
    record { log = k ∷ []; steps = one_step (record { at_u = e; next = next; replays = replays }) (no_step refl); logged = logged_one l d l' k room wrote }

pub progress_on : {u : ℕ} {h l : List ℕ} {d d₁ d₂ : ℕ} {h₁ l₁ h₂ l₂ : List ℕ} → Progress u h l d d₁ h₁ l₁ → Progress u h₁ l₁ d₁ d₂ h₂ l₂ → Progress u h l d d₂ h₂ l₂
progress_on p q = record { log = p.log ++ q.log; steps = leads_on p.steps q.steps; logged = logged_on p.logged q.logged }

module _ {n : ℕ} {h start list mark bits sub sup l : List ℕ} {u total d : ℕ} (b : BeforeCorner n h start list mark bits sub sup l u total d) (inside : u < n) where
  pub corner_small : u < most_corners
  corner_small = let m = (stage b.ground).many in omega arith

  -- all neighbours above u wait
  pub round_open : {ring : List ℕ} → RingOf h u ring → get_or mark u 0 ≢ gone_mark → {mark₁ bits₁ : List ℕ} → Met u (gone_mark + 1) (next_to h ring) mark bits mark₁ bits₁ → AtOpenCorner n h start list (set mark₁ u (u + 1)) bits₁ sub sup l u total d
  round_open {ring} r there {mark₁} {bits₁} met = record {
    ground = ground_marked b.ground (omega arith) marks kept;
    own = at_u;
    marked = λ w z. marked w z (ℕ_discrete w u) (met.changes w) (b.ground.marks.bound w);
    marks_all = λ w e. off_u w (λ q. (stage b.ground).apart e.1 (sym q)) ∙ met.marks w (beside.all e);
    near = λ w m. close w (met.waits_only w m);
    known = λ w a e m. absurd (m (met.waits_new w (beside.all e) a (no_such w (b.ground.marks.bound w))));
  }
    where
      small : u < most_corners
      small = corner_small

      beside : Neighbours (held_rows h) u (next_to h ring)
      beside = ring_neighbours b.ground.held small r

      at_u : get_or (set mark₁ u (u + 1)) u 0 ≡ u + 1
      at_u = let a = met.size in let c = b.ground.marks.size in let s = small in get_or-set_same mark₁ u (u + 1) 0 (omega arith)

      off_u : (w : ℕ) → w ≢ u → get_or (set mark₁ u (u + 1)) w 0 ≡ get_or mark₁ w 0
      off_u w q = get_or-set_other mark₁ u w (u + 1) 0 q

      marked : (w : ℕ) → get_or (set mark₁ u (u + 1)) w 0 ≡ u + 1 → Dec (w ≡ u) → (get_or mark₁ w 0 ≡ get_or mark w 0) ⊎ ((get_or mark₁ w 0 ≡ u + 1) × (w ∈ next_to h ring)) → (get_or mark w 0 ≤ u) ⊎ (get_or mark w 0 ≡ gone_mark) → Edge (held_rows h) u w ⊎ (w ≡ u)
      marked w z (yes q) c k = inr q
      marked w z (no q) (inl c) (inl k) = let a = sym (off_u w q) ∙ z in absurd (omega arith)
      marked w z (no q) (inl c) (inr k) = let a = sym (off_u w q) ∙ z in let s = small in absurd (omega arith)
      marked w z (no q) (inr c) k = inl (beside.only c.1)

      no_such : (w : ℕ) → (get_or mark w 0 ≤ u) ⊎ (get_or mark w 0 ≡ gone_mark) → get_or mark w 0 ≢ gone_mark + 1
      no_such w (inl k) q = let s = small in omega arith
      no_such w (inr k) q = omega arith

      close : (w : ℕ) → Member bits w ⊎ ((w ∈ next_to h ring) × (u < w) × (gone_mark + 1 ≡ u + 1 → get_or mark w 0 ≢ gone_mark + 1)) → (u < w) × Edge (held_rows h) u w
      close w (inl m) = absurd (b.empty w m)
      close w (inr m) = (m.1, beside.only m.0)

      -- a corner that is gone is no neighbour
      kept : (z : ℕ) → get_or mark z 0 ≡ gone_mark → get_or (set mark₁ u (u + 1)) z 0 ≡ gone_mark
      kept z q = go (ℕ_discrete z u) (met.changes z)
        where
          go : Dec (z ≡ u) → (get_or mark₁ z 0 ≡ get_or mark z 0) ⊎ ((get_or mark₁ z 0 ≡ u + 1) × (z ∈ next_to h ring)) → get_or (set mark₁ u (u + 1)) z 0 ≡ gone_mark
          go (yes c) k = absurd (there (rw c at q))
          go (no c) (inl k) = off_u z c ∙ k ∙ q
          go (no c) (inr k) = absurd (b.ground.marks.unused z q u ((stage b.ground).both (beside.only k.1)))

      bound : (z : ℕ) → Dec (z ≡ u) → (get_or mark₁ z 0 ≡ get_or mark z 0) ⊎ ((get_or mark₁ z 0 ≡ u + 1) × (z ∈ next_to h ring)) → (get_or mark z 0 ≤ u) ⊎ (get_or mark z 0 ≡ gone_mark) → (get_or (set mark₁ u (u + 1)) z 0 ≤ u + 1) ⊎ (get_or (set mark₁ u (u + 1)) z 0 ≡ gone_mark)
      bound z (yes q) c k = inl (rw q (let a = at_u in omega arith))
      bound z (no q) (inl c) (inl k) = inl (rw (off_u z q) (omega arith))
      bound z (no q) (inl c) (inr k) = inr (off_u z q ∙ c ∙ k)
      bound z (no q) (inr c) k = inl (rw (off_u z q) (let a = c.0 in omega arith))

      marks : MarksHold h (set mark₁ u (u + 1)) (u + 1)
      marks = record {
        size = length-set mark₁ u (u + 1) ∙ met.size ∙ b.ground.marks.size;
        bound = λ z. bound z (ℕ_discrete z u) (met.changes z) (b.ground.marks.bound z);
        unused = λ z q w. unused z q (ℕ_discrete z u) (met.changes z) w;
        no_corner = off_u most_corners (λ q. let s = small in omega arith) ∙ free (met.changes most_corners);
      }
        where
          unused : (z : ℕ) → get_or (set mark₁ u (u + 1)) z 0 ≡ gone_mark → Dec (z ≡ u) → (get_or mark₁ z 0 ≡ get_or mark z 0) ⊎ ((get_or mark₁ z 0 ≡ u + 1) × (z ∈ next_to h ring)) → (w : ℕ) → ¬ Edge (held_rows h) z w
          unused z q (yes c) k w e = let a : get_or (set mark₁ u (u + 1)) z 0 ≡ u + 1 = rw c at_u in let s = small in omega arith
          unused z q (no c) (inl k) w e = b.ground.marks.unused z (sym k ∙ sym (off_u z c) ∙ q) w e
          unused z q (no c) (inr k) w e = let a = sym (off_u z c) ∙ q in let i = k.0 in let s = small in omega arith

          free : (get_or mark₁ most_corners 0 ≡ get_or mark most_corners 0) ⊎ ((get_or mark₁ most_corners 0 ≡ u + 1) × (most_corners ∈ next_to h ring)) → get_or mark₁ most_corners 0 ≡ 0
          free (inl k) = k ∙ b.ground.marks.no_corner
          free (inr k) = let z = (ring_listed b.ground.held small r).below k.1 in absurd (omega arith)

  -- a corner that has been removed is passed by
  pub passed_by : get_or mark u 0 ≡ gone_mark → CornerDone n start list h l h mark bits sub sup l u total d d
  passed_by q = record {
    before = record {
      ground = ground_marked b.ground (omega arith) (record { size = b.ground.marks.size; bound = λ z. elim (b.ground.marks.bound z) [ inl k ↦ inl (omega arith) | inr k ↦ inr k ]; unused = b.ground.marks.unused; no_corner = b.ground.marks.no_corner }) (λ z k. k);
      empty = b.empty;
    };
    log = [];
    corner = record { steps = no_step refl; ended = λ k a m. b.ground.marks.unused u q k m.edge };
    logged = logged_none l d (ground_inside b.ground);
  }

module _ {n : ℕ} {h start list mark bits sub sup l : List ℕ} {u total d : ℕ} (g : AtOpenCorner n h start list mark bits sub sup l u total d) where
  -- none waits: u is finished
  pub none_left : ((w : ℕ) → ¬ Member bits w) → {h₀ l₀ : List ℕ} {d₀ : ℕ} → Progress u h₀ l₀ d₀ d h l → CornerDone n start list h₀ l₀ h mark bits sub sup l u total d₀ d
  none_left empty p = record {
    before = record { ground = g.ground; empty = empty };
    log = p.log;
    corner = record { steps = p.steps; ended = λ k a m. g.known k a m.edge (empty k) m };
    logged = p.logged;
  }

  -- a try makes less of what is left
  pub fell_less : {start' list' h₁ l₁ h' mark' bits' sub' sup' l' : List ℕ} {v d' : ℕ} → Tried n start' list' h₁ bits l₁ h' mark' bits' sub' sup' l' u v total d d' →
      (total - 2 * d') * (most_corners + 1) + waiters bits' most_corners < (total - 2 * d) * (most_corners + 1) + waiters bits most_corners
  fell_less {bits' = bits'} {d' = d'} w = go w.fell
    where
      go : (d' ≡ d + 1) ⊎ ((d' ≡ d) × (waiters bits' most_corners < waiters bits most_corners)) → (total - 2 * d') * (most_corners + 1) + waiters bits' most_corners < (total - 2 * d) * (most_corners + 1) + waiters bits most_corners
      go (inl e) =
          let a = w.round.ground.rows in
          let b = (stage w.round.ground).least in
          let k = waiters_most bits' most_corners in
          omega arith
      go (inr e) = let q = e.0 in let k = e.1 in rw q (omega arith)

-- no corner finished yet, and one more
pub none_done : {n : ℕ} {h start list mark bits sub sup l : List ℕ} {total d : ℕ} → BeforeCorner n h start list mark bits sub sup l 0 total d → AllDone n 0 h l h l d d
none_done {l = l} {d = d} b = record { held = b.ground.held; log = []; corners = not_begun refl; logged = logged_none l d (ground_inside b.ground) }

pub one_done : {n u total : ℕ} {start list h l h₁ l₁ h' mark' bits' sub' sup' l' : List ℕ} {d d₁ d' : ℕ} → AllDone n u h l h₁ l₁ d d₁ → CornerDone n start list h₁ l₁ h' mark' bits' sub' sup' l' u total d₁ d' → AllDone n (u + 1) h l h' l' d d'
one_done {u = u} a w = rw (add-one u) (record { held = w.before.ground.held; log = a.log ++ w.log; corners = next_corner a.corners w.corner; logged = logged_on a.logged w.logged })
