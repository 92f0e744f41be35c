-- The ground between the corners: the lists that serve, the room that is left, and the ground after a step.
use mathlib.Core.Path.{◌≡◌, sym, ◌∙◌}
use mathlib.Core.Logic.{◌≢◌, ◌⊎◌, inl, inr}
use mathlib.Core.List.{List}
use Prim.Native.Nat.{ℕ, ◌+◌, ◌≤◌, ◌<◌}
use native.Mathlib.Omega.{arith}
use lib.ListN.{length, get_or}
use Rattle.surface.specs.Limits.{most_corners}
use Rattle.surface.specs.Rows.{Row}
use Rattle.surface.specs.Stage.{Stage}
use Rattle.surface.specs.Link.{Meets}
use Rattle.surface.specs.Contract.{contract}
use Rattle.surface.proofs.Main.{contraction, two_fewer, corners_there, one_fewer, four_used}
use Rattle.run.proofs.Main.{step_corners}
use Rattle.record.specs.declared.Record.{Record}
use Rattle.record.specs.Layout.{width, room_for}
use Rattle.spots.specs.InnerHeld.{flat_of, held_rows, HoldsSomeStage}
use Rattle.spots.specs.InnerLists.{Mapped}
use Rattle.spots.proofs.Held.{flat_size}
use Rattle.strike.specs.InnerStrike.{Struck}
use Rattle.quick.specs.InnerGround.{gone_mark, MarksHold, Ground}

module _ {n : ℕ} {h start list mark sub sup l : List ℕ} {lowest k total d : ℕ} (g : Ground n h start list mark sub sup l lowest k total d) where
  abbrev T : List Row
  T = held_rows h

  pub stage : Stage n (held_rows h)
  stage = g.held.slotted.stage

  pub held_stage : HoldsSomeStage h
  held_stage = record { corners = n; held = g.held }

  -- where an edge may be contracted, the log has room for its record
  pub ground_room : {u v : ℕ} → Meets (held_rows h) u v → room_for d + width ≤ length l
  ground_room {u} {v} m =
      let c = corners_there n T stage in
      let z = contraction n T stage u v m in
      let c' = corners_there n (contract u v T) z in
      let e = one_fewer n T stage u v m c.1 c'.1 in
      let f = four_used n (contract u v T) z c'.1 in
      let q = g.room c.0 c.1 in
      omega arith

  pub ground_inside : room_for d ≤ length l
  ground_inside =
      let c = corners_there n T stage in
      let f = four_used n T stage c.1 in
      let q = g.room c.0 c.1 in
      omega arith

  -- the lists lead to the slots of a corner that is not finished and not removed
  pub mapped : {v : ℕ} → lowest ≤ v → v < most_corners → get_or mark v 0 ≢ gone_mark → Mapped h start list v
  mapped {v} lo small there = record {
    first = g.charted.first;
    lists = g.charted.lists;
    same = g.charted.same;
    was = λ e i q. g.charted.old e i (omega arith) (omega arith) ∙ q;
    still = λ e i q. still e q (g.charted.still e i);
  }
    where
      still : (e : ℕ) → get_or g.charted.first e 0 ≡ v →
          (get_or (flat_of h) e 0 ≡ get_or g.charted.first e 0) ⊎ ((get_or (flat_of h) e 0 ≡ most_corners) ⊎ (get_or mark (get_or g.charted.first e 0) 0 ≡ gone_mark)) →
          (get_or (flat_of h) e 0 ≡ v) ⊎ (get_or (flat_of h) e 0 ≡ most_corners)
      still e q (inl a) = inl (a ∙ q)
      still e q (inr (inl a)) = inr a
      still e q (inr (inr a)) = absurd (there (rw q at a))

  -- marks that change leave the ground as it is, but for those that say that a corner is gone
  pub ground_marked : {mark' : List ℕ} {lowest' k' : ℕ} → lowest ≤ lowest' → MarksHold h mark' k' → ((z : ℕ) → get_or mark z 0 ≡ gone_mark → get_or mark' z 0 ≡ gone_mark) → Ground n h start list mark' sub sup l lowest' k' total d
  ground_marked {mark'} {lowest'} lo marks kept = record {
    held = g.held;
    charted = record {
      first = g.charted.first;
      lists = g.charted.lists;
      same = g.charted.same;
      old = λ e i a b. g.charted.old e i (omega arith) b;
      still = λ e i. still e (g.charted.still e i);
    };
    marks = marks;
    tallied = g.tallied;
    rows = g.rows;
    room = g.room;
  }
    where
      still : (e : ℕ) → (get_or (flat_of h) e 0 ≡ get_or g.charted.first e 0) ⊎ ((get_or (flat_of h) e 0 ≡ most_corners) ⊎ (get_or mark (get_or g.charted.first e 0) 0 ≡ gone_mark)) →
          (get_or (flat_of h) e 0 ≡ get_or g.charted.first e 0) ⊎ ((get_or (flat_of h) e 0 ≡ most_corners) ⊎ (get_or mark' (get_or g.charted.first e 0) 0 ≡ gone_mark))
      still e (inl a) = inl a
      still e (inr (inl a)) = inr (inl a)
      still e (inr (inr a)) = inr (inr (kept _ a))

  -- the ground after the step, with marks that say that v is gone
  pub ground_step : {u v : ℕ} {e : Record} {mark' h' sub' sup' l' : List ℕ} {k' : ℕ} → lowest ≤ u + 1 → u < most_corners → MarksHold h' mark' k' → ((z : ℕ) → get_or mark z 0 ≡ gone_mark → get_or mark' z 0 ≡ gone_mark) → get_or mark' v 0 ≡ gone_mark →
      Struck h u v e h' sub' sup' → length l' ≡ length l → Ground n h' start list mark' sub' sup' l' (u + 1) k' total (d + 1)
  ground_step {u} {v} {e} {mark'} {h'} {sub'} {sup'} {l'} lo small marks kept mark-v st same = record {
    held = st.held g.held;
    charted = record {
      first = g.charted.first;
      lists = g.charted.lists;
      same = flat_same ∙ g.charted.same;
      old = λ e i a b. old e i a b (st.changes e (rw g.charted.same i));
      still = λ e i. still e (g.charted.still e i) (st.changes e (rw g.charted.same i));
    };
    marks = marks;
    tallied = st.tallied;
    rows = let a = g.rows in let b = fewer in omega arith;
    room = λ w c. let q = corners_there n T stage in let o = step_corners stage st.replays q.1 c in let m = g.room q.0 q.1 in omega (arith, same);
  }
    where
      fewer : length (held_rows h) ≡ 2 + length (held_rows h')
      fewer = rw st.replays.leaves at (two_fewer n T stage _ _ st.replays.meets)

      flat_same : length (flat_of h') ≡ length (flat_of h)
      flat_same = let a = flat_size h g.held.fours in let b = flat_size h' (st.held g.held).fours in let c = st.size in omega arith

      first : List ℕ
      first = g.charted.first

      old : (e : ℕ) → e < length g.charted.first → u + 1 ≤ get_or (flat_of h') e 0 → get_or (flat_of h') e 0 < most_corners →
          (get_or (flat_of h') e 0 ≡ get_or (flat_of h) e 0) ⊎ (((get_or (flat_of h) e 0 ≡ v) × (get_or (flat_of h') e 0 ≡ u)) ⊎ (get_or (flat_of h') e 0 ≡ most_corners)) → get_or g.charted.first e 0 ≡ get_or (flat_of h') e 0
      old e i a b (inl q) = g.charted.old e i (omega arith) (omega arith) ∙ sym q
      old e i a b (inr (inl q)) = let z = q.1 in absurd (omega arith)
      old e i a b (inr (inr q)) = absurd (omega arith)

      still : (e : ℕ) → (get_or (flat_of h) e 0 ≡ get_or g.charted.first e 0) ⊎ ((get_or (flat_of h) e 0 ≡ most_corners) ⊎ (get_or mark (get_or g.charted.first e 0) 0 ≡ gone_mark)) →
          (get_or (flat_of h') e 0 ≡ get_or (flat_of h) e 0) ⊎ (((get_or (flat_of h) e 0 ≡ v) × (get_or (flat_of h') e 0 ≡ u)) ⊎ (get_or (flat_of h') e 0 ≡ most_corners)) →
          (get_or (flat_of h') e 0 ≡ get_or g.charted.first e 0) ⊎ ((get_or (flat_of h') e 0 ≡ most_corners) ⊎ (get_or mark' (get_or g.charted.first e 0) 0 ≡ gone_mark))
      still e s (inr (inr q)) = inr (inl q)
      still e (inl s) (inl q) = inl (q ∙ s)
      still e (inr (inl s)) (inl q) = inr (inl (q ∙ s))
      still e (inr (inr s)) (inl q) = inr (inr (kept _ s))
      still e (inl s) (inr (inl q)) = inr (inr (rw (sym s ∙ q.0) mark-v))
      still e (inr (inl s)) (inr (inl q)) = let z = q.0 in let y = st.replays.meets.edge.1 in let b = stage.below (stage.both st.replays.meets.edge).1 in let m = stage.many in let r = st.removed_is in absurd (omega arith)
      still e (inr (inr s)) (inr (inl q)) = inr (inr (kept _ s))
