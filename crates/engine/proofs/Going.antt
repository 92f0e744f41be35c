-- The engine's loop: what holds after each step, one step more, and the end.
use mathlib.Core.Path.{◌≡◌, refl, sym, ◌∙◌, ap}
use mathlib.Core.List.{List, [], ◌∷◌, ◌++◌, append_assoc, append-nil}
use Prim.Native.Nat.{ℕ, ◌+◌, ◌-◌, ◌*◌, ◌≤◌}
use native.Mathlib.Omega.{arith}
use lib.ListN.{length, take, drop, length-append, take-append-drop}
use lib.Seq.{sets, sets-eq, length-sets, take_at, drop_at, drop-drop, length-take-le}
use Rattle.surface.specs.Limits.{least_corners}
use Rattle.surface.specs.Lists.{Exactly}
use Rattle.surface.specs.Rows.{Row, rows}
use Rattle.surface.specs.Table.{Used}
use Rattle.surface.specs.Stage.{Stage}
use Rattle.surface.specs.Record as surface
use Rattle.surface.specs.Contract.{contract}
use Rattle.surface.proofs.Main.{contraction, four_used, corners_there, one_fewer}
use Rattle.run.specs.Run.{Least, Taken, none_yet, Over}
use Rattle.run.proofs.Main.{taken_more, step_corners}
use Rattle.record.specs.declared.Record.{Record}
use Rattle.record.specs.Layout.{width, log_of, numbers}
use Rattle.record.specs.Meant.{meant}
use Rattle.record.proofs.Log.{numbers_length_lem, log_length, log_append}
use Rattle.record.specs.Front.{front_rows}
use Rattle.step.specs.Front.{SteppedFront, Fallen}
use Rattle.step.proofs.Front.{fallen_none, front_replays, fallen_on, fallen_left}
use Rattle.going.specs.Going.{CanGoOn, WentOn}

-- the table t with r rows in front, the log l with k records: what the steps from t₀ have made
pub record Going (P : ℕ → ℕ → Type 0) (n : ℕ) (t₀ : List ℕ) (r₀ : ℕ) (l₀ : List ℕ) (d : ℕ) (t l : List ℕ) (r k : ℕ) : Type 0 where
  pub log : List surface.Record
  pub fallen : Fallen n t₀ r₀ t r
  pub taken : Taken P (rows (front_rows r₀ t₀)) log (rows (front_rows r t))
  pub count : k ≡ d + length log
  pub same_log : length l ≡ length l₀
  pub logged : l ≡ take (width * d) l₀ ++ (log_of log ++ drop (width * k) l₀)
  pub room : (v : ℕ) → Exactly (Used (rows (front_rows r t))) v → width * (k + v) ≤ length l₀ + width * least_corners

module _ {P : ℕ → ℕ → Type 0} {n : ℕ} {t₀ : List ℕ} {r₀ : ℕ} {l₀ : List ℕ} {d : ℕ} where
  pub go_start : CanGoOn n t₀ r₀ l₀ d → Going P n t₀ r₀ l₀ d t₀ l₀ r₀ d
  go_start w = record {
    log = [];
    fallen = fallen_none w.inside w.table;
    taken = none_yet refl;
    count = omega arith;
    same_log = refl;
    logged = unfold log_of in sym (take-append-drop (width * d) l₀);
    room = w.room;
  }

  module _ (t l : List ℕ) (r k : ℕ) (g : Going P n t₀ r₀ l₀ d t l r k) where
    abbrev T : List Row
    T = rows (front_rows r t)

    -- where an edge qualifies, the log has room for its record: a stage follows, and uses four corners
    pub room_left : {a b : ℕ} → Least P T a b → width * k + width ≤ length l
    room_left {a} {b} least =
        let s = g.fallen.table.stage in
        let c = corners_there n T s in
        let z = contraction n T s a b least.does.meets in
        let c' = corners_there n (contract a b T) z in
        let h = one_fewer n T s a b least.does.meets c.1 c'.1 in
        let f = four_used n (contract a b T) z c'.1 in
        let q = g.room c.0 c.1 in
        omega (arith, g.same_log)

    -- the step of the least edge is taken, and its record written
    module _ {a b : ℕ} (e : Record) (t' l' : List ℕ) (least-ab : Least P T a b) (w : SteppedFront t r a b e t') (same : length t' ≡ length t) (wrote : l' ≡ sets l (width * k) (numbers (meant e))) where
      S : Stage n T
      S = g.fallen.table.stage

      least : Least P T (meant e).kept (meant e).removed
      least = rw (w.stepped.kept_is, w.stepped.removed_is) least-ab

      replays : surface.Replays T (meant e) (rows (front_rows (r - 2) t'))
      replays = front_replays t r g.fallen e t' w same

      -- the log with one record more
      logged_on : l' ≡ take (width * d) l₀ ++ (log_of (g.log ++ (meant e ∷ [])) ++ drop (width * (k + 1)) l₀)
      logged_on =
          wrote
          ∙ sets-eq nums l (width * k) (omega (arith, numbers_length_lem (meant e), room_left least))
          ∙ (λ i. before i ++ nums ++ after i)
          ∙ append_assoc (A ++ L) nums D
          ∙ append_assoc A L (nums ++ D)
          ∙ ap (λ q. A ++ q) (sym (append_assoc L nums D) ∙ ap (λ q. q ++ D) (sym more))
        where
          nums : List ℕ
          nums = numbers (meant e)

          A : List ℕ
          A = take (width * d) l₀

          L : List ℕ
          L = log_of g.log

          D : List ℕ
          D = drop (width * (k + 1)) l₀

          has : width * k + width ≤ length l
          has = room_left least

          ends : length (A ++ L) ≡ width * k
          ends =
              let a : length A ≡ width * d = length-take-le (width * d) l₀ (omega (arith, has, g.count, g.same_log)) in
              omega (arith, length-append A L, log_length g.log, g.count)

          is : l ≡ A ++ L ++ drop (width * k) l₀
          is = g.logged ∙ sym (append_assoc A L (drop (width * k) l₀))

          before : take (width * k) l ≡ A ++ L
          before = ap (take (width * k)) is ∙ take_at (A ++ L) (drop (width * k) l₀) (width * k) ends

          after : drop (width * k + length nums) l ≡ D
          after =
              let m : width * k + length nums ≡ width * (k + 1) = omega (arith, numbers_length_lem (meant e)) in
              sym (drop-drop (length nums) (width * k) l)
              ∙ ap (drop (length nums)) (ap (drop (width * k)) is ∙ drop_at (A ++ L) (drop (width * k) l₀) (width * k) ends)
              ∙ drop-drop (length nums) (width * k) l₀
              ∙ ap (λ q. drop q l₀) m

          more : log_of (g.log ++ (meant e ∷ [])) ≡ L ++ nums
          more = log_append g.log (meant e ∷ []) ∙ ap (λ q. L ++ q) (unfold log_of in append-nil nums)

      pub go_on : Going P n t₀ r₀ l₀ d t' l' (r - 2) (k + 1)
      go_on =
          let a = length-append g.log (meant e ∷ []) in
          let c = g.count in
          record {
            log = g.log ++ (meant e ∷ []);
            fallen = fallen_on t r g.fallen e t' w same;
            taken = taken_more g.taken least replays;
            count = omega arith;
            same_log = ap length wrote ∙ length-sets l (width * k) (numbers (meant e)) ∙ g.same_log;
            logged = logged_on;
            room = λ v c. let q = corners_there n T S in let o = step_corners S replays q.1 c in let m = g.room q.0 q.1 in omega arith;
          }

    -- no edge is left
    pub go_end : Over P T → WentOn P t₀ r₀ l₀ d k t l
    go_end over = record {
      log = g.log;
      last = T;
      run = record { taken = g.taken; ended = over };
      count = g.count;
      table = fallen_left t r g.fallen;
      logged = g.logged;
    }
