-- The walk from y forward to x, a slot at a time. A slot that holds a is passed once its next corner is; what is still to come is reached from here.
use mathlib.Core.Path.{◌≡◌, refl, sym, ◌∙◌, ap}
use mathlib.Core.Logic.{◌≢◌}
use mathlib.Core.List.{List, [], ◌∷◌}
use Prim.Native.Nat.{ℕ, zero, suc, ◌+◌, ◌-◌, ◌*◌, ◌≤◌, ◌<◌, ◌%◌}
use native.Mathlib.Decide.{ℕ_discrete}
use native.Mathlib.Omega.{arith}
use lib.ListN.{length, get_or, set, length-set}
use lib.Seq.{get_or-set_same, get_or-set_other}
use Rattle.surface.specs.Lists.{Reach, stay, step}
use Rattle.surface.specs.Rows.{Row, row, rows, Turned, turn_0, turn_1, turn_2}
use Rattle.surface.specs.Table.{Follows, Edge}
use Rattle.surface.specs.Stage.{Stage}
use Rattle.surface.specs.Contract.{renumber}
use Rattle.surface.proofs.Reaching.{join, one_step}
use Rattle.surface.proofs.Once.{turn}
use Rattle.surface.proofs.Renumber.{replace_at, replace_off}
use Rattle.surface.proofs.Following.{re, follows_same}
use Rattle.surface.proofs.Flat.{rows_at, rows_length}
use Rattle.growth.specs.Grow.{Between, RowRegrown, renamed, left_be, Each, each_none, each_more}
use Rattle.growth.proofs.Walked.{fan, fan_step}
use Rattle.slots.specs.Slot.{next_slot}
use Rattle.slots.proofs.Slots.{next_0, next_1, next_2, next_inside, at_follows, one_slot, under_more}
use Rattle.noted.specs.Noted.{Noted, IsNoted}
use Rattle.slots.proofs.Staged.{table_whole, table_under}
use Rattle.noted.proofs.Notes.{edge_near}
use Rattle.grow.specs.Walk.{Walkable, Renamed}

-- what has become of a number c of a row, with next after it: changed, if it is a and next is among P
pub data Done (a b : ℕ) (P : ℕ → Type 0) (c next d : ℕ) : Type 0 where
  changed : c ≡ a → P next → d ≡ b → Done a b P c next d
  kept : (c ≡ a → P next → ⊥) → d ≡ c → Done a b P c next d

module _ {T : List Row} {a b x y i j k i' j' k' : ℕ} (ij : i ≢ j) (jk : j ≢ k) (ki : k ≢ i) where
  -- a row whose three numbers are done
  regrown : Done a b (Between T a x y) i j i' → Done a b (Between T a x y) j k j' → Done a b (Between T a x y) k i k' → RowRegrown T a b x y (row i j k) (row i' j' k')
  unfolding renumber
  regrown (changed e m f) (changed e₂ m₂ f₂) v = absurd (ij (e ∙ sym e₂))
  regrown (changed e m f) (kept n₁ f₁) (changed e₂ m₂ f₂) = absurd (ki (e₂ ∙ sym e))
  regrown (changed e m f) (kept n₁ f₁) (kept n₂ f₂) =
      renamed {p = j} {q = k} (turn_0 (cc)) m (λ l. row ((f ∙ sym (replace_at b a e)) l) ((f₁ ∙ sym (replace_off b a (λ q. ij (e ∙ sym q)))) l) ((f₂ ∙ sym (replace_off b a (λ q. ki (q ∙ sym e)))) l))
  regrown (kept n f) (changed e m f₁) (changed e₂ m₂ f₂) = absurd (jk (e ∙ sym e₂))
  regrown (kept n f) (changed e m f₁) (kept n₂ f₂) =
      renamed {p = k} {q = i} (turn_2 (cc)) m (λ l. row ((f ∙ sym (replace_off b a (λ q. ij (q ∙ sym e)))) l) ((f₁ ∙ sym (replace_at b a e)) l) ((f₂ ∙ sym (replace_off b a (λ q. jk (e ∙ sym q)))) l))
  regrown (kept n f) (kept n₁ f₁) (changed e m f₂) =
      renamed {p = i} {q = j} (turn_1 (cc)) m (λ l. row ((f ∙ sym (replace_off b a (λ q. ki (e ∙ sym q)))) l) ((f₁ ∙ sym (replace_off b a (λ q. jk (q ∙ sym e)))) l) ((f₂ ∙ sym (replace_at b a e)) l))
  regrown (kept n f) (kept n₁ f₁) (kept n₂ f₂) = left_be (λ p q t m. go p q t m) (λ l. row (f l) (f₁ l) (f₂ l))
    where
      go : (p q : ℕ) → Turned (row i j k) a p q → ¬ Between T a x y p
      go p q (turn_0 e) m = let h : p ≡ j = cc in n (cc) (rw h at m)
      go p q (turn_1 e) m = let h : p ≡ i = cc in n₂ (cc) (rw h at m)
      go p q (turn_2 e) m = let h : p ≡ k = cc in n₁ (cc) (rw h at m)

-- row by row is place by place
each_place : {R : Row → Row → Type 0} (d : Row) (T U : List Row) → length T ≡ length U → ((i : ℕ) → i < length T → R (get_or T i d) (get_or U i d)) → Each R T U
each_place d [] [] e h = each_none
each_place d [] (u ∷ U) e h = absurd (omega arith)
each_place d (t ∷ T) [] e h = absurd (omega arith)
each_place d (t ∷ T) (u ∷ U) e h = each_more (h zero (omega arith)) (each_place d T U (omega arith) (λ i k. h (suc i) (omega arith)))

-- a step of the walk, which ends at x
abbrev pub Step : List Row → ℕ → ℕ → ℕ → ℕ → Type 0
Step T a x s q = Follows T a s q × (s ≢ x)

-- what has become of the slot e when the walk is at p
pub data Slot (t₀ : List ℕ) (a b x y : ℕ) (t : List ℕ) (p e : ℕ) : Type 0 where
  passed : get_or t₀ e 0 ≡ a → Between (rows t₀) a x y (get_or t₀ (next_slot e) 0) → get_or t e 0 ≡ b → Slot t₀ a b x y t p e
  to_come : (get_or t₀ e 0 ≡ a → Between (rows t₀) a x y (get_or t₀ (next_slot e) 0) → Reach (Step (rows t₀) a x) p (get_or t₀ (next_slot e) 0)) → get_or t e 0 ≡ get_or t₀ e 0 →
      Slot t₀ a b x y t p e

-- the walk is at p
pub record Walking (t₀ : List ℕ) (a b x y : ℕ) (t : List ℕ) (p : ℕ) : Type 0 where
  pub same : length t ≡ length t₀
  pub here : Edge (rows t₀) a p
  pub on : Reach (Step (rows t₀) a x) y p
  pub slots : (e : ℕ) → e < length t₀ → Slot t₀ a b x y t p e

module _ (t₀ at : List ℕ) (a b x y : ℕ) (w : Walkable t₀ at a x y) where
  abbrev T : List Row
  T = rows t₀

  abbrev n : ℕ
  n = w.corners

  s : Stage n T
  s = w.table.stage

  threes : length t₀ % 3 ≡ 0
  threes = (table_whole w.table).threes

  pub walk_start : Walking t₀ a b x y t₀ y
  walk_start = record { same = refl; here = w.at_y; on = stay refl; slots = λ e h. to_come (λ q k. k.on) refl }

  module _ (t : List ℕ) (p : ℕ) (k : Walking t₀ a b x y t p) where
    pub noted : IsNoted at p
    noted = edge_near t₀ (table_whole w.table) a at (under_more (table_under w.table) w.fits) w.round k.here

    -- where p is noted
    abbrev pub slot : ℕ
    slot = get_or at p 0 - 1

    note : Noted t₀ a (length t₀) p (get_or at p 0)
    note = w.round.noted p noted.inside

    pub slot_inside : slot < length t₀
    slot_inside = let h = noted.noted in let u = note.upto in go (get_or at p 0) h u
      where
        go : (r : ℕ) → r ≢ 0 → r ≤ length t₀ → r - 1 < length t₀
        go r h u = omega arith

    hit : (get_or t₀ slot 0 ≡ a) × (get_or t₀ (next_slot slot) 0 ≡ p)
    hit = note.hit (go (get_or at p 0) noted.noted)
      where
        go : (r : ℕ) → r ≢ 0 → 0 < r
        go r h = omega arith

    -- the corner after p
    abbrev pub after : ℕ
    after = get_or t₀ (next_slot (next_slot slot)) 0

    pub follows : Follows T a p after
    follows = re hit.0 hit.1 refl (at_follows t₀ threes slot slot_inside)

    after_off : after ≢ a
    after_off = s.apart (turn (turn follows))

    pub beside_inside : next_slot slot < length t₀
    beside_inside = next_inside (length t₀) slot threes slot_inside

    pub after_inside : next_slot (next_slot slot) < length t₀
    after_inside = next_inside (length t₀) (next_slot slot) threes beside_inside

    -- it is read as it was, after the write too
    pub after_there : get_or (set t slot b) (next_slot (next_slot slot)) 0 ≡ after
    after_there = get_or-set_other t slot (next_slot (next_slot slot)) b 0 (λ e. after_off (ap (λ (i : ℕ). get_or t₀ i 0) e ∙ hit.0)) ∙ go (k.slots (next_slot (next_slot slot)) after_inside)
      where
        go : Slot t₀ a b x y t p (next_slot (next_slot slot)) → get_or t (next_slot (next_slot slot)) 0 ≡ get_or t₀ (next_slot (next_slot slot)) 0
        go (passed q i v) = absurd (after_off q)
        go (to_come i v) = v

    module _ (np : p ≢ x) where
      pub walk_more : Walking t₀ a b x y (set t slot b) after
      walk_more = record {
        same = length-set t slot b ∙ k.same;
        here = s.both (p, turn (turn follows));
        on = join k.on (one_step (follows, np));
        slots = λ e h. go e h (ℕ_discrete e slot) (k.slots e h);
      }
        where
          -- what is to come from p and is not at this slot, is to come from the corner after it
          further : (e z : ℕ) → e < length t₀ → e ≢ slot → get_or t₀ e 0 ≡ a → get_or t₀ (next_slot e) 0 ≡ z → Reach (Step T a x) p z → Reach (Step T a x) after z
          further e z h ne q i (stay j) = absurd (ne (one_slot t₀ threes s.once e slot h slot_inside (q ∙ sym hit.0) (i ∙ sym j ∙ sym hit.1)))
          further e z h ne q i (step f c) = rw (follows_same n T s f.0 follows) at c

          go : (e : ℕ) → e < length t₀ → Dec (e ≡ slot) → Slot t₀ a b x y t p e → Slot t₀ a b x y (set t slot b) after e
          go e h (yes i) v = rw i (passed hit.0 (rw hit.1 (record { on = k.on; short = np })) (get_or-set_same t slot b 0 (let l = k.same in let m = slot_inside in omega arith)))
          go e h (no i) (passed q m v) = passed q m (get_or-set_other t slot e b 0 i ∙ v)
          go e h (no i) (to_come m v) = to_come (λ q l. further e (get_or t₀ (next_slot e) 0) h i q refl (m q l)) (get_or-set_other t slot e b 0 i ∙ v)

      -- and there is one corner fewer to come
      pub walk_less : length (fan T a x after) < length (fan T a x p)
      walk_less = let e = ap length (fan_step n T s a b x w.at_x np follows) in omega arith

    -- at x nothing is to come
    module _ (ends : p ≡ x) where
      none_to_come : {z : ℕ} → Reach (Step T a x) p z → z ≢ x → ⊥
      none_to_come (stay e) h = h (sym e ∙ ends)
      none_to_come (step f c) h = f.1 ends

      slot_done : (e : ℕ) {c d next : ℕ} → e < length t₀ → get_or t₀ e 0 ≡ c → get_or t e 0 ≡ d → get_or t₀ (next_slot e) 0 ≡ next → Done a b (Between T a x y) c next d
      slot_done e h ec ed en = rw (sym ec, sym ed, sym en) (go (k.slots e h))
        where
          go : Slot t₀ a b x y t p e → Done a b (Between T a x y) (get_or t₀ e 0) (get_or t₀ (next_slot e) 0) (get_or t e 0)
          go (passed q m v) = changed q m v
          go (to_come m v) = kept (λ q l. none_to_come (m q l) l.short) v

      row_done : (i : ℕ) → 3 * i + 2 < length t₀ →
          RowRegrown T a b x y (row (get_or t₀ (3 * i) 0) (get_or t₀ (3 * i + 1) 0) (get_or t₀ (3 * i + 2) 0)) (row (get_or t (3 * i) 0) (get_or t (3 * i + 1) 0) (get_or t (3 * i + 2) 0))
      row_done i h =
          regrown (off (3 * i) (omega arith) (next_0 i)) (off (3 * i + 1) (omega arith) (next_1 i)) (off (3 * i + 2) h (next_2 i))
          (slot_done (3 * i) (omega arith) refl refl (ap (λ (j : ℕ). get_or t₀ j 0) (next_0 i)))
          (slot_done (3 * i + 1) (omega arith) refl refl (ap (λ (j : ℕ). get_or t₀ j 0) (next_1 i)))
          (slot_done (3 * i + 2) h refl refl (ap (λ (j : ℕ). get_or t₀ j 0) (next_2 i)))
        where
          off : (e : ℕ) {f : ℕ} → e < length t₀ → next_slot e ≡ f → get_or t₀ e 0 ≢ get_or t₀ f 0
          off e h i q = s.apart (at_follows t₀ threes e h) (q ∙ ap (λ (j : ℕ). get_or t₀ j 0) (sym i))

      pub walk_end : Renamed a b x y t₀ t
      walk_end =
          let c = w.table.count in
          let l : length (rows t) ≡ length T = rows_length (length T) t (k.same ∙ c) in
          each_place (row 0 0 0) T (rows t) (sym l) (λ i h. rw (rows_at i t₀ (row 0 0 0) h, rows_at i t (row 0 0 0) (omega arith)) (row_done i (omega arith)))
