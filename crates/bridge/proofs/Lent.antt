-- What the lengths of what is handed back tell of its place in the caller's memory.
use mathlib.Core.Path.{◌≡◌, refl, sym, ◌∙◌, ap}
use mathlib.Core.Logic.{inl, inr}
use mathlib.Core.List.{List, []}
use Prim.Native.Nat.{ℕ, ◌+◌, ◌≤◌, ◌<◌}
use native.Mathlib.Omega.{arith}
use lib.ListN.{length, drop, length-append}
use lib.Seq.{drop-append_seam}
use denote.Ref.{Bor}
use Rattle.link.specs.Chosen.{Chosen}
use Rattle.catchup.specs.CatchUp.{Beginning, PartOf, CaughtUp, second_longer, first_longer, equal, neither}
use Rattle.catchup.proofs.Beginnings.{no_rest}
use Rattle.bridge.specs.Lent.{the_first, the_second, RingShown, RestOf, nothing, of_second, of_first, PartShown}

-- ---- rings

module _ {a b r : Bor (List ℕ)} where
  pub ring_first : Chosen a b r → length r.now ≡ length a.now → RingShown a b 0
  ring_first (inl h) e = record { ring = r; chosen = inl h; which = the_first h.1 refl }
  ring_first (inr h) e =
      let k : length r.now ≡ length b.now = ap (λ x. length x.now) h.1 in
      absurd (omega (arith, h.0, k, e))

  pub ring_second : Chosen a b r → ¬ (length r.now ≡ length a.now) → RingShown a b 1
  ring_second (inl h) n = absurd (n (ap (λ x. length x.now) h.1))
  ring_second (inr h) n = record { ring = r; chosen = inr h; which = the_second h.1 (λ e. n (ap (λ x. length x.now) e)) refl }

-- ---- parts

full : (l : List ℕ) → ¬ (length l ≡ 0) → ¬ (l ≡ [])
full l n e = n (ap length e)

-- a part of nothing has no length
none : {x r : Bor (List ℕ)} → PartOf x 0 [] r → length r.now ≡ 0
none p = ap length p.holds

-- a beginning is shorter by its rest
longer : {l m : List ℕ} (b : Beginning l m) → length m ≡ length l + length b.rest
longer {l} b = ap length b.is ∙ length-append l b.rest

-- which is what the longer has after it
the_rest : {l m : List ℕ} (b : Beginning l m) → drop (length l) m ≡ b.rest
the_rest {l} b = ap (drop (length l)) b.is ∙ drop-append_seam l b.rest

rest_of : {x r : Bor (List ℕ)} {l : List ℕ} (b : Beginning l x.now) → PartOf x (length l) b.rest r → RestOf x (length l) r
rest_of b p = record { place = p.place; holds = p.holds ∙ sym (the_rest b) }

module _ {a b r : Bor (List ℕ)} where
  pub part_nothing : CaughtUp a b r → length r.now ≡ 0 → PartShown a b (record { log = 0; from = 0; to = 0 })
  part_nothing h e = record { part = r; caught_up = h; places = nothing (no_rest r.now e) refl }

  pub part_second : CaughtUp a b r → ¬ (length r.now ≡ 0) → length a.now < length b.now →
      PartShown a b (record { log = 1; from = length a.now; to = length b.now })
  part_second (second_longer g m p) n lt = record { part = r; caught_up = second_longer g m p; places = of_second (full r.now n) lt (rest_of g p) refl }
  part_second (first_longer g m p) n lt = absurd (omega (arith, longer g, lt))
  part_second (equal e p) n lt = absurd (n (none p))
  part_second (neither u v p) n lt = absurd (n (none p))

  pub part_first : CaughtUp a b r → ¬ (length r.now ≡ 0) → length b.now ≤ length a.now →
      PartShown a b (record { log = 0; from = length b.now; to = length a.now })
  part_first (second_longer g m p) n le =
      let k = longer g in
      let z : length g.rest ≡ 0 = omega (arith, k, le) in
      absurd (n (ap length p.holds ∙ z))
  part_first (first_longer g m p) n le =
      let k = longer g in
      let h : ¬ (length g.rest ≡ 0) = λ z. n (ap length p.holds ∙ z) in
      record { part = r; caught_up = first_longer g m p; places = of_first (full r.now n) (omega (arith, k, h)) (rest_of g p) refl }
  part_first (equal e p) n le = absurd (n (none p))
  part_first (neither u v p) n le = absurd (n (none p))
