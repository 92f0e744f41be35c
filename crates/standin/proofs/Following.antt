-- Stand-in and count, record by record: the loop keeps what the rest of the log still does to them.
use mathlib.Core.Path.{◌≡◌, refl, sym, ◌∙◌, ap}
use mathlib.Core.Logic.{◌≢◌, ite}
use mathlib.Core.List.{List, [], ◌∷◌}
use Prim.Native.Nat.{ℕ, ◌+◌, ◌*◌, ◌/◌, ◌≤◌, ◌<◌}
use native.Mathlib.Decide.{ℕ_discrete}
use native.Mathlib.Omega.{arith}
use lib.ListN.{length, drop}
use lib.Seq.{drop-length}
use Rattle.surface.specs.Record.{Record}
use Rattle.surface.proofs.Renumber.{replace_at, replace_off}
use Rattle.record.specs.declared.Contracted.{Contracted}
use Rattle.record.specs.Layout.{width, record_at, records}
use Rattle.record.specs.Inner.{IsContracted}
use Rattle.standin.specs.StandIn.{counted, stand_in, moves}
use Rattle.record.proofs.Places.{records_length, records_from}

-- ---- one record

module _ {v : ℕ} (k : Record) where
  counted_at : v ≡ k.removed → counted v k ≡ 1
  unfolding counted
  counted_at e = go (ℕ_discrete v k.removed)
    where
      go : (d : Dec (v ≡ k.removed)) → ite {C = ℕ} d 1 0 ≡ 1
      go (yes h) = refl
      go (no h) = absurd (h e)

  counted_off : v ≢ k.removed → counted v k ≡ 0
  unfolding counted
  counted_off ne = go (ℕ_discrete v k.removed)
    where
      go : (d : Dec (v ≡ k.removed)) → ite {C = ℕ} d 1 0 ≡ 0
      go (yes h) = absurd (ne h)
      go (no h) = refl

  -- the removed number is the stand-in: it becomes the kept one, and counts one
  pub moved_on : (l : List Record) → v ≡ k.removed → (stand_in v (k ∷ l) ≡ stand_in k.kept l) × (moves v (k ∷ l) ≡ 1 + moves k.kept l)
  unfolding stand_in moves
  moved_on l e = let h = replace_at k.kept k.removed e in (ap (λ z. stand_in z l) h, λ i. counted_at e i + moves (h i) l)

  -- else it stays
  pub stayed : (l : List Record) → v ≢ k.removed → (stand_in v (k ∷ l) ≡ stand_in v l) × (moves v (k ∷ l) ≡ moves v l)
  unfolding stand_in moves
  stayed l ne = let h = replace_off k.kept k.removed ne in let c = counted_off ne in (ap (λ z. stand_in z l) h, rw (h, c) (omega arith))

-- ---- the loop: at place j of the log the corner v stands at `at`, moved there by `moved` records

pub record Following (log : List ℕ) (v at moved j : ℕ) : Type 0 where
  pub inside : j ≤ length log / width
  pub few : moved ≤ j
  pub place : stand_in at (drop j (records log)) ≡ stand_in v (records log)
  pub count : moved + moves at (drop j (records log)) ≡ moves v (records log)

module _ {log : List ℕ} {v : ℕ} where
  module _ {at moved j : ℕ} (f : Following log v at moved j) where
    -- one record more, which moves the stand-in or does not
    pub follow_moved : j < length log / width → {e : Contracted} → IsContracted (record_at log (width * j)) e → e.removed.0 ≡ at → Following log v e.kept.0 (moved + 1) (j + 1)
    follow_moved h {e} is here =
        let r = records_from log j h in
        let m = moved_on (record_at log (width * j)) (drop (j + 1) (records log)) (sym here ∙ is.removed) in
        let p = rw r at f.place in
        let c = rw r at f.count in
        let l = f.few in
        rw is.kept (record { inside = omega arith; few = omega arith; place = sym m.0 ∙ p; count = let z = m.1 in omega arith })

    pub follow_stayed : j < length log / width → {e : Contracted} → IsContracted (record_at log (width * j)) e → e.removed.0 ≢ at → Following log v at moved (j + 1)
    follow_stayed h {e} is there =
        let r = records_from log j h in
        let m = stayed (record_at log (width * j)) (drop (j + 1) (records log)) (λ z. there (is.removed ∙ sym z)) in
        let p = rw r at f.place in
        let c = rw r at f.count in
        let l = f.few in
        record { inside = omega arith; few = omega arith; place = sym m.0 ∙ p; count = let z = m.1 in omega arith }

    pub follow_end : length log / width ≤ j → (at ≡ stand_in v (records log)) × (moved ≡ moves v (records log))
    unfolding stand_in moves
    follow_end h =
        let n = records_length log in
        let i = f.inside in
        let d : drop j (records log) ≡ [] = ap (λ z. drop z (records log)) (let z : j ≡ length (records log) = omega arith in z) ∙ drop-length (records log) in
        let p = rw d at f.place in
        let c = rw d at f.count in
        (p, omega arith)
