-- Records in a log: none, one, and records after records.
use mathlib.Core.Path.{◌≡◌, refl, sym, ◌∙◌, ap}
use mathlib.Core.List.{List, [], ◌∷◌, ◌++◌, append_assoc, append-nil}
use Prim.Native.Nat.{ℕ, ◌+◌, ◌-◌, ◌≤◌}
use native.Mathlib.Omega.{arith}
use lib.ListN.{length, take, drop, length-append, take-append-drop}
use lib.Seq.{sets, sets-eq, length-sets, take_at, drop_at, drop-drop, length-take-le}
use Rattle.surface.specs.Record as surface
use Rattle.record.specs.Layout.{width, log_of, numbers, room_for}
use Rattle.record.proofs.Log.{numbers_length_lem, log_length, log_append}
use Rattle.quick.specs.InnerGround.{Logged}

pub logged_none : (l : List ℕ) (d : ℕ) → room_for d ≤ length l → Logged [] l d d l
logged_none l d h = record { count = omega arith; same = refl; inside = h; logged = unfold log_of in sym (take-append-drop (room_for d) l) }

pub logged_one : (l : List ℕ) (d : ℕ) (l' : List ℕ) (k : surface.Record) → room_for d + width ≤ length l → l' ≡ sets l (room_for d) (numbers k) → Logged (k ∷ []) l d (d + 1) l'
logged_one l d l' k room wrote = record {
  count = omega arith;
  same = ap length wrote ∙ length-sets l (room_for d) (numbers k);
  inside = omega arith;
  logged =
      wrote
      ∙ sets-eq (numbers k) l (room_for d) (omega (arith, numbers_length_lem k))
      ∙ append_assoc (take (room_for d) l) (numbers k) (drop (room_for d + length (numbers k)) l)
      ∙ (λ i. take (room_for d) l ++ (one i ++ drop (after i) l));
}
  where
    one : numbers k ≡ log_of (k ∷ [])
    one = unfold log_of in sym (append-nil (numbers k))

    after : room_for d + length (numbers k) ≡ room_for (d + 1)
    after = omega (arith, numbers_length_lem k)

pub logged_on : {a b : List surface.Record} {l : List ℕ} {d d₁ d₂ : ℕ} {l₁ l₂ : List ℕ} → Logged a l d d₁ l₁ → Logged b l₁ d₁ d₂ l₂ → Logged (a ++ b) l d d₂ l₂
logged_on {a} {b} {l} {d} {d₁} {d₂} {l₁} {l₂} p q = record {
  count = let x = p.count in let y = q.count in omega (arith, length-append a b);
  same = q.same ∙ p.same;
  inside = let x = q.inside in let y = p.same in omega arith;
  logged =
      q.logged
      ∙ (λ i. before i ++ (log_of b ++ after i))
      ∙ append_assoc (take (room_for d) l) (log_of a) (log_of b ++ drop (room_for d₂) l)
      ∙ ap (λ z. take (room_for d) l ++ z) (sym (append_assoc (log_of a) (log_of b) (drop (room_for d₂) l)) ∙ ap (λ z. z ++ drop (room_for d₂) l) (sym (log_append a b)));
}
  where
    ends : length (take (room_for d) l ++ log_of a) ≡ room_for d₁
    ends =
        let c = p.count in
        let i = p.inside in
        let e : length (take (room_for d) l) ≡ room_for d = length-take-le (room_for d) l (omega arith) in
        omega (arith, length-append (take (room_for d) l) (log_of a), log_length a)

    is : l₁ ≡ take (room_for d) l ++ log_of a ++ drop (room_for d₁) l
    is = p.logged ∙ sym (append_assoc (take (room_for d) l) (log_of a) (drop (room_for d₁) l))

    before : take (room_for d₁) l₁ ≡ take (room_for d) l ++ log_of a
    before = ap (take (room_for d₁)) is ∙ take_at (take (room_for d) l ++ log_of a) (drop (room_for d₁) l) (room_for d₁) ends

    past : drop (room_for d₁) l₁ ≡ drop (room_for d₁) l
    past = ap (drop (room_for d₁)) is ∙ drop_at (take (room_for d) l ++ log_of a) (drop (room_for d₁) l) (room_for d₁) ends

    after : drop (room_for d₂) l₁ ≡ drop (room_for d₂) l
    after =
        let c = q.count in
        let m : room_for d₁ + (room_for d₂ - room_for d₁) ≡ room_for d₂ = omega arith in
        ap (λ z. drop z l₁) (sym m)
        ∙ sym (drop-drop (room_for d₂ - room_for d₁) (room_for d₁) l₁)
        ∙ ap (drop (room_for d₂ - room_for d₁)) past
        ∙ drop-drop (room_for d₂ - room_for d₁) (room_for d₁) l
        ∙ ap (λ z. drop z l) m
