-- The records of the log that thinning leaves, as they stand in front of the lent one.
use mathlib.Core.Path.{◌≡◌, sym, ◌∙◌, ap}
use mathlib.Core.List.{List, [], ◌++◌, append_assoc, append-nil}
use Prim.Native.Nat.{ℕ}
use lib.IntN.{ℤ}
use lib.ListN.{length, take, drop}
use lib.Seq.{take_at, drop_at}
use Rattle.surface.specs.Record.{Record}
use Rattle.record.specs.Layout.{log_of, room_for}
use Rattle.record.proofs.Log.{log_length, log_append}
use Rattle.thin.specs.Order.{Asked}
use Rattle.thin.specs.Run.{RunOf}

-- the first records of a log in front of a room
pub front_of : (m : List Record) (rest : List ℕ) {l' : List ℕ} → l' ≡ log_of m ++ rest → (p q : List Record) → m ≡ p ++ q → take (room_for (length p)) l' ≡ log_of p
front_of m rest h p q e =
    ap (take (room_for (length p))) (h ∙ ap (λ m. log_of m ++ rest) e ∙ ap (λ m. m ++ rest) (log_append p q) ∙ append_assoc (log_of p) (log_of q) rest)
    ∙ take_at (log_of p) (log_of q ++ rest) (room_for (length p)) (log_length p)

-- and those after them
pub rest_of : {m : List Record} {l : List ℕ} → l ≡ log_of m → (p q : List Record) → m ≡ p ++ q → drop (room_for (length p)) l ≡ log_of q
rest_of h p q e = ap (drop (room_for (length p))) (h ∙ ap log_of e ∙ log_append p q) ∙ drop_at (log_of p) (log_of q) (room_for (length p)) (log_length p)

module _ {a : Asked} {xs : List ℤ} {t l : List ℕ} {k : ℕ} {t' l' : List ℕ} (w : RunOf a xs t l k t' l') where
  pub whole_log : take (room_for k) l' ≡ log_of w.log
  whole_log = ap (λ (i : ℕ). take (room_for i) l') w.count ∙ front_of w.log (drop (room_for (length w.log)) l) w.logged w.log [] (sym (append-nil w.log))

  module _ (p q : List Record) (e : w.log ≡ p ++ q) where
    -- the first ones
    pub front_log : take (room_for (length p)) l' ≡ log_of p
    front_log = front_of w.log (drop (room_for (length w.log)) l) w.logged p q e

    -- and those after them
    pub rest_log : drop (room_for (length p)) (take (room_for k) l') ≡ log_of q
    rest_log = rest_of whole_log p q e
