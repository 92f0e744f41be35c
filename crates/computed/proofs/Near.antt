-- Round a corner of a small table, computed: who follows whom, and which are the neighbours.
use mathlib.Core.Path.{◌≡◌}
use mathlib.Core.List.Memᴰ
use mathlib.Core.List.{List, map}
use Prim.Native.Nat.{ℕ}
use lib.Dec.{T as So, eqb, eqb→eq, eqb_refl}
use lib.ListN.{length}
use Rattle.surface.specs.Lists.{◌∈◌, Exactly}
use Rattle.surface.specs.Rows.{Row}
use Rattle.surface.specs.Table.{Arrow, ◌⇒◌, Follows, Edge}
use Rattle.surface.proofs.Testing.{among, among_sound, among_whole, differ, differ_sound, arrow_eq, arrow_sound, arrow_whole}
use Rattle.surface.proofs.Round.{round, round_sound, round_whole, source_of}

pub follows : (T : List Row) {v p q : ℕ} → So (among arrow_eq (p ⇒ q) (round v T)) → Follows T v p q
follows T {v} h = round_sound T (among_sound arrow_eq arrow_sound arrow_whole (round v T) h)

pub follows_whole : (T : List Row) {v p q : ℕ} → Follows T v p q → So (among arrow_eq (p ⇒ q) (round v T))
follows_whole T {v} f = among_whole arrow_eq arrow_sound arrow_whole (round v T) (round_whole T f)

abbrev pub near : ℕ → List Row → List ℕ
near v T = map source_of (round v T)

pub near_sound : (v w : ℕ) (T : List Row) → w ∈ near v T → Edge T v w
near_sound v w T m = let r = Memᴰ.of_map source_of (round v T) m in go r.0 r.1 r.2
  where
    go : (a : Arrow) → a ∈ round v T → source_of a ≡ w → Edge T v w
    go (p ⇒ q) m e = (q, rw e at (round_sound {v = v} {p = p} {q = q} T m))

pub near_whole : (v w : ℕ) (T : List Row) → Edge T v w → w ∈ near v T
near_whole v w T e = Memᴰ.map source_of (round_whole T e.1)

-- so many neighbours
pub neighbours : (v : ℕ) (T : List Row) {k : ℕ} → So (differ eqb (near v T)) → length (near v T) ≡ k → Exactly (Edge T v) k
neighbours v T h e = record { list = near v T; distinct = differ_sound eqb eqb→eq eqb_refl (near v T) h; all = λ e. near_whole v _ T e; only = λ m. near_sound v _ T m; count = e }
