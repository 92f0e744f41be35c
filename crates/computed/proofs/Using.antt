-- A table that passes a computed test uses every corner.
use mathlib.Core.Path.{◌≡◌, sym}
use mathlib.Core.Bool.{Bool}
use mathlib.Core.List.Memᴰ
use mathlib.Core.List.{List, map}
use Prim.Native.Nat.{ℕ, ◌<◌}
use lib.Dec.{T as So, eqb, eqb→eq, eqb_refl}
use Rattle.surface.specs.Lists.{◌∈◌}
use Rattle.surface.specs.Rows.{Row}
use Rattle.surface.specs.Table.{Arrow, ◌⇒◌, Used, edges}
use Rattle.surface.proofs.Once.{in_edge}
use Rattle.surface.proofs.Testing.{every, every_at, among, among_sound}
use Rattle.surface.proofs.Round.{source_of, upto, every_upto}

-- v begins a directed edge
abbrev begins : List Row → ℕ → Bool
begins T v = among eqb v (map source_of (edges T))

begins_sound : (T : List Row) (v : ℕ) → So (begins T v) → Used T v
begins_sound T v h =
    let m = Memᴰ.of_map source_of (edges T) (among_sound eqb eqb→eq eqb_refl (map source_of (edges T)) h) in
    go m.0 m.1 m.2
  where
    go : (a : Arrow) → a ∈ edges T → source_of a ≡ v → Used T v
    go (p ⇒ q) m e = rw (sym e) (q, in_edge T m)

abbrev pub uses_all : ℕ → List Row → Bool
uses_all n T = every (begins T) (upto n)

pub uses_sound : (n : ℕ) (T : List Row) → So (uses_all n T) → {v : ℕ} → v < n → Used T v
uses_sound n T h {v} l = begins_sound T v (every_at (begins T) (upto n) h (every_upto n v l))
