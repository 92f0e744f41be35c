-- A flip, and undoing it, keep a stage.
use mathlib.Core.Path.{refl, sym, ◌∙◌}
use mathlib.Core.List.{List}
use Prim.Native.Nat.{ℕ}
use Rattle.surface.specs.Rows.{Row}
use Rattle.surface.specs.Stage.{Stage}
use Rattle.surface.proofs.Main.{euler_there, euler_one}
use Rattle.flips.specs.Flip.{Flip, Flips}
use Rattle.flips.specs.Undo.{Undone}
use Rattle.flips.specs.Kept.{StageKept}
use Rattle.flips.proofs.Flips.{flip_stage, flip_length, flip_used, flip_euler}

module _ {n : ℕ} where
  pub kept_none : {T : List Row} → Stage n T → StageKept n T T
  kept_none {T} s = let e = euler_there n T s in record { before = s; after = s; size = refl; used = (λ u. u, λ u. u); χ = e.0; euler_before = e.1; euler_after = e.1 }

  pub kept_on : {T₁ T₂ T₃ : List Row} → StageKept n T₁ T₂ → StageKept n T₂ T₃ → StageKept n T₁ T₃
  kept_on {T₁} {T₂} k m = record {
    before = k.before;
    after = m.after;
    size = m.size ∙ k.size;
    used = (λ u. m.used.0 (k.used.0 u), λ u. k.used.1 (m.used.1 u));
    χ = m.χ;
    euler_before = rw (euler_one n T₂ m.before m.euler_before k.euler_after) k.euler_before;
    euler_after = m.euler_after;
  }

  kept_back : {T T' : List Row} → StageKept n T T' → StageKept n T' T
  kept_back k = record {
    before = k.after;
    after = k.before;
    size = sym k.size;
    used = (λ u. k.used.1 u, λ u. k.used.0 u);
    χ = k.χ;
    euler_before = k.euler_after;
    euler_after = k.euler_before;
  }

  pub flip_keeps : {T T' : List Row} {a b : ℕ} {k : Flip} → Stage n T → Flips T a b k T' → StageKept n T T'
  flip_keeps {T} {T'} s f =
      let e = euler_there n T s in
      let e' = euler_there n T' (flip_stage s f) in
      record {
        before = s;
        after = flip_stage s f;
        size = flip_length s f;
        used = flip_used s f;
        χ = e.0;
        euler_before = e.1;
        euler_after = rw (flip_euler s f e.1 e'.1) e'.1;
      }

  pub undo_keeps : {T T' : List Row} {k : Flip} → Undone n T' k T → StageKept n T' T
  undo_keeps u = kept_back (flip_keeps u.stage u.flips)
