-- `write_flip` meets its contract.
use mathlib.Core.Path.{◌∙◌, ap}
use mathlib.Core.List.{List, [], ◌∷◌}
use Prim.Native.Nat.{ℕ, ◌+◌}
use native.Mathlib.Numerals.{towards_suc}
use lib.Seq.{sets}
use Rattle.fliplog.proofs.write_flip.Goals as goal

pub returns : goal.returns
returns c =
    let args = c.args in
    let z = args.r.second in
    c.write_leaving-2.ensures ∙ ap (λ (l : List ℕ). sets l (args.i + 4) (z.place.0 ∷ z.a.0 ∷ z.b.0 ∷ z.c.0 ∷ [])) c.write_leaving.ensures ∙ simp towards_suc
