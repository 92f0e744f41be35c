-- What a sheet in its form holds: refused and its number told, or a skin, thinned and told.
use mathlib.Core.Path.{◌≡◌, refl}
use mathlib.Core.List.{List}
use Prim.Native.Nat.{ℕ, ◌*◌}
use native.Mathlib.Omega.{arith}
use lib.IntN.{ℤ}
use lib.ListN.{take}
use Rattle.std.specs.Prelude.{Result, Ok, Err}
use Rattle.refusal.specs.declared.Refusal.{Refusal}
use Rattle.faults.specs.Counts.{corners}
use Rattle.faults.specs.Inner.{CheckedFirst}
use Rattle.form.specs.Inner.{FormRead}
use Rattle.form.proofs.Within.{held_refusals, its_held}
use Rattle.tell.specs.Text.{no_text}
use Rattle.tell.specs.Put.{Put}
use Rattle.reply.specs.Outcome.{NoSkin, bad_skin, no, ok, Replied}
use Rattle.reply.specs.Inner.{RunPut, SkinRead}

module _ {b : List ℕ} {n m : ℕ} {xroom : List ℤ} {troom : List ℕ} (f : FormRead b n m xroom troom) where
  pub skin_refused : {r : Refusal} → CheckedFirst (take (n * 3) xroom) (take (m * 3) troom) (Err r) → NoSkin b r
  skin_refused {r} k = bad_skin f.passes f.sheet (held_refusals (its_held f) (Err r) k.holds)

  pub skin_read : CheckedFirst (take (n * 3) xroom) (take (m * 3) troom) (Ok tt) → SkinRead b n m xroom troom
  skin_read k =
      let c = f.sheet.corners in
      let r = f.sheet.rows in
      let p = f.counts.most in
      let q = f.counts.many in
      let counted : corners (take (n * 3) xroom) ≡ n = omega arith in
      record {
        form = f;
        of = record { n = n; m = m; form = f.passes; sheet = f.sheet; passes = held_refusals (its_held f) (Ok tt) k.holds; skin = rw counted at (k.skin refl) };
        skin = record { threes = omega arith; most = omega arith; many = omega arith; skin = k.skin refl };
      }

-- ---- and told

pub refusal_told : {b text : List ℕ} {r : Refusal} {a : Result ℕ Refusal} {text' : List ℕ} → NoSkin b r → Put (no_text r) text a text' → Replied b text a text'
refusal_told {r = r} n p = record { txt = no_text r; answers = no n refl; put = p }

pub skin_told : {b text : List ℕ} {n m : ℕ} {xroom : List ℤ} {troom : List ℕ} {a : Result ℕ Refusal} {text' : List ℕ} → SkinRead b n m xroom troom → RunPut (take (n * 3) xroom) (take (m * 3) troom) text a text' → Replied b text a text'
skin_told s r = record { txt = r.txt; answers = ok s.of r.tells; put = r.put }
