-- Where nothing is refused, the log may be grown back in the room.
use mathlib.Core.Path.{refl}
use mathlib.Core.List.{List}
use Prim.Native.Nat.{ℕ, ◌*◌}
use native.Mathlib.Omega.{arith}
use lib.Seq.{length-take-le}
use Rattle.std.specs.Prelude.{Ok}
use Rattle.record.proofs.Front.{standing_length}
use Rattle.growable.specs.Inner.{JudgedGrowing}
use Rattle.regrow.specs.Inner.{CanGrow}

module _ (n m : ℕ) (room log : List ℕ) where
  pub grow_ready : JudgedGrowing n m room log (Ok tt) → CanGrow n m room log
  grow_ready j =
      let h = j.room_enough refl in
      let e = length-take-le (3 * m) room (omega arith) in
      let k = standing_length m room (omega arith) in
      record { table = record { count = omega arith; stage = j.stage refl }; fits = h }
