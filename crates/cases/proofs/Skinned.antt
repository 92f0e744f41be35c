-- The trial skins are skins: computed tests.
use mathlib.Core.Path.{◌≡◌, refl}
use mathlib.Core.Bool.{Bool}
use mathlib.Core.List.{List}
use Prim.Native.Nat.{ℕ, ◌*◌}
use lib.Dec.{T as So, leb, leb→le}
use lib.IntN.{ℤ, nat_abs}
use lib.ListN.{length}
use Rattle.surface.specs.Rows.{Row, rows}
use Rattle.surface.specs.Table.{edges}
use Rattle.surface.proofs.Testing.{every, every_at}
use Rattle.corners.specs.Limits.{most_coordinate}
use Rattle.corners.specs.Skin.{Skin}
use Rattle.computed.proofs.Passing.{passes, passes_stage}
use Rattle.computed.proofs.Using.{uses_all, uses_sound}
use Rattle.cases.specs.Skins.{T, T_corners, O, O_corners, M, M_corners}

abbrev pub in_range? : List ℤ → Bool
in_range? xs = every (λ z. leb (nat_abs z) most_coordinate) xs

pub skin_sound : (n : ℕ) (T : List Row) (xs : List ℤ) → length xs ≡ 3 * n → So (passes n T) → So (in_range? xs) → So (uses_all n T) → Skin n T xs
skin_sound n T xs e p r u = record {
  stage = passes_stage n T p;
  corners = e;
  in_range = record { range = λ {z} m. leb→le (nat_abs z) most_coordinate (every_at (λ z. leb (nat_abs z) most_coordinate) xs r m) };
  used = λ l. uses_sound n T u l;
}

pub T_skin : Skin 4 (rows T) T_corners
unfolding edges rows
T_skin = skin_sound 4 (rows T) T_corners refl tt tt tt

pub O_skin : Skin 6 (rows O) O_corners
unfolding edges rows
O_skin = skin_sound 6 (rows O) O_corners refl tt tt tt

pub M_skin : Skin 7 (rows M) M_corners
unfolding edges rows
M_skin = skin_sound 7 (rows M) M_corners refl tt tt tt
