-- Items done one by one, the first first. Does s i t says that the step of the item i leads from the state s to the state t.
use Rattle.std.specs.Prelude.{◌≡◌, List, [], ◌∷◌}

-- the items lead from one state to another
pub data Leads {S I : Type 0} (Does : S → I → S → Type 0) : S → List I → S → Type 0 where
  no_step : {s t : S} → s ≡ t → Leads Does s [] t
  one_step : {s u t : S} {i : I} {l : List I} → Does s i u → Leads Does u l t → Leads Does s (i ∷ l) t
