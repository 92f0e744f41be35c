-- What an answer tells: 01's number, 0 for done, and the values that come with it. Each answer's own definition lists these for its cases.
use Rattle.std.specs.Prelude.{List, [], ◌∷◌, ℕ, ℤ, pos}
use Rattle.refusal.specs.declared.Refusal.{Refusal}
use Rattle.refusal.specs.Number.{number}

pub record Told : Type 0 where
  pub number : ℕ
  pub values : List ℤ

-- done, with its values
abbrev pub done : List ℤ → Told
done vs = record { number = 0; values = vs }

-- a refusal's number alone
abbrev pub refused_as : ℕ → Told
refused_as n = record { number = n; values = [] }

abbrev pub refused : Refusal → Told
refused r = refused_as (number r)

-- a refusal's number, and how many items of a list were done before the one that it is given for
abbrev pub stopped_as : ℕ → ℕ → Told
stopped_as n k = record { number = n; values = pos k ∷ [] }
