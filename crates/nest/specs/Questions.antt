-- What is asked of a job's entries, one question after another, each of all entries.
use Rattle.std.specs.Prelude.{◌≡◌, cond, List, [], ◌∷◌, ℕ, zero, suc, ◌≤◌, ◌<◌, eqb, nat_abs, length, Option, Some, None}
use Rattle.jobform.specs.declared.Entry.{Entry}
use Rattle.jobform.specs.Limits.{most_entries}
use Rattle.nest.specs.declared.Kind.{Kind}
use Rattle.nest.specs.declared.Kind.TheVariants.{Void, Solid, Other}
use Rattle.nest.specs.Limits.{most_depth, most_sum}

-- the letters V and S
abbrev pub void_letter : ℕ
void_letter = 86

abbrev pub solid_letter : ℕ
solid_letter = 83

-- the kind that an entry is marked
abbrev pub kind_of_lem : ℕ → Kind
kind_of_lem b = cond (eqb b void_letter) Void (cond (eqb b solid_letter) Solid Other)

abbrev pub kind : Entry → Kind
kind e = kind_of_lem e.letter

-- entry i of the job es is e; numbers go from 0
abbrev pub At : List Entry → ℕ → Entry → Type 0
At [] i e = ⊥
At (d ∷ es) zero e = d ≡ e
At (d ∷ es) (suc i) e = At es i e

-- a question P answered well by every entry
abbrev pub Every : (List Entry → ℕ → Entry → Type 0) → List Entry → Type 0
Every P es = (i : ℕ) (e : Entry) → At es i e → P es i e

-- "1 to 32 skins"
pub record Counted (es : List Entry) : Type 0 where
  pub some : 0 < length es
  pub few : length es ≤ most_entries

-- "marked void or solid"
abbrev pub Marked : List Entry → ℕ → Entry → Type 0
Marked es i e = ¬ (kind e ≡ Other)

-- "naming the earlier entry it stands in. Only the first, the topmost, names none"
abbrev pub NameGood : ℕ → Option ℕ → Type 0
NameGood zero None = Unit
NameGood zero (Some j) = ⊥
NameGood (suc i) None = ⊥
NameGood (suc i) (Some j) = j < suc i

abbrev pub Named : List Entry → ℕ → Entry → Type 0
Named es i e = NameGood i e.name

-- "Kinds must alternate": an entry is of another kind than the one that it stands in
abbrev pub Alternates : List Entry → ℕ → Entry → Type 0
Alternates es i e = (j : ℕ) (d : Entry) → e.name ≡ Some j → At es j d → ¬ (kind e ≡ kind d)

-- how deep entry i stands: the one that names none at 1, any other one deeper than the entry that it stands in
pub data Deep (es : List Entry) : ℕ → ℕ → Type 0 where
  top : {i : ℕ} (e : Entry) → At es i e → e.name ≡ None → Deep es i 1
  below : {i j d : ℕ} (e : Entry) → At es i e → e.name ≡ Some j → Deep es j d → Deep es i (suc d)

-- "nesting is at most 8 deep"
abbrev pub Shallow : List Entry → ℕ → Entry → Type 0
Shallow es i e = (d : ℕ) → Deep es i d → d ≤ most_depth

-- a sum beyond the most either way is refused
abbrev pub SumIn : List Entry → ℕ → Entry → Type 0
SumIn es i e = nat_abs e.sum ≤ most_sum
