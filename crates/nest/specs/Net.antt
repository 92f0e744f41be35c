-- The nets of a job: "A void's net is its own exact sum less the nets of the solids directly in it; a solid's net is worked the same way over the
-- voids in it."
use Rattle.std.specs.Prelude.{◌≡◌, Bool, true, false, cond, ◌&&◌, List, [], ◌∷◌, map, ℕ, zero, suc, eqb, ℤ, pos, ◌+ℤ◌, ◌-ℤ◌, length, get_or, Option, Some, None}
use Rattle.jobform.specs.declared.Entry.{Entry}
use Rattle.nest.specs.declared.Kind.{Kind}
use Rattle.nest.specs.declared.Kind.TheVariants.{Void, Solid, Other}
use Rattle.nest.specs.Questions.{kind, At}

abbrev pub is_void : Kind → Bool
is_void Void = true
is_void Solid = false
is_void Other = false

abbrev pub is_solid : Kind → Bool
is_solid Void = false
is_solid Solid = true
is_solid Other = false

-- the name is that of entry i
abbrev pub names : ℕ → Option ℕ → Bool
names i None = false
names i (Some j) = eqb j i

-- entry k of es is of a kind and stands directly in entry i
abbrev pub stands : (Kind → Bool) → List Entry → ℕ → ℕ → Bool
stands is [] i k = false
stands is (e ∷ es) i zero = is (kind e) && names i e.name
stands is (e ∷ es) i (suc k) = stands is es i k

-- of the first m entries, the nets of those that stand there, added up
unfoldable pub added : (ℕ → ℤ) → (ℕ → Bool) → ℕ → ℤ
added net there zero = pos 0
added net there (suc m) = added net there m +ℤ cond (there m) (net m) (pos 0)

-- the nets of the entries es whose own exact sums are these: 02's two sentences
pub record Nets (es : List Entry) (own net : ℕ → ℤ) : Type 0 where
  pub of_void : (i : ℕ) (e : Entry) → At es i e → kind e ≡ Void → net i ≡ own i -ℤ added net (stands is_solid es i) (length es)
  pub of_solid : (i : ℕ) (e : Entry) → At es i e → kind e ≡ Solid → net i ≡ own i -ℤ added net (stands is_void es i) (length es)

-- the sum of entry i as its line tells it
abbrev pub told_sum : List Entry → ℕ → ℤ
told_sum es i = get_or (map (λ e. e.sum) es) i (pos 0)
