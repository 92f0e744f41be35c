-- What inner functions are asked on and give: no public contract names it.
use Rattle.std.specs.Prelude.{◌≡◌, Bool, List, map, ℕ, zero, suc, ◌≤◌, ◌<◌, ℤ, pos, ◌-ℤ◌, nat_abs, length, get_or, Option, Some, None}
use Rattle.refusal.specs.InnerTells.{Tells}
use Rattle.jobform.specs.declared.Entry.{Entry}
use Rattle.jobform.specs.Limits.{most_entries}
use Rattle.nest.specs.declared.Question.{Question}
use Rattle.nest.specs.declared.Question.TheVariants as ask
use Rattle.nest.specs.Limits.{most_sum}
use Rattle.nest.specs.Questions.{At, Marked, Named, Alternates, Shallow, SumIn}
use Rattle.nest.specs.Net.{names, added, told_sum}

-- what each question asks of an entry
abbrev pub asks : Question → List Entry → ℕ → Entry → Type 0
asks ask.Kind = Marked
asks ask.Name = Named
asks ask.Alternation = Alternates
asks ask.Depth = Shallow
asks ask.Sum = SumIn

-- each names one with a lesser number, or none
abbrev pub Earlier : List Entry → Type 0
Earlier es = (i j : ℕ) (e : Entry) → At es i e → e.name ≡ Some j → j < i

-- and what was asked before it
abbrev pub Before : Question → List Entry → Type 0
Before ask.Kind es = Unit
Before ask.Name es = Unit
Before ask.Alternation es = Earlier es
Before ask.Depth es = Earlier es
Before ask.Sum es = Unit

-- yes where entry i answers a question well, and no where it does not
abbrev pub Answered : (List Entry → ℕ → Entry → Type 0) → ℕ → List Entry → Bool → Type 0
Answered P i es r = (e : Entry) → At es i e → Tells r (P es i e) (¬ P es i e)

-- ---- nets by the depth that is left

-- the name of entry i as its line tells it
abbrev pub told_name : List Entry → ℕ → Option ℕ
told_name es i = get_or (map (λ e. e.name) es) i None

-- entry k names entry i
abbrev pub named_in : List Entry → ℕ → ℕ → Bool
named_in es i k = names i (told_name es k)

-- what is deeper than so much is not looked at
unfoldable pub net_within : ℕ → List Entry → ℕ → ℤ
net_within zero es i = told_sum es i -ℤ pos 0
net_within (suc d) es i = told_sum es i -ℤ added (net_within d es) (named_in es i) (length es)

-- sums that can be added up
pub record Summable (es : List Entry) : Type 0 where
  pub few : length es ≤ most_entries
  pub small : (k : ℕ) → nat_abs (told_sum es k) ≤ most_sum
