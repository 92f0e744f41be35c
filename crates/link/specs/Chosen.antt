-- "The ring chooser hands back the shorter of two lent rings, the first when they are equally long."
use Rattle.std.specs.Prelude.{◌≡◌, ◌⊎◌, List, ℕ, ◌≤◌, ◌<◌, length}
use Rattle.std.specs.Borrow.{Bor}

-- r is the caller's own slice: the second where it is shorter, else the first
abbrev pub Chosen : Bor (List ℕ) → Bor (List ℕ) → Bor (List ℕ) → Type 0
Chosen a b r = ((length a.now ≤ length b.now) × (r ≡ a)) ⊎ ((length b.now < length a.now) × (r ≡ b))
