-- How many digits a number of a line can have.
use Rattle.std.specs.Prelude.{ℕ}

-- plain numbers of so many digits fit 32 bits, with a sign too
abbrev pub most_plain : ℕ
most_plain = 9

-- numbers of so many digits fit 64 bits with a sign
abbrev pub most_signed : ℕ
most_signed = 18
