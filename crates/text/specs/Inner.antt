-- What inner functions answer.
use Rattle.std.specs.Prelude.{ℕ, ◌+◌, Bool, false, List, ltb, length, get_or, Option, Some, None}
use Rattle.base.specs.Outcome.{pick}
use Rattle.text.specs.Text.{in_range}

-- so many characters before others
abbrev pub onto : ℕ → Option ℕ → Option ℕ
onto n (Some m) = Some (n + m)
onto n None = None

-- whether there is a byte from low to high at a place
abbrev pub follows_at : List ℕ → ℕ → ℕ → ℕ → Bool
follows_at bytes at low high = pick (ltb at (length bytes)) (in_range low high (get_or bytes at 0)) false
