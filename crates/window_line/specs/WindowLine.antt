-- The line by which the program `modes` tells a window's counts (C-19): `off n anc n ambient n level n`.
use Rattle.std.specs.Prelude.{ℕ, ◌+◌, ◌/◌, ◌%◌, List, [], ◌∷◌, ◌++◌, ltb}
use Rattle.base.specs.Outcome.{pick}
use Rattle.window.specs.declared.window.NoiseCounts.{NoiseCounts}

-- a count as it is shown: two digits are the most, which a window's counts never pass
abbrev pub shown : ℕ → ℕ
shown n = pick (ltb 99 n) 99 n

-- the decimal digits of a number below 100
unfoldable pub decimal_of : ℕ → List ℕ
decimal_of n = pick (ltb n 10) ((48 + n) ∷ []) ((48 + n / 10) ∷ (48 + n % 10) ∷ [])

-- `off `, ` anc `, ` ambient `, ` level ` and the line's end
unfoldable pub counts_line : NoiseCounts → List ℕ
counts_line c =
    ((0x6F ∷ 0x66 ∷ 0x66 ∷ 0x20 ∷ []) ++ decimal_of (shown c.off))
    ++ ((0x20 ∷ 0x61 ∷ 0x6E ∷ 0x63 ∷ 0x20 ∷ []) ++ decimal_of (shown c.anc))
    ++ ((0x20 ∷ 0x61 ∷ 0x6D ∷ 0x62 ∷ 0x69 ∷ 0x65 ∷ 0x6E ∷ 0x74 ∷ 0x20 ∷ []) ++ decimal_of (shown c.ambient))
    ++ ((0x20 ∷ 0x6C ∷ 0x65 ∷ 0x76 ∷ 0x65 ∷ 0x6C ∷ 0x20 ∷ []) ++ decimal_of (shown c.level))
    ++ (0x0A ∷ [])
