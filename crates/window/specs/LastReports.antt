-- 02, C-19: "the counts are those of the last so many, counted afresh".
use Rattle.std.specs.Prelude.{ℕ, ◌+◌, ◌-◌, Bool, true, false, List, [], ◌∷◌, length, drop, Option, Some, None}
use Rattle.noise.specs.declared.noise.NoiseMode.{NoiseMode}
use Rattle.noise.specs.declared.noise.NoiseMode.TheVariants.{Off, Anc, Ambient}
use Rattle.noise.specs.declared.noise.NoiseReport.{NoiseReport}
use Rattle.window.specs.declared.window.NoiseCounts.{NoiseCounts}

abbrev pub is_off : NoiseMode → Bool
is_off Off = true
is_off Anc = false
is_off Ambient = false

abbrev pub is_anc : NoiseMode → Bool
is_anc Off = false
is_anc Anc = true
is_anc Ambient = false

abbrev pub is_ambient : NoiseMode → Bool
is_ambient Off = false
is_ambient Anc = false
is_ambient Ambient = true

abbrev pub has_level : Option ℕ → Bool
has_level (Some level) = true
has_level None = false

abbrev pub one_if : Bool → ℕ
one_if true = 1
one_if false = 0

-- how many reports pass a test
abbrev pub how_many : (NoiseReport → Bool) → List NoiseReport → ℕ
how_many is [] = 0
how_many is (r ∷ rs) = one_if (is r) + how_many is rs

-- "the number of Off, Anc and Ambient among the last reports, and how many of those hold an ambient level in the decoder's answer, whatever their mode"
abbrev pub counted_afresh : List NoiseReport → NoiseCounts
counted_afresh rs =
    record {
      off = how_many (λ r. is_off r.mode) rs;
      anc = how_many (λ r. is_anc r.mode) rs;
      ambient = how_many (λ r. is_ambient r.mode) rs;
      level = how_many (λ r. has_level r.ambient_level) rs;
    }

-- the last n of a list, in the order in which they came; all of it "where fewer have come"
abbrev pub last_of : ℕ → List NoiseReport → List NoiseReport
last_of n rs = drop (length rs - n) rs
