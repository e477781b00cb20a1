-- 02, C-21: a range narrowed to one pair of bounds and then to another.
use Rattle.std.specs.Prelude.{ℕ, ◌≤◌, ◌≡◌, true, ℤ, pos, negsuc, Option, Some, None}
use Rattle.base.specs.Outcome.{accepted}
use Rattle.range.specs.Range.{admits_of, within_of}
use Rattle.range.specs.declared.range.AmbientRange.{AmbientRange}

-- what a narrowing has left, narrowed again: where nothing is left, nothing
abbrev pub then_within : Option AmbientRange → (lo hi : ℕ) → Option AmbientRange
then_within None lo hi = None
then_within (Some r) lo hi = within_of r lo hi

-- whether what is left admits a level: `admits` says yes
abbrev pub Admits : Option AmbientRange → ℤ → Type 0
Admits None z = ⊥
Admits (Some r) z = admits_of r z ≡ accepted true

-- a level that lies in a pair of bounds, both included
abbrev pub LiesIn : (lo hi : ℕ) → ℤ → Type 0
LiesIn lo hi (pos n) = (lo ≤ n) × (n ≤ hi)
LiesIn lo hi (negsuc n) = ⊥
