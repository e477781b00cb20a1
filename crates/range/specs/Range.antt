-- 01, "Beside the log": `AmbientRange::admits` and `within`.
use Rattle.std.specs.Prelude.{ℕ, ◌+◌, ◌-◌, ◌*◌, ◌/◌, ◌%◌, min, max, Bool, false, ◌||◌, [], ltb, leb, eqb, ℤ, pos, negsuc, Option, Some, None}
use Rattle.base.specs.Outcome.{Outcome, accepted, refused, pick}
use Rattle.range.specs.declared.range.AmbientRange.{AmbientRange}

-- outside min and max no; step 0 is 22; else whether the level is a whole number of steps above min
unfoldable pub admits_of : AmbientRange → ℤ → Outcome Bool
admits_of r (negsuc n) = accepted false
admits_of r (pos n) =
    pick (ltb n r.min || ltb r.max n) (accepted false) (
    pick (eqb r.step 0) (refused 22 []) (
    accepted (eqb ((n - r.min) % r.step) 0)))

-- the least level at or above `lo` on the steps from `min`: the number of steps is rounded up
unfoldable pub first_from : (min step lo : ℕ) → ℕ
first_from min step lo = pick (leb lo min) min (min + (lo - min + (step - 1)) / step * step)

-- the greatest level at or below `top` on the steps from `min`: the number of steps is rounded down
abbrev pub last_to : (min step top : ℕ) → ℕ
last_to min step top = min + (top - min) / step * step

-- the range with these ends, of the same voice and step, unless it is empty
abbrev pub between : AmbientRange → (first last : ℕ) → Option AmbientRange
between r first last = pick (ltb last first) None (Some (record { voice = r.voice; min = first; max = last; step = r.step }))

-- from the first level not below `lo` to the last not above `hi`, by steps of at least 1
unfoldable pub within_of : AmbientRange → (lo hi : ℕ) → Option AmbientRange
within_of r lo hi =
    pick (ltb (min r.max hi) r.min) None (
    between r (first_from r.min (max 1 r.step) lo) (last_to r.min (max 1 r.step) (min r.max hi)))
