-- 01, "Marked cases", (k); and ranges narrowed twice, as 02's C-21 has it.
use Prim.Native.Nat.{ℕ}
use mathlib.Core.Path.{◌≡◌, refl}
use mathlib.Core.Bool.{Bool}
use Rattle.range.specs.Range.{within_of, first_from}
use Rattle.range.specs.Narrowing.{then_within}
use Rattle.range.specs.declared.range.AmbientRange.{AmbientRange}
use Rattle.std.specs.Prelude.{Some, None}

-- 0 to 20 by 5 within 3 to 12: 5 to 10
pub case_k : (v : Bool) → within_of (record { voice = v; min = 0; max = 20; step = 5 }) 3 12 ≡ Some (record { voice = v; min = 5; max = 10; step = 5 })
unfolding within_of first_from
case_k v = refl

module _ (v : Bool) where
  abbrev levels : (first last step : ℕ) → AmbientRange
  levels first last step = record { voice = v; min = first; max = last; step = step }

  -- 1 to 19 by 5 within 2 to 17, which is 6 to 16, and then within 0 to 11; with the second pair first; and once
  pub case_twice : (then_within (within_of (levels 1 19 5) 2 17) 0 11 ≡ Some (levels 6 11 5)) × (then_within (within_of (levels 1 19 5) 0 11) 2 17 ≡ Some (levels 6 11 5)) × (within_of (levels 1 19 5) 2 11 ≡ Some (levels 6 11 5))
  unfolding within_of first_from
  case_twice = (refl, refl, refl)

  -- each pair leaves a level, and both leave none; a pair that leaves none does so with any other, before or after it
  pub case_none : (then_within (within_of (levels 1 19 5) 0 10) 7 255 ≡ None) × (then_within (within_of (levels 1 19 5) 7 10) 0 255 ≡ None) × (then_within (within_of (levels 1 19 5) 0 255) 7 10 ≡ None)
  unfolding within_of first_from
  case_none = (refl, refl, refl)

  -- step 0, which stays 0, and a range whose ends are the wrong way round
  pub case_odd : (then_within (within_of (levels 1 19 0) 2 17) 0 11 ≡ Some (levels 2 11 0)) × (then_within (within_of (levels 4 3 1) 0 255) 0 255 ≡ None)
  unfolding within_of first_from
  case_odd = (refl, refl)
