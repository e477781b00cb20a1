-- 02, C-16: a count of 0, by the bytes behind the kind.
use mathlib.Core.Path.{◌≡◌, refl}
use mathlib.Core.List.{[], ◌∷◌}
use Rattle.base.specs.Outcome.{refused}
use Rattle.reading.specs.Items.{walk}
use Rattle.reading.specs.Reading.{reading_of}
use Rattle.capability.specs.Capability.{capability_of}

pub no_count : capability_of (0x61 ∷ 0x13 ∷ []) ≡ refused 26 []
unfolding reading_of walk capability_of
no_count = refl

-- three bytes match it
pub count_zero : capability_of (0x61 ∷ 0x13 ∷ 0x00 ∷ []) ≡ refused 19 []
unfolding reading_of walk capability_of
count_zero = refl

pub byte_behind : capability_of (0x61 ∷ 0x13 ∷ 0x00 ∷ 0x00 ∷ []) ≡ refused 26 []
unfolding reading_of walk capability_of
byte_behind = refl
