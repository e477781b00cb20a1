-- 01, "Marked cases", (j).
use mathlib.Core.Path.{◌≡◌, refl}
use mathlib.Core.List.{[], ◌∷◌}
use Rattle.base.specs.Outcome.{accepted, refused}
use Rattle.reading.specs.Items.{walk}
use Rattle.reading.specs.Reading.{reading_of}
use Rattle.paired.specs.Paired.{paired_of}

pub no_devices : paired_of (0x37 ∷ 0x02 ∷ 0x00 ∷ 0x00 ∷ []) ≡ accepted 0
unfolding reading_of walk
no_devices = refl

pub no_last_byte : paired_of (0x37 ∷ 0x02 ∷ 0x00 ∷ []) ≡ refused 26 []
unfolding reading_of walk
no_last_byte = refl
