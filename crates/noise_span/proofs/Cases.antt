-- 01's marked case (i) in a frame, and the spans of 01's listing, computed under the house plan.
use mathlib.Core.Path.{◌≡◌, refl}
use mathlib.Core.Bool.{true}
use mathlib.Core.List.{[], ◌∷◌}
use Rattle.base.specs.Sum.{total}
use Rattle.escaping.specs.Escaping.{escapee_then, unescape_of}
use Rattle.framing.specs.Framing.{body_checked, marked}
use Rattle.noise.specs.Noise.{noise_layout, noise_of}
use Rattle.noise.specs.declared.noise.NoiseMode.TheVariants.{Off}
use Rattle.plan.specs.Plan.{entry_of, house_plan}
use Rattle.reading.specs.Items.{walk}
use Rattle.reading.specs.Reading.{reading_of}
use Rattle.noise_span.specs.NoiseSpan.{noise_in}
use Rattle.std.specs.Prelude.{Some, None}

pub case_i :
    noise_in house_plan (0x3E ∷ 0x0C ∷ 0x00 ∷ 0x00 ∷ 0x00 ∷ 0x00 ∷ 0x07 ∷ 0x67 ∷ 0x17 ∷ 0x01 ∷ 0x00 ∷ 0x00 ∷ 0x01 ∷ 0x05 ∷ 0x98 ∷ 0x3C ∷ []) ≡
    Some (record {
      mode = Off;
      mode_byte = Some 0x00;
      ambient_level = Some 0x05;
      focus_on_voice = Some true;
      settled = true;
      adaptive = None;
      adaptive_sensitivity = None;
    })
unfolding noise_in total escapee_then unescape_of body_checked marked entry_of house_plan noise_of noise_layout reading_of walk
case_i = refl

-- the same payload under table Two, which has no noise reports
pub other_table : noise_in house_plan (0x3E ∷ 0x0E ∷ 0x00 ∷ 0x00 ∷ 0x00 ∷ 0x00 ∷ 0x07 ∷ 0x67 ∷ 0x17 ∷ 0x01 ∷ 0x00 ∷ 0x00 ∷ 0x01 ∷ 0x05 ∷ 0x9A ∷ 0x3C ∷ []) ≡ None
unfolding noise_in total escapee_then unescape_of body_checked marked entry_of house_plan
other_table = refl

-- a battery report, no frame, an acknowledgement, a list of paired devices
pub listing :
    (noise_in house_plan (0x3E ∷ 0x0C ∷ 0x00 ∷ 0x00 ∷ 0x00 ∷ 0x00 ∷ 0x04 ∷ 0x23 ∷ 0x00 ∷ 0x50 ∷ 0x01 ∷ 0x84 ∷ 0x3C ∷ []) ≡ None)
    × (noise_in house_plan (0x3E ∷ 0x3C ∷ []) ≡ None)
    × (noise_in house_plan (0x3E ∷ 0x01 ∷ 0x01 ∷ 0x00 ∷ 0x00 ∷ 0x00 ∷ 0x00 ∷ 0x02 ∷ 0x3C ∷ []) ≡ None)
    × (noise_in house_plan (0x3E ∷ 0x0E ∷ 0x01 ∷ 0x00 ∷ 0x00 ∷ 0x00 ∷ 0x1C ∷ 0x37 ∷ 0x02 ∷ 0x01 ∷ 0x41 ∷ 0x41 ∷ 0x3A ∷ 0x42 ∷ 0x42 ∷ 0x3A ∷ 0x43 ∷ 0x43 ∷ 0x3A ∷ 0x44 ∷ 0x44 ∷ 0x3A ∷ 0x45 ∷ 0x45 ∷ 0x3A ∷ 0x46 ∷ 0x46 ∷ 0x01 ∷ 0x00 ∷ 0x00 ∷ 0x00 ∷ 0x02 ∷ 0x41 ∷ 0x6C ∷ 0x00 ∷ 0x61 ∷ 0x3C ∷ []) ≡ None)
unfolding noise_in total escapee_then unescape_of body_checked marked entry_of house_plan
listing = (refl, refl, refl, refl)
