-- 01's marked case of this reading, computed; and 02, C-16: a kind has one length.
use mathlib.Core.Path.{◌≡◌, refl}
use mathlib.Core.Bool.{true}
use mathlib.Core.List.{[], ◌∷◌}
use lib.Dec.{eqb}
use Rattle.base.specs.Outcome.{accepted}
use Rattle.reading.specs.Items.{walk}
use Rattle.reading.specs.Reading.{reading_of, by_kind}
use Rattle.reading.proofs.LawsReading.{OneLength, layout_length, Causes, layout_causes, either_layout, accepted_layout, no_layout_lem}
use Rattle.noise.specs.Noise.{noise_layout, noise_of}
use Rattle.noise.specs.declared.noise.NoiseMode.TheVariants.{Off}
use Rattle.std.specs.Prelude.{Some, None}

-- (i): Off, though the rest says cancelling at level 5
pub case_i :
    noise_of (0x67 ∷ 0x17 ∷ 0x01 ∷ 0x00 ∷ 0x00 ∷ 0x01 ∷ 0x05 ∷ []) ≡
    accepted (record {
      mode = Off;
      mode_byte = Some 0x00;
      ambient_level = Some 0x05;
      focus_on_voice = Some true;
      settled = true;
      adaptive = None;
      adaptive_sensitivity = None;
    })
unfolding noise_of noise_layout reading_of walk
case_i = refl

pub noise_length : OneLength noise_of
unfolding noise_of
noise_length = layout_length noise_layout

pub noise_causes : Causes (λ k. (noise_layout k).serves) (by_kind (λ k. (noise_layout k).len)) noise_of
unfolding noise_of noise_layout
noise_causes = layout_causes noise_layout (λ k.
    either_layout (eqb k 0x15) (accepted_layout 7 _) (either_layout (eqb k 0x17) (accepted_layout 7 _) (either_layout (eqb k 0x19) (accepted_layout 9 _)
    (either_layout (eqb k 0x22) (accepted_layout 6 _) (either_layout (eqb k 0x13) (accepted_layout 7 _) (either_layout (eqb k 0x01) (accepted_layout 5 _) no_layout_lem))))))
