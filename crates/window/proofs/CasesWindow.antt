-- A window of two and one of a single report, computed over the definitions; and the ends of the width.
use mathlib.Core.Path.{◌≡◌, refl}
use mathlib.Core.Bool.{true}
use mathlib.Core.List.{List, [], ◌∷◌}
use lib.Count.{ones_in}
use Rattle.noise.specs.declared.noise.NoiseMode.{NoiseMode}
use Rattle.noise.specs.declared.noise.NoiseMode.TheVariants.{Off, Anc, Ambient}
use Rattle.noise.specs.declared.noise.NoiseReport.{NoiseReport}
use Rattle.window.specs.LastReports.{counted_afresh, last_of}
use Rattle.window.specs.Window.{width_of, opened, pushed, pushed_all, with_newest, counts_of}
use Rattle.std.specs.Prelude.{ℕ, Option, Some, None}

abbrev report : NoiseMode → Option ℕ → NoiseReport
report mode level =
    record {
      mode = mode;
      mode_byte = None;
      ambient_level = level;
      focus_on_voice = None;
      settled = true;
      adaptive = None;
      adaptive_sensitivity = None;
    }

-- Off at level 5, as 01's marked case (i) reads; Anc without a level; Ambient at level 20
abbrev three : List NoiseReport
three = report Off (Some 5) ∷ report Anc None ∷ report Ambient (Some 20) ∷ []

last_two : counted_afresh (last_of 2 three) ≡ record { off = 0; anc = 1; ambient = 1; level = 1 }
last_two = refl

all_three : counted_afresh (last_of 64 three) ≡ record { off = 1; anc = 1; ambient = 1; level = 2 }
all_three = refl

window_of_two : counts_of (pushed_all (opened 2) three) ≡ record { off = 0; anc = 1; ambient = 1; level = 1 }
unfolding opened pushed with_newest counts_of ones_in
window_of_two = refl

-- a width of 0 is that of a single report
window_of_one : counts_of (pushed_all (opened 0) three) ≡ record { off = 0; anc = 0; ambient = 1; level = 1 }
unfolding opened pushed with_newest counts_of ones_in
window_of_one = refl

none_yet : counts_of (opened 10) ≡ record { off = 0; anc = 0; ambient = 0; level = 0 }
unfolding opened counts_of ones_in
none_yet = refl

width_ends : (width_of 0 ≡ 1) × (width_of 1 ≡ 1) × (width_of 64 ≡ 64) × (width_of 65 ≡ 64) × (width_of 18446744073709551615 ≡ 64)
width_ends = (refl, refl, refl, refl, refl)
