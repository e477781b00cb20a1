-- Every count of a window is shown as it is; and two lines, computed. Assumes nothing.
use mathlib.Core.Path.{◌≡◌, refl}
use mathlib.Core.List.{[], ◌∷◌}
use native.Mathlib.Omega.{arith}
use Rattle.window.specs.Window.{counts_of}
use Rattle.window.specs.declared.window.NoiseCounts.{NoiseCounts}
use Rattle.window.specs.declared.window.NoiseWindow.{NoiseWindow}
use Rattle.window.proofs.LawsWindow.{counts_within}
use Rattle.window_line.specs.WindowLine.{shown, decimal_of, counts_line}
use Rattle.window_line.proofs.LawsWindowLine.{shown_all}

pub record AllShown (c : NoiseCounts) : Type 0 where
  pub off : shown c.off ≡ c.off
  pub anc : shown c.anc ≡ c.anc
  pub ambient : shown c.ambient ≡ c.ambient
  pub level : shown c.level ≡ c.level

pub all_shown : (w : NoiseWindow) → AllShown (counts_of w)
all_shown w =
    let (off, anc, ambient, level) = counts_within w in
    record {
      off = shown_all (counts_of w).off (omega (arith, off));
      anc = shown_all (counts_of w).anc (omega (arith, anc));
      ambient = shown_all (counts_of w).ambient (omega (arith, ambient));
      level = shown_all (counts_of w).level (omega (arith, level));
    }

-- `off 5 anc 1 ambient 4 level 9`, and `off 64 anc 0 ambient 0 level 10`
pub line_of_digits : counts_line (record { off = 5; anc = 1; ambient = 4; level = 9 }) ≡
    0x6F ∷ 0x66 ∷ 0x66 ∷ 0x20 ∷ 0x35 ∷ 0x20 ∷ 0x61 ∷ 0x6E ∷ 0x63 ∷ 0x20 ∷ 0x31 ∷ 0x20 ∷ 0x61 ∷ 0x6D ∷ 0x62 ∷ 0x69 ∷ 0x65 ∷ 0x6E ∷ 0x74 ∷ 0x20 ∷ 0x34
    ∷ 0x20 ∷ 0x6C ∷ 0x65 ∷ 0x76 ∷ 0x65 ∷ 0x6C ∷ 0x20 ∷ 0x39 ∷ 0x0A ∷ []
unfolding decimal_of counts_line
line_of_digits = refl

pub line_of_tens : counts_line (record { off = 64; anc = 0; ambient = 0; level = 10 }) ≡
    0x6F ∷ 0x66 ∷ 0x66 ∷ 0x20 ∷ 0x36 ∷ 0x34 ∷ 0x20 ∷ 0x61 ∷ 0x6E ∷ 0x63 ∷ 0x20 ∷ 0x30 ∷ 0x20 ∷ 0x61 ∷ 0x6D ∷ 0x62 ∷ 0x69 ∷ 0x65 ∷ 0x6E ∷ 0x74 ∷ 0x20 ∷ 0x30
    ∷ 0x20 ∷ 0x6C ∷ 0x65 ∷ 0x76 ∷ 0x65 ∷ 0x6C ∷ 0x20 ∷ 0x31 ∷ 0x30 ∷ 0x0A ∷ []
unfolding decimal_of counts_line
line_of_tens = refl
