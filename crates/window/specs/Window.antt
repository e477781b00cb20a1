-- 02, C-19: the window, and how it keeps its reports.
use Rattle.std.specs.Prelude.{ℕ, ◌+◌, ◌*◌, ◌%◌, ◌^◌, Bool, List, [], ◌∷◌, ltb}
use Rattle.std.specs.Int.Count.{ones_in}
use Rattle.base.specs.Outcome.{pick}
use Rattle.noise.specs.declared.noise.NoiseReport.{NoiseReport}
use Rattle.window.specs.LastReports.{is_off, is_anc, is_ambient, has_level, one_if}
use Rattle.window.specs.declared.window.NoiseWindow.{NoiseWindow}
use Rattle.window.specs.declared.window.NoiseCounts.{NoiseCounts}

-- "its width set from 1 to 64 when opened, a width outside that taken as the nearer end"
abbrev pub width_of : ℕ → ℕ
width_of width = pick (ltb width 1) 1 (pick (ltb 64 width) 64 width)

unfoldable pub opened : ℕ → NoiseWindow
opened width = record { width = width_of width; off = 0; anc = 0; ambient = 0; level = 0 }

-- a row of 64 binary digits with one more below them; the highest falls out
unfoldable pub with_newest : ℕ → Bool → ℕ
with_newest row digit = row * 2 % 2 ^ 64 + one_if digit

-- a report comes
unfoldable pub pushed : NoiseWindow → NoiseReport → NoiseWindow
pushed w r =
    record {
      width = w.width;
      off = with_newest w.off (is_off r.mode);
      anc = with_newest w.anc (is_anc r.mode);
      ambient = with_newest w.ambient (is_ambient r.mode);
      level = with_newest w.level (has_level r.ambient_level);
    }

-- any list of reports, one after the other
abbrev pub pushed_all : NoiseWindow → List NoiseReport → NoiseWindow
pushed_all w [] = w
pushed_all w (r ∷ rs) = pushed_all (pushed w r) rs

-- how many of the lowest digits of each row are 1
unfoldable pub counts_of : NoiseWindow → NoiseCounts
counts_of w =
    record {
      off = ones_in (width_of w.width) w.off;
      anc = ones_in (width_of w.width) w.anc;
      ambient = ones_in (width_of w.width) w.ambient;
      level = ones_in (width_of w.width) w.level;
    }
