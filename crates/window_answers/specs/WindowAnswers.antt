-- The window as the exported calls have it: a report is handed in as the payload that the noise decoder reads.
use Rattle.std.specs.Prelude.{ℕ, List, [], ◌∷◌}
use Rattle.base.specs.Outcome.{Outcome, accepted, refused, on_accepted}
use Rattle.noise.specs.declared.noise.NoiseReport.{NoiseReport}
use Rattle.noise.specs.Noise.{noise_of}
use Rattle.window.specs.declared.window.NoiseWindow.{NoiseWindow}
use Rattle.window.specs.declared.window.NoiseCounts.{NoiseCounts}
use Rattle.window.specs.Window.{pushed, counts_of}

-- off, anc, ambient, level
abbrev pub window_numbers : NoiseCounts → List ℕ
window_numbers c = c.off ∷ c.anc ∷ c.ambient ∷ c.level ∷ []

-- what the decoder answers is handed in; where it refuses, the window stays
abbrev pub handed_in : NoiseWindow → Outcome NoiseReport → NoiseWindow
handed_in w (accepted r) = pushed w r
handed_in w (refused n vs) = w

-- the counts with that report among the last
abbrev pub counts_with : NoiseWindow → Outcome NoiseReport → Outcome NoiseCounts
counts_with w answer = on_accepted (λ r. counts_of (pushed w r)) answer

-- any list of payloads, one after the other
abbrev pub handed_all : NoiseWindow → List (List ℕ) → NoiseWindow
handed_all w [] = w
handed_all w (p ∷ ps) = handed_all (handed_in w (noise_of p)) ps

-- the reports of those that the decoder accepts
abbrev pub report_before : Outcome NoiseReport → List NoiseReport → List NoiseReport
report_before (accepted r) rs = r ∷ rs
report_before (refused n vs) rs = rs

abbrev pub reports_in : List (List ℕ) → List NoiseReport
reports_in [] = []
reports_in (p ∷ ps) = report_before (noise_of p) (reports_in ps)
