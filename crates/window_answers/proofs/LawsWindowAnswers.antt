-- The exported calls count the last so many of the reports that their payloads are read as. Assumes nothing.
use Prim.Native.Nat.{ℕ}
use mathlib.Core.Path.{◌≡◌, refl, ap, ◌∙◌}
use mathlib.Core.List.{List, [], ◌∷◌}
use Rattle.base.specs.Outcome.{Outcome, accepted, refused}
use Rattle.noise.specs.declared.noise.NoiseReport.{NoiseReport}
use Rattle.noise.specs.Noise.{noise_of}
use Rattle.window.specs.declared.window.NoiseWindow.{NoiseWindow}
use Rattle.window.specs.LastReports.{counted_afresh, last_of}
use Rattle.window.specs.Window.{width_of, opened, pushed_all, counts_of}
use Rattle.window.proofs.LawsWindow.{last_counted}
use Rattle.window_answers.specs.WindowAnswers.{handed_in, handed_all, report_before, reports_in}

handed_reports : (w : NoiseWindow) (ps : List (List ℕ)) → handed_all w ps ≡ pushed_all w (reports_in ps)
handed_reports w [] = refl
handed_reports w (p ∷ ps) = one (noise_of p) (λ w. handed_reports w ps)
  where
    one : (o : Outcome NoiseReport) → ((w : NoiseWindow) → handed_all w ps ≡ pushed_all w (reports_in ps)) → handed_all (handed_in w o) ps ≡ pushed_all w (report_before o (reports_in ps))
    one (accepted r) on = on (handed_in w (accepted r))
    one (refused n vs) on = on w

pub payloads_counted : (width : ℕ) (ps : List (List ℕ)) → counts_of (handed_all (opened width) ps) ≡ counted_afresh (last_of (width_of width) (reports_in ps))
payloads_counted width ps = ap counts_of (handed_reports (opened width) ps) ∙ last_counted width (reports_in ps)
