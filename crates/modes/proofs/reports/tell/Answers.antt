use Rattle.std.proofs.Common.{ℕ, arith, length-take, length-drop}
use Rattle.window_line.proofs.LawsWindowLine.{line_within}
use Rattle.modes.proofs.reports.tell.Goals as goal

-- the line lies behind those that stand there
pub overflow_add-result : goal.overflow_add-result
overflow_add-result c = omega (arith, line_within c.counts.result _ c.write_counts.ensures.result_value c.in-Ok.is, length-take {A = ℕ}, length-drop {A = ℕ})

pub returns-in-Ok : goal.returns-in-Ok
returns-in-Ok c = omega (arith, line_within c.counts.result _ c.write_counts.ensures.result_value c.in-Ok.is, length-take {A = ℕ}, length-drop {A = ℕ})
