use Rattle.window_line.proofs.LawsWindowLine.{line_within}
use Rattle.modes.proofs.reports.tell_at_front.Goals as goal

pub returns-in-Ok : goal.returns-in-Ok
returns-in-Ok c = line_within c.counts.result c.args.out.now c.write_counts.ensures.result_value c.in-Ok.is
