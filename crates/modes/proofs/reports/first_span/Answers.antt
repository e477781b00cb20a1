use Rattle.held.proofs.LawsSearch.{sight_within}
use Rattle.modes.proofs.reports.first_span.Goals as goal

pub returns-in-Both : goal.returns-in-Both
returns-in-Both c = rw (← c.in-Both.ensures) at (sight_within c.args.held.now)
