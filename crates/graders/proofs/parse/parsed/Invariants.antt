use Rattle.std.proofs.Common.{◌≤◌}
use Rattle.graders.proofs.parse.parsed.Given as goal

abbrev pub invariant-loop-at : goal.invariant-loop-at
invariant-loop-at l = l.digits ≤ l.at
