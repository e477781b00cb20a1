use Rattle.std.proofs.Common.{◌≤◌, length}
use Rattle.replay_log.proofs.session.run.Given as goal

abbrev pub invariant-loop-rest : goal.invariant-loop-rest
invariant-loop-rest g l = 1 ≤ l.len

abbrev pub decreases-loop-rest : goal.decreases-loop-rest
decreases-loop-rest g l = length l.rest
