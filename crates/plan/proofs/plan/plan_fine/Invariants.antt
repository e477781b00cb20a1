use Rattle.std.proofs.Common.{◌≡◌}
use Rattle.plan.specs.Plan.{entries_fine}
use Rattle.plan.proofs.LawsPlan.{fine_from}
use Rattle.plan.proofs.plan.plan_fine.Given as goal

abbrev pub invariant-loop-e : goal.invariant-loop-e
invariant-loop-e l = fine_from l.fine l.plan l.e-index ≡ entries_fine l.plan
