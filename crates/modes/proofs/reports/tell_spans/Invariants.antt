use Rattle.std.proofs.Common.{◌+◌, ◌-◌, ◌≤◌, length}
use Rattle.modes.proofs.reports.tell_spans.Given as goal

abbrev pub invariant-loop-rt : goal.invariant-loop-rt
invariant-loop-rt l = (l.dropped + l.handed ≤ length l.held) × (l.lines.ready ≤ length l.out)

abbrev pub decreases-loop-rt : goal.decreases-loop-rt
decreases-loop-rt l = length l.held - (l.dropped + l.handed)
