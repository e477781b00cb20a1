use Prim.Native.Nat.{◌+◌, ◌-◌, ◌≤◌}
use lib.ListN.{length}
use Rattle.draining.proofs.LawsDraining.{Going}
use Rattle.draining.proofs.draining.decide_all.Given as goal

abbrev pub invariant-loop-limit : goal.invariant-loop-limit
invariant-loop-limit l = (l.dropped + l.handed ≤ length l.held) × Going l.limit l.held l.dropped l.handed

abbrev pub decreases-loop-limit : goal.decreases-loop-limit
decreases-loop-limit l = length l.held - (l.dropped + l.handed)
