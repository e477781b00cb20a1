use Rattle.std.proofs.Common.{◌≡◌, ◌+◌, ◌-◌, ◌≤◌, length, drop}
use Rattle.acks.specs.Acks.{acks_in}
use Rattle.acks.proofs.acks.acks_len.Given as goal

abbrev pub invariant-loop-at : goal.invariant-loop-at
invariant-loop-at l = (l.past ≤ length l.held) × (l.len + length (acks_in (drop l.past l.held)) ≡ length (acks_in l.held))

abbrev pub decreases-loop-at : goal.decreases-loop-at
decreases-loop-at l = length l.held - l.past
