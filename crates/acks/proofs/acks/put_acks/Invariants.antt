use Rattle.std.proofs.Common.{◌≡◌, ◌-◌, ◌≤◌, length, drop}
use Rattle.base.proofs.LawsWriting.{Writing}
use Rattle.acks.specs.Acks.{acks_in}
use Rattle.acks.proofs.acks.put_acks.Given as goal

abbrev pub invariant-loop-at : goal.invariant-loop-at
invariant-loop-at l =
    (l.past ≤ length l.held) × (length l.work ≡ length l.initial.work) × Writing (acks_in l.held) (acks_in (drop l.past l.held)) l.initial.out 0 l.out l.next

abbrev pub decreases-loop-at : goal.decreases-loop-at
decreases-loop-at l = length l.held - l.past
