use Rattle.std.proofs.Common.{◌≡◌, ◌≤◌, length}
use Rattle.reading.specs.Items.{headed, walk}
use Rattle.reading.proofs.items.items_end.Given as goal

abbrev pub invariant-loop : goal.invariant-loop
invariant-loop l = (l.at ≡ walk (headed l.head) l.payload l.counter l.first) × (l.at ≤ length l.payload)
