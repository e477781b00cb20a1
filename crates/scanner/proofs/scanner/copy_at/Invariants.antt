use Rattle.std.proofs.Common.{◌≡◌, length}
use lib.Seq.{paste}
use Rattle.scanner.proofs.scanner.copy_at.Given as goal

abbrev pub invariant-loop-i : goal.invariant-loop-i
invariant-loop-i l = record { same : length l.store ≡ length l.initial.store; pasted : l.store ≡ paste l.initial.store l.at l.piece l.i }
