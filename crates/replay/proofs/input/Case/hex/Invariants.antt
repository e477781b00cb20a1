use Rattle.std.proofs.Common.{◌≤◌, length}
use Rattle.replay.proofs.input.Case.hex.Given as goal

abbrev pub invariant-loop-pair : goal.invariant-loop-pair
invariant-loop-pair l = l.n ≤ length l.buf
