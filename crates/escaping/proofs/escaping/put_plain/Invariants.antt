use Rattle.std.proofs.Common.{◌+◌, drop}
use Rattle.base.proofs.LawsWriting.{Writing}
use Rattle.escaping.proofs.escaping.put_plain.Given as goal

abbrev pub invariant-loop-i : goal.invariant-loop-i
invariant-loop-i l = Writing l.src (drop l.i l.src) l.initial.out l.at l.out (l.at + l.i)
