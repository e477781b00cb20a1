use Rattle.std.proofs.Common.{drop}
use Rattle.base.proofs.LawsWriting.{Writing}
use Rattle.escaping.specs.Escaping.{escape_of}
use Rattle.escaping.proofs.escaping.put_each.Given as goal

abbrev pub invariant-loop-b : goal.invariant-loop-b
invariant-loop-b l = Writing (escape_of l.src) (escape_of (drop l.b-index l.src)) l.initial.out l.at l.out l.next
