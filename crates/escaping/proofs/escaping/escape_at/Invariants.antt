use Rattle.std.proofs.Common.{◌≡◌}
use Rattle.base.proofs.LawsWriting.{Writing}
use Rattle.escaping.specs.Escaping.{escape_of}
use Rattle.escaping.proofs.escaping.escape_at.Given as goal

abbrev pub invariant-loop-block : goal.invariant-loop-block
invariant-loop-block l = record { size : l.block-iterator.size ≡ 32; writing : Writing (escape_of l.src) (escape_of l.block-iterator.rest.now) l.initial.out l.at l.out l.next }
