use Rattle.std.proofs.Common.{◌≡◌, ◌+◌, length}
use Rattle.escaping.specs.Escaping.{escape_of}
use Rattle.escaping.proofs.escaping.escaped_len.Given as goal

abbrev pub invariant-loop-block : goal.invariant-loop-block
invariant-loop-block l = record { size : l.block-iterator.size ≡ 128; counted : l.n + length (escape_of l.block-iterator.rest.now) ≡ length (escape_of l.src) }
