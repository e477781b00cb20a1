use Rattle.std.proofs.Common.{◌≡◌, take}
use Rattle.base.specs.Sum.{checksum_of}
use Rattle.base.proofs.sum.checksum.Given as goal

abbrev pub invariant-loop-b : goal.invariant-loop-b
invariant-loop-b l = l.sum ≡ checksum_of (take l.b-index l.fn.bytes)
