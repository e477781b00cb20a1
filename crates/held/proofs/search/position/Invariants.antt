use Rattle.std.proofs.Common.{◌≡◌, ◌+◌, length}
use Rattle.std.specs.Slice.Iter.{chunks_rest, chunks_size}
use Rattle.held.specs.Search.{first_of}
use Rattle.held.proofs.search.position.Given as goal

abbrev pub invariant-loop-block : goal.invariant-loop-block
invariant-loop-block l =
    (chunks_size l.block-iterator ≡ 64)
    × (l.passed + length (chunks_rest l.block-iterator) ≡ length l.bytes)
    × (l.passed + first_of l.b (chunks_rest l.block-iterator) ≡ first_of l.b l.bytes)
