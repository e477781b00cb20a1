use Rattle.std.proofs.Common.{◌∙◌}
use Rattle.escaping.specs.Escaping.{escaped_byte}
use Rattle.escaping.proofs.LawsEscaping.{each_front, each_none}
use Rattle.base.proofs.LawsWriting.{room_for, step, stored}
use Rattle.escaping.proofs.escaping.escape_at.Goals as goal

pub put_block-next-requires-clause-block_in_bounds : goal.put_block-next-requires-clause-block_in_bounds
put_block-next-requires-clause-block_in_bounds c = room_for c.loop-block.invariant.writing (each_front escaped_byte _ _ _ c.in-Some.ensures.steps.1.0)

pub loop-block-preserved : goal.loop-block-preserved
loop-block-preserved c =
    let s = c.in-Some.ensures.steps in
    record { size = s.0 ∙ c.loop-block.invariant.size; writing = step c.loop-block.invariant.writing (each_front escaped_byte _ _ _ s.1.0) c.put_block-next.ensures }

pub returns : goal.returns
returns c = stored c.loop-block.invariant.writing (each_none escaped_byte _ c.in-None.ensures.steps.1.0)
