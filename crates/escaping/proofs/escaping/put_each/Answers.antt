use Rattle.escaping.specs.Escaping.{escaped_byte}
use Rattle.escaping.proofs.LawsEscaping.{each_step, each_end}
use Rattle.base.proofs.LawsWriting.{room_for, step, stored}
use Rattle.escaping.proofs.escaping.put_each.Goals as goal

pub put_escaped-next-requires : goal.put_escaped-next-requires
put_escaped-next-requires c = room_for c.loop-b.invariant (each_step escaped_byte _ _ c.loop-b-test.true)

pub loop-b-preserved : goal.loop-b-preserved
loop-b-preserved c = step c.loop-b.invariant (each_step escaped_byte _ _ c.loop-b-test.true) c.put_escaped-next.ensures

pub returns : goal.returns
returns c = stored c.loop-b.invariant (each_end escaped_byte _ _ c.loop-b-test.false)
