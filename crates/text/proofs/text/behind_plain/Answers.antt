use Rattle.std.proofs.Common.{arith}
use Rattle.std.proofs.lemmas.Grind.{common_steps}
use Rattle.text.proofs.LawsText.{onto_onto, block_on}
use Rattle.text.proofs.text.behind_plain.Goals as goal

pub loop-rest-preserved : goal.loop-rest-preserved
loop-rest-preserved c =
    let block = block_on c.loop-rest.rest.now 8 (omega arith) (c.plain.ensures c.if-plain.true) in
    (grind (arith, common_steps), grind (arith, common_steps, onto_onto))
