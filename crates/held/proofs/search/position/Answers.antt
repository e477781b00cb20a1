use Rattle.std.proofs.Common.{arith, rules}
use Rattle.std.proofs.lemmas.Grind.{common_steps}
use Rattle.held.proofs.LawsFirst.{first_rest}
use Rattle.held.proofs.search.position.Goals as goal

pub loop-block-preserved : goal.loop-block-preserved
loop-block-preserved c = (search rules, grind (arith, common_steps), grind (arith, first_rest))
