use Rattle.reading.proofs.LawsItems.{walk_fixed}
use Rattle.support.proofs.support.function_at.Goals as goal

pub returns : goal.returns
returns c = let a = c.args in rw (walk_fixed 2 a.payload.now a.i 3)
