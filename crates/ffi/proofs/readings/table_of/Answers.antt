use borrow.Author.Tests.{eq-eqb, ne_eqb}
use Rattle.numbers.specs.Numbers.{table_of}
use Rattle.ffi.proofs.readings.table_of.Goals as goal

pub returns-then-n-eq1 : goal.returns-then-n-eq1
unfolding table_of
returns-then-n-eq1 c = rw (eq-eqb c.args.n 1 c.if-n-eq1.true)

pub returns-else-n-eq1 : goal.returns-else-n-eq1
unfolding table_of
returns-else-n-eq1 c = rw (ne_eqb c.args.n 1 c.if-n-eq1.false)
