use Rattle.numbers.proofs.LawsNumbers.{cells}
use Rattle.numbers.proofs.numbers.battery.Goals as goal

pub returns : goal.returns
returns c = cells c.args.report c.cell-m.ensures c.cell-l.ensures c.cell-r.ensures c.cell-c.ensures
