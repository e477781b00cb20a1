use Rattle.base.proofs.LawsWriting.{then}
use Rattle.window_line.proofs.window_line.put_named.Goals as goal

pub returns : goal.returns
returns c = then c.put_word-next.ensures (rw c.two_digits.ensures at c.put_decimal.ensures)
