use Rattle.numbers.proofs.numbers.cell.Goals as goal

pub returns-in-Some : goal.returns-in-Some
returns-in-Some c = rw (c.charging.ensures, c.byte_or.ensures, c.in-Some.is)
