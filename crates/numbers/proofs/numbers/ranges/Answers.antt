use Rattle.numbers.proofs.numbers.ranges.Goals as goal

pub returns : goal.returns
returns c = rw (c.flag.ensures, c.flag-2.ensures)
