use Rattle.std.proofs.Common.{rules}
use Rattle.scanner.proofs.LawsScanner.{counted_each}
use Rattle.scanner.proofs.scanner.advance.Goals as goal

pub returns-in_err-counted : goal.returns-in_err-counted
returns-in_err-counted c = simp (counted_each, ← c.in_err-counted.ensures) (search rules)

pub returns-in_err-counted-2 : goal.returns-in_err-counted-2
returns-in_err-counted-2 c = simp (counted_each, ← c.in_ok-counted.ensures, ← c.in_err-counted-2.ensures) (search rules)

pub returns-in_err-counted-3 : goal.returns-in_err-counted-3
returns-in_err-counted-3 c = simp (counted_each, ← c.in_ok-counted.ensures, ← c.in_ok-counted-2.ensures, ← c.in_err-counted-3.ensures) (search rules)

pub returns : goal.returns
returns c = simp (counted_each, ← c.in_ok-counted.ensures, ← c.in_ok-counted-2.ensures, ← c.in_ok-counted-3.ensures)
