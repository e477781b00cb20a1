use Rattle.std.proofs.Common.{arith}
use Rattle.scanner.proofs.LawsScanner.{low_limit, high_limit}
use Rattle.scanner.proofs.scanner.check.Goals as goal

pub returns-then-not-contains : goal.returns-then-not-contains
returns-then-not-contains c = grind (arith, low_limit, high_limit)
