use Rattle.std.proofs.Common.{◌≡◌, ◌≤◌, drop}
use Rattle.decimal.specs.Decimal.{GREATEST, number_from, number_of, told_number}
use Rattle.decimal.proofs.decimal.read_decimal.Given as goal

abbrev pub invariant-loop-c : goal.invariant-loop-c
invariant-loop-c l = (l.n ≤ GREATEST) × (told_number (number_from l.n (drop l.c-index l.text)) ≡ told_number (number_of l.text))
