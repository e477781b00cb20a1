use Prim.Native.Nat.{◌≤◌}
use mathlib.Core.Path.{◌≡◌}
use Rattle.support.specs.Support.{records_with}
use Rattle.support.proofs.support.decode_support_functions.Given as goal

-- the records as the first i functions of the list leave them
abbrev pub invariant-loop-i : goal.invariant-loop-i
invariant-loop-i l = (l.i ≤ l.count) × (l.records ≡ records_with l.payload l.i l.fn.records)
