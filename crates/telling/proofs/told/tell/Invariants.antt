use Rattle.std.proofs.Common.{◌≡◌, ◌++◌, take, drop}
use Rattle.telling.proofs.told.tell.Given as goal

abbrev pub invariant-loop-i : goal.invariant-loop-i
invariant-loop-i l = l.values ≡ take l.i l.numbers ++ drop l.i l.fn.values
