use borrow.Author.Tests.{le-leb, lt-leb}
use native.Mathlib.Nat.{div-mul-le_self}
use Rattle.range.specs.Range.{first_from}
use Prim.Native.Nat.{◌+◌, ◌-◌}
use native.Mathlib.Omega.{arith}
use Rattle.range.proofs.range.first_from.Goals as goal

pub returns-then-min-lo : goal.returns-then-min-lo
unfolding first_from
returns-then-min-lo c = rw (le-leb c.args.lo c.args.min c.if-min-lo.true)

pub overflow_mul-result : goal.overflow_mul-result
unfolding first_from
overflow_mul-result c = let a = c.args in omega (arith, div-mul-le_self (a.lo - a.min + (a.step - 1)) a.step)

pub overflow_add-result-2 : goal.overflow_add-result-2
unfolding first_from
overflow_add-result-2 c = let a = c.args in omega (arith, div-mul-le_self (a.lo - a.min + (a.step - 1)) a.step)

pub returns : goal.returns
unfolding first_from
returns c = rw (lt-leb c.args.lo c.args.min c.if-min-lo.false)
