use native.Mathlib.Nat.{div-mul-le_self}
use Rattle.range.specs.Range.{within_of}
use borrow.Author.Tests.{lt-ltb, le-ltb}
use Prim.Native.Nat.{◌-◌}
use native.Mathlib.Omega.{arith}
use Rattle.range.proofs.range.AmbientRange.within.Goals as goal

pub returns-then-top-min : goal.returns-then-top-min
unfolding within_of
returns-then-top-min c = rw (← c.lower-top.ensures, lt-ltb _ _ c.if-top-min.true)

pub overflow_mul-last : goal.overflow_mul-last
unfolding within_of
overflow_mul-last c = omega (arith, c.lower-top.ensures, div-mul-le_self (c.lower-top.result - c.args.self.min) c.at_least_one-step.result)

pub overflow_add-last : goal.overflow_add-last
unfolding within_of
overflow_add-last c = omega (arith, c.lower-top.ensures, div-mul-le_self (c.lower-top.result - c.args.self.min) c.at_least_one-step.result)

pub returns-then-last-first : goal.returns-then-last-first
unfolding within_of
returns-then-last-first c = rw (← c.lower-top.ensures, ← c.at_least_one-step.ensures, ← c.first_from-first.ensures, le-ltb _ _ c.if-top-min.false, lt-ltb _ _ c.if-last-first.true)

pub overflow_cast-result : goal.overflow_cast-result
unfolding within_of
overflow_cast-result c = omega (arith, c.lower-top.ensures, div-mul-le_self (c.lower-top.result - c.args.self.min) c.at_least_one-step.result)

pub overflow_cast-result-2 : goal.overflow_cast-result-2
unfolding within_of
overflow_cast-result-2 c = omega (arith, c.lower-top.ensures, div-mul-le_self (c.lower-top.result - c.args.self.min) c.at_least_one-step.result)

pub returns : goal.returns
unfolding within_of
returns c = rw (← c.lower-top.ensures, ← c.at_least_one-step.ensures, ← c.first_from-first.ensures, le-ltb _ _ c.if-top-min.false, le-ltb _ _ c.if-last-first.false)
