use Prim.Native.Nat.{ℕ}
use native.Mathlib.Omega.{arith}
use lib.ListN.{length-set}
use Rattle.base.proofs.LawsWriting.{put, put_two}
use Rattle.window_line.proofs.LawsWindowLine.{one_digit, two_digits}
use Rattle.window_line.proofs.window_line.put_decimal.Goals as goal

pub bounds-out-at : goal.bounds-out-at
bounds-out-at c = omega (arith, rw (one_digit c.args.n c.if-n-lt10.true) at c.requires.1)

pub returns-then-n-lt10 : goal.returns-then-n-lt10
returns-then-n-lt10 c = rw (one_digit c.args.n c.if-n-lt10.true) put

pub bounds-out-at-2 : goal.bounds-out-at-2
bounds-out-at-2 c = omega (arith, rw (two_digits c.args.n c.if-n-lt10.false) at c.requires.1)

pub bounds-out-at-3 : goal.bounds-out-at-3
bounds-out-at-3 c = omega (arith, length-set {A = ℕ}, rw (two_digits c.args.n c.if-n-lt10.false) at c.requires.1)

pub returns : goal.returns
returns c = rw (two_digits c.args.n c.if-n-lt10.false) put_two
