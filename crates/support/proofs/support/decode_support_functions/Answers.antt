use Prim.Native.Nat.{◌<◌}
use mathlib.Core.Path.{◌≡◌}
use native.Mathlib.Omega.{arith}
use lib.ListN.{length}
use borrow.Author.Tests.{le-ltb}
use Rattle.support.specs.Support.{support_call}
use Rattle.support.proofs.LawsSupport.{with_next}
use Rattle.support.proofs.support.decode_support_functions.Goals as goal

-- there is room for the next function
pub loop-i-preserved : goal.loop-i-preserved
loop-i-preserved c =
    let rs = c.args.records.now in
    let h : c.loop-i.i < length rs = omega arith in
    (omega arith, rw (c.function_at.ensures, c.loop-i.invariant.1) (with_next c.args.payload.now c.loop-i.i rs h))

pub returns-clause-records_after : goal.returns-clause-records_after
unfolding support_call
returns-clause-records_after c =
    let e : c.loop-i.i ≡ c.in_ok-count.count = omega arith in
    rw (← c.in_ok-count.ensures, le-ltb _ _ c.if-records-count.false, ← e, c.loop-i.invariant.1)
