use Rattle.base.specs.Outcome.{refused}
use Rattle.capability.specs.Capability.{ranges_from}
use Rattle.capability.proofs.LawsCapability.{begun, not_range, twice, next, reported, heard_here, heard_none}
use mathlib.Core.Path.{◌≡◌, refl, sym, ◌∙◌}
use mathlib.Core.List.{[]}
use native.Mathlib.Omega.{arith}
use Rattle.capability.proofs.capability.ranges_of.Goals as goal
use Rattle.capability.proofs.capability.ranges_of.Goals.{else-outer-test, then-outer-test+in-Some+then-loop-seen-test+then-seen-range}

pub outer-init : goal.outer-init
outer-init c = begun _ _ refl

pub returns-in_default : goal.returns-in_default
returns-in_default c = rw (not_range c.outer.invariant c.outer-test.true c.element_at.ensures c.in_default.is) c.refuse.ensures

pub outer-preserved : goal.outer-preserved
outer-preserved c = next c.outer.invariant c.outer-test.true c.element_at.ensures c.in-Some.is (sym c.loop-seen.invariant ∙ heard_none _ _ _ c.loop-seen-test.false)

pub returns-then-i-count : goal.returns-then-i-count
returns-then-i-count c =
    let e : ranges_from c.args.payload.now [] c.args.count ≡ refused 19 [] =
    elim c.outer-test.branch [
      | else-outer-test w ↦ absurd (omega arith)
      | then-outer-test+in-Some+then-loop-seen-test+then-seen-range w ↦
          twice c.outer.invariant w.outer-test.true w.element_at.ensures w.in-Some.is
          (sym w.loop-seen.invariant ∙ heard_here _ _ _ w.loop-seen-test.true _ w.if-seen-range.true)
    ] in
    rw e c.refuse-then-i-count.ensures

pub returns : goal.returns
returns c = reported c.outer.invariant _ c.if-i-count.false
