use Rattle.capability.specs.Capability.{heard}
use Rattle.capability.proofs.LawsCapability.{SoFar}
use Prim.Native.Nat.{◌-◌}
use mathlib.Core.Path.{◌≡◌}
use lib.ListN.{drop}
use Rattle.capability.proofs.capability.ranges_of.Given as goal

abbrev pub invariant-loop-seen : goal.invariant-loop-seen
invariant-loop-seen l = heard l.range.voice (drop l.seen-index l.seen-items) ≡ heard l.range.voice l.seen-items

abbrev pub invariant-outer : goal.invariant-outer
invariant-outer l = SoFar l.payload l.count l.ranges l.i

abbrev pub decreases-outer : goal.decreases-outer
decreases-outer l = l.count - l.i
