use Rattle.std.proofs.Common.{◌≡◌, ◌+◌, ◌≤◌, min, length, drop}
use Rattle.held.specs.Search.{first_of}
use Rattle.held.proofs.search.first_in.Given as goal

abbrev pub invariant-loop-i : goal.invariant-loop-i
invariant-loop-i l = (l.first ≤ length l.block) × (min l.first (l.i + first_of l.b (drop l.i l.block)) ≡ first_of l.b l.block)
