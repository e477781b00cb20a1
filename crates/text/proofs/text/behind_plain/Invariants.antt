use Rattle.std.proofs.Common.{◌≡◌, ◌-◌, ◌≤◌, length}
use Rattle.text.specs.Text.{characters_of}
use Rattle.text.specs.Inner.{onto}
use Rattle.text.proofs.text.behind_plain.Given as goal

abbrev pub invariant-loop-rest : goal.invariant-loop-rest
invariant-loop-rest l = (length l.rest ≤ length l.bytes) × (characters_of l.bytes ≡ onto (length l.bytes - length l.rest) (characters_of l.rest))

abbrev pub decreases-loop-rest : goal.decreases-loop-rest
decreases-loop-rest l = length l.rest

abbrev pub invariant-loop-rest-2 : goal.invariant-loop-rest-2
invariant-loop-rest-2 l = (length l.rest ≤ length l.bytes) × (characters_of l.bytes ≡ onto (length l.bytes - length l.rest) (characters_of l.rest))

abbrev pub decreases-loop-rest-2 : goal.decreases-loop-rest-2
decreases-loop-rest-2 l = length l.rest
