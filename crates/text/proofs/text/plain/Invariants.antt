use Rattle.std.proofs.Common.{◌≡◌, true, drop}
use Rattle.text.specs.Text.{characters_of}
use Rattle.text.specs.Inner.{onto}
use Rattle.text.proofs.text.plain.Given as goal

abbrev pub invariant-loop-b : goal.invariant-loop-b
invariant-loop-b l = l.fine ≡ true → characters_of l.block ≡ onto l.b-index (characters_of (drop l.b-index l.block))
