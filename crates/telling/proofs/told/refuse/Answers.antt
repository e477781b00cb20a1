use Rattle.std.proofs.Common.{◌∙◌}
use Rattle.telling.proofs.LawsTold.{valueless, none_left}
use Rattle.telling.proofs.told.refuse.Goals as goal
use Rattle.telling.proofs.told.refuse.Goals.{in-BadEscapee, in-BadChecksum, in-LengthMismatch, in_default}

pub returns-clause-values_after : goal.returns-clause-values_after
returns-clause-values_after c = elim c.match-r.branch [
  | in-BadEscapee w ↦ rw (w.values-is, w.in-BadEscapee.is) w.tell.ensures
  | in-BadChecksum w ↦ rw (w.values-is, w.in-BadChecksum.is) w.tell-in-BadChecksum.ensures
  | in-LengthMismatch w ↦ rw (w.values-is, w.in-LengthMismatch.is) w.tell-in-LengthMismatch.ensures
  | in_default w ↦ let d = w.in_default in w.values-is ∙ rw (valueless c.args.r d.not-BadEscapee d.not-BadChecksum d.not-LengthMismatch, none_left c.args.values.now)
]
