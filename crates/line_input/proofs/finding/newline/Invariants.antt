use Rattle.std.proofs.Common.{◌≡◌, drop}
use Rattle.line_input.specs.Finding.{newline_at}
use Rattle.line_input.proofs.finding.newline.Given as goal

abbrev pub invariant-loop-i : goal.invariant-loop-i
invariant-loop-i l = newline_at l.i (drop l.i l.held) ≡ newline_at l.from (drop l.from l.held)
