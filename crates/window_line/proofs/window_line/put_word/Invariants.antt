use Rattle.std.proofs.Common.{◌+◌, drop}
use Rattle.base.proofs.LawsWriting.{Writing}
use Rattle.window_line.proofs.window_line.put_word.Given as goal

abbrev pub invariant-loop-i : goal.invariant-loop-i
invariant-loop-i l = Writing l.word (drop l.i l.word) l.initial.out l.at l.out (l.at + l.i)
