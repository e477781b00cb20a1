use Rattle.std.proofs.Common.{arith, length-set}
use Rattle.scanner.proofs.LawsScanner.{copy_step}
use Rattle.scanner.proofs.scanner.copy_at.Goals as goal

pub loop-i-preserved : goal.loop-i-preserved
loop-i-preserved c =
    let d = c.args in
    record { same = simp length-set c.loop-i.invariant.same; pasted = copy_step _ _ d.at d.piece.now c.loop-i.i (omega arith) (omega arith) c.loop-i.invariant.pasted }
