use Rattle.std.proofs.Common.{refl, sym}
use Rattle.scanner.proofs.LawsScanner.{open_fine, open_refused}
use Rattle.scanner.proofs.scanner.open.Goals as goal

pub returns-then-is_ok : goal.returns-then-is_ok
returns-then-is_ok c =
    let f = c.fresh-scanner.ensures in
    rw (open_fine _ _ _ _ (sym c.if-is_ok.ensures.value) (rw f at c.check-answer.ensures)) (record { answer_value = refl; scanner_value = f; store_after = c.wipe.ensures })

pub returns-else-is_ok : goal.returns-else-is_ok
returns-else-is_ok c =
    let f = c.fresh-scanner.ensures in
    rw (open_refused _ _ _ _ (sym c.if-is_ok.ensures.value) (rw f at c.check-answer.ensures)) (record { answer_value = refl; scanner_value = f; store_after = refl })
