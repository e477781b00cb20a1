use Rattle.std.proofs.Common.{refl, sym, rules}
use Rattle.draining.proofs.LawsDraining.{drain_refused, drain_counted}
use Rattle.draining.proofs.draining.drain_lent.Goals as goal

pub returns-in_err-check : goal.returns-in_err-check
returns-in_err-check c = rw (drain_refused _ _ (sym c.in_err-check.ensures)) (record { result_value = search rules; scanner_after = refl; store_after = refl })

pub returns-in_err-scanner : goal.returns-in_err-scanner
returns-in_err-scanner c =
    rw (drain_counted _ _ _ (sym c.in_ok-check.ensures) _ c.decide_all-moved.ensures _ c.in_err-scanner.ensures)
    (record { result_value = search rules; scanner_after = refl; store_after = refl })

pub returns : goal.returns
returns c =
    rw (drain_counted _ _ _ (sym c.in_ok-check.ensures) _ c.decide_all-moved.ensures _ c.in_ok-scanner.ensures)
    (record { result_value = refl; scanner_after = refl; store_after = c.let_go.ensures.store_after })
