use Rattle.std.proofs.Common.{refl, rules, sym}
use Rattle.scanner.specs.Taking.{take_call}
use Rattle.scanner.proofs.LawsScanner.{held_fits}
use Rattle.scanner.proofs.LawsTaking.{take_gone, take_within}
use Rattle.scanner.proofs.scanner.Scanner.take_span.Goals as goal

pub go-requires : goal.go-requires
go-requires c = (held_fits _ _ _ c.in_ok-check.ensures, take_within _ _ _ (sym c.in_ok-check.ensures) _ _ c.decide-cut.ensures c.into.ensures)

pub returns-in_err-check : goal.returns-in_err-check
unfolding take_call
returns-in_err-check c = simp (← c.in_err-check.ensures) (record { result_value = search rules; self_after = refl; store_after = refl })

pub returns-in_err-self : goal.returns-in_err-self
returns-in_err-self c =
    let g = c.in_err-self.ensures in
    rw (take_gone _ _ _ (sym c.in_ok-check.ensures) _ _ c.decide-cut.ensures c.into.ensures, ← g.result_value)
    (record { result_value = search rules; self_after = refl; store_after = rw (← g.result_value) at g.store_after })

pub returns : goal.returns
returns c =
    let g = c.in_ok-self.ensures in
    rw (take_gone _ _ _ (sym c.in_ok-check.ensures) _ _ c.decide-cut.ensures c.into.ensures, ← g.result_value)
    (record { result_value = refl; self_after = refl; store_after = rw (← g.result_value) at g.store_after })
