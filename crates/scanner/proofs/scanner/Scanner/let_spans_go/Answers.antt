use Rattle.std.proofs.Common.{refl, rules, sym}
use Rattle.scanner.specs.Skipping.{skip_call}
use Rattle.scanner.proofs.LawsSkipping.{skip_gone}
use Rattle.scanner.proofs.scanner.Scanner.let_spans_go.Goals as goal

pub returns-in_err-check : goal.returns-in_err-check
unfolding skip_call
returns-in_err-check c = simp (← c.in_err-check.ensures) (record { result_value = search rules; self_after = refl; store_after = refl })

pub returns-in_err-self : goal.returns-in_err-self
returns-in_err-self c =
    let g = c.in_err-self.ensures in
    rw (skip_gone _ _ _ _ _ _ _ (sym c.in_ok-check.ensures) c.min-dropped.ensures c.min-handed.ensures, ← g.result_value)
    (record { result_value = search rules; self_after = refl; store_after = rw (← g.result_value) at g.store_after })

pub returns : goal.returns
returns c =
    let g = c.in_ok-self.ensures in
    rw (skip_gone _ _ _ _ _ _ _ (sym c.in_ok-check.ensures) c.min-dropped.ensures c.min-handed.ensures, ← g.result_value)
    (record { result_value = refl; self_after = refl; store_after = rw (← g.result_value) at g.store_after })
