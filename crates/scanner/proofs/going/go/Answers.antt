use Rattle.std.proofs.Common.{◌+◌, refl, rules}
use Rattle.scanner.proofs.LawsScanner.{stays}
use Rattle.scanner.proofs.going.go.Goals as goal

pub returns-in_err-next : goal.returns-in_err-next
returns-in_err-next c =
    let a = c.args in
    let e = rw (← stays a.scanner a.store.now (a.moved.dropped + a.moved.handed) c.requires.0) at c.in_err-next.ensures in
    rw (← e) (record { result_value = search rules; store_after = refl })

pub returns : goal.returns
returns c =
    let a = c.args in
    let e = rw (← stays a.scanner a.store.now (a.moved.dropped + a.moved.handed) c.requires.0) at c.in_ok-next.ensures in
    rw (← e) (record { result_value = refl; store_after = c.let_go.ensures.store_after })
