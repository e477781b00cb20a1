use Rattle.std.proofs.Common.{◌≡◌, ◌+◌, ◌-◌, ◌<◌, ◌≤◌, length, refl, sym, arith, rules}
use lib.Seq.{take-length}
use Rattle.scanner.specs.Scanner.{push_call}
use Rattle.scanner.proofs.LawsScanner.{held_fits, push_full, push_fits}
use Rattle.scanner.proofs.scanner.Scanner.append.Goals as goal

pub returns-in_err-check : goal.returns-in_err-check
unfolding push_call
returns-in_err-check c = simp (← c.in_err-check.ensures) (record { result_value = search rules; self_after = refl; store_after = refl })

pub returns-then-store-count : goal.returns-then-store-count
returns-then-store-count c =
    let a = c.args in
    let fits = held_fits _ _ _ c.in_ok-check.ensures in
    let full : length a.store.now < a.self.now.count + length a.piece.now = omega arith in
    rw (push_full _ _ _ _ (sym c.in_ok-check.ensures) full) (record { result_value = refl; self_after = refl; store_after = refl })

pub returns-in_err-self : goal.returns-in_err-self
returns-in_err-self c =
    let a = c.args in
    let fits = held_fits _ _ _ c.in_ok-check.ensures in
    let room : a.self.now.count + length a.piece.now ≤ length a.store.now = omega arith in
    rw (push_fits _ _ _ _ (sym c.in_ok-check.ensures) room, ← c.in_err-self.ensures) (record { result_value = search rules; self_after = refl; store_after = refl })

pub returns : goal.returns
returns c =
    let a = c.args in
    let fits = held_fits _ _ _ c.in_ok-check.ensures in
    let room : a.self.now.count + length a.piece.now ≤ length a.store.now = omega arith in
    rw (push_fits _ _ _ _ (sym c.in_ok-check.ensures) room, ← c.in_ok-self.ensures)
    (record { result_value = refl; self_after = refl; store_after = rw take-length at c.copy_at.ensures })
