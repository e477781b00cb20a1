use Rattle.std.proofs.Common.{◌≡◌, ℕ, ◌+◌, ◌-◌, ◌≤◌, false, List, take, replicate, sym, refl, ap, ◌∙◌, arith, length-take-le, leb-false, leb-true, Result}
use Rattle.base.specs.Outcome.{accepted}
use Rattle.base.specs.Refusal.{refusal_told}
use Rattle.cutting.specs.declared.deciding.Moved.{Moved}
use Rattle.held.specs.Going.{let_go}
use Rattle.scanner.specs.Scanner.{held_of, counting, counted_of, checked_told}
use Rattle.scanner.specs.declared.scanner.Scanner.{Scanner}
use Rattle.scanner.proofs.LawsScanner.{fine, passed}
use Rattle.draining.specs.Draining.{drained_of, drain_call}
use Rattle.draining.proofs.LawsDraining.{goes_held, drain_counted}
use Rattle.acks.proofs.LawsStation.{station_refused, station_short, station_long, station_far, station_near}
use Rattle.acks.proofs.acks.acknowledge.Goals as goal
use Rattle.base.specs.Refusal.{outcome_of}
use Rattle.base.specs.declared.refusal.Refusal.{Refusal}

-- 1 to 3 do not apply, and these bytes are held
module _ (s : Scanner) (store : List ℕ) (e : held_of s store ≡ accepted (take s.count store)) (m : Moved) (is : m ≡ drained_of s.limit (take s.count store)) where
  goes : m.dropped + m.handed ≤ s.count
  goes = goes_held s store (take s.count store) e m is

  -- what the takes come to together, by the state's answer
  comes : (x o : Result Scanner Refusal) → outcome_of x ≡ counted_of s (s.count - (m.dropped + m.handed)) m → x ≡ o
      → drain_call s store ≡ counting (outcome_of o) false s store (let_go (take s.count store) (m.dropped + m.handed) store)
  comes x o told same = drain_counted s store (take s.count store) e m is (outcome_of o) (ap outcome_of (sym same) ∙ told)

pub returns-in-Err : goal.returns-in-Err
returns-in-Err c =
    let a = c.args in
    let e : checked_told c.check.result (take a.scanner.count a.store.now) ≡ refusal_told c.in-Err.r = ap (λ (x : Result (Unit {0}) Refusal). checked_told x (take a.scanner.count a.store.now)) c.in-Err.is in
    rw (station_refused a.scanner a.store.now a.work.now a.out.now (sym c.check.ensures ∙ e)) (record { answer_value = refl; scanner_value = refl; store_after = refl; work_after = refl; out_after = refl })

pub returns-then-work-store : goal.returns-then-work-store
returns-then-work-store c =
    let a = c.args in
    rw (station_short a.scanner a.store.now a.work.now a.out.now _ (passed a.scanner a.store.now _ _ c.check.ensures c.in_default.is) c.if-work-store.true) (record { answer_value = refl; scanner_value = refl; store_after = refl; work_after = refl; out_after = refl })

pub slice_bounds-acks_fit-end : goal.slice_bounds-acks_fit-end
slice_bounds-acks_fit-end c = let a = c.args in (fine a.scanner a.store.now _ _ c.check.ensures c.in_default.is).fits

pub slice_bounds-acks_fit-end-2 : goal.slice_bounds-acks_fit-end-2
slice_bounds-acks_fit-end-2 c = let a = c.args in sym (length-take-le _ _ (fine a.scanner a.store.now _ _ c.check.ensures c.in_default.is).fits)

pub returns-then-not-acks_fit : goal.returns-then-not-acks_fit
returns-then-not-acks_fit c =
    let a = c.args in
    let e = passed a.scanner a.store.now _ _ c.check.ensures c.in_default.is in
    rw (station_long a.scanner a.store.now a.work.now a.out.now _ e (omega (arith, c.if-work-store.false)) (leb-false _ _ (sym c.acks_fit.ensures ∙ c.if-not-acks_fit.true)))
    (record { answer_value = refl; scanner_value = refl; store_after = refl; work_after = c.wipe.ensures; out_after = refl })

pub slice_bounds-decide_all-end : goal.slice_bounds-decide_all-end
slice_bounds-decide_all-end c = let a = c.args in (fine a.scanner a.store.now _ _ c.check.ensures c.in_default.is).fits

pub slice_bounds-decide_all-end-2 : goal.slice_bounds-decide_all-end-2
slice_bounds-decide_all-end-2 c = let a = c.args in sym (length-take-le _ _ (fine a.scanner a.store.now _ _ c.check.ensures c.in_default.is).fits)

pub overflow_add-goes : goal.overflow_add-goes
overflow_add-goes c =
    let a = c.args in
    omega (arith, goes a.scanner a.store.now (passed a.scanner a.store.now _ _ c.check.ensures c.in_default.is) c.decide_all-moved.result c.decide_all-moved.ensures)

pub overflow_sub-count : goal.overflow_sub-count
overflow_sub-count c =
    let a = c.args in
    goes a.scanner a.store.now (passed a.scanner a.store.now _ _ c.check.ensures c.in_default.is) c.decide_all-moved.result c.decide_all-moved.ensures

pub slice_bounds-put_acks-end : goal.slice_bounds-put_acks-end
slice_bounds-put_acks-end c = let a = c.args in (fine a.scanner a.store.now _ _ c.check.ensures c.in_default.is).fits

pub slice_bounds-put_acks-end-in-Ok : goal.slice_bounds-put_acks-end-in-Ok
slice_bounds-put_acks-end-in-Ok c = let a = c.args in sym (length-take-le _ _ (fine a.scanner a.store.now _ _ c.check.ensures c.in_default.is).fits)

pub put_acks-n-requires : goal.put_acks-n-requires
put_acks-n-requires c =
    let a = c.args in
    let f = (fine a.scanner a.store.now _ _ c.check.ensures c.in_default.is).fits in
    (omega (arith, length-take-le a.scanner.count a.store.now f, f, c.if-work-store.false), leb-true _ _ (sym c.acks_fit.ensures ∙ c.if-not-acks_fit.false))

pub returns-in-Err-advance : goal.returns-in-Err-advance
returns-in-Err-advance c =
    let a = c.args in
    let e = passed a.scanner a.store.now _ _ c.check.ensures c.in_default.is in
    let room = leb-true _ _ (sym c.acks_fit.ensures ∙ c.if-not-acks_fit.false) in
    rw (station_far a.scanner a.store.now a.work.now a.out.now _ e (omega (arith, c.if-work-store.false)) room a.store.now _ _ (comes a.scanner a.store.now e c.decide_all-moved.result c.decide_all-moved.ensures _ _ c.advance.ensures c.in-Err-advance.is))
    (record { answer_value = refl; scanner_value = refl; store_after = refl; work_after = refl; out_after = refl })

pub returns-in-Ok : goal.returns-in-Ok
returns-in-Ok c =
    let a = c.args in
    let e = passed a.scanner a.store.now _ _ c.check.ensures c.in_default.is in
    let room = leb-true _ _ (sym c.acks_fit.ensures ∙ c.if-not-acks_fit.false) in
    rw (station_near a.scanner a.store.now a.work.now a.out.now _ e (omega (arith, c.if-work-store.false)) room _ _ (comes a.scanner a.store.now e c.decide_all-moved.result c.decide_all-moved.ensures _ _ c.advance.ensures c.in-Ok.is) c.put_acks-n.ensures)
    (record { answer_value = refl; scanner_value = refl; store_after = c.let_go.ensures.store_after; work_after = c.wipe-in-Ok.ensures ∙ ap (λ (n : ℕ). replicate n 0) c.put_acks-n.auto.work; out_after = refl })
