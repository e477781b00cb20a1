use mathlib.Core.Path.{refl}
use mathlib.Core.Logic.{inl, inr}
use native.Mathlib.Omega.{arith}
use Rattle.escaping.proofs.LawsUnescaping.{fill_step, fill_refused, fill_accepted, unescape_ended, unescape_short, plain_turn, trailing_turn, escape_turn, bad_turn, unescape_end}
use Rattle.escaping.proofs.escaping.unescape.Goals as goal
use Rattle.escaping.proofs.escaping.unescape.Goals.{in_default-via-then-e-lt44, in_default-via-else-e-lt44+else-e-lt47}

pub returns-then-out-src : goal.returns-then-out-src
returns-then-out-src c = let a = c.args in rw (unescape_short a.src.now a.out.now c.if-out-src.true) (record { result_value = refl; out_after = refl })

pub loop-i-preserved-then-b-ne-SENTRY : goal.loop-i-preserved-then-b-ne-SENTRY
loop-i-preserved-then-b-ne-SENTRY c =
    let l = c.loop-i in
    let a = c.args in
    (omega arith, omega arith, omega arith, fill_step c.loop-i.invariant.3 (plain_turn a.src.now c.loop-i.i c.loop-i-test.true c.if-b-ne-SENTRY.true))

pub returns-then-src-i : goal.returns-then-src-i
returns-then-src-i c =
    let t = c in
    let l = t.loop-i in
    let a = c.args in
    rw (unescape_ended a.src.now a.out.now t.loop-i.invariant.2 (fill_refused t.loop-i.invariant.3 (trailing_turn a.src.now t.loop-i.i t.loop-i-test.true c.if-b-ne-SENTRY.false c.if-src-i.true))) (record { result_value = refl; out_after = c.wipe.ensures })

pub loop-i-preserved : goal.loop-i-preserved
loop-i-preserved c =
    let t = c in
    let l = t.loop-i in
    let a = c.args in
    (omega arith, omega arith, omega arith, fill_step t.loop-i.invariant.3 (escape_turn a.src.now t.loop-i.i t.loop-i-test.true c.if-b-ne-SENTRY.false c.if-src-i.false (omega arith) (omega arith)))

pub returns-in_default : goal.returns-in_default
returns-in_default c =
    let t = c in
    let l = t.loop-i in
    let a = c.args in
    rw (unescape_ended a.src.now a.out.now t.loop-i.invariant.2 (fill_refused t.loop-i.invariant.3 (bad_turn a.src.now t.loop-i.i t.loop-i-test.true c.if-b-ne-SENTRY.false c.if-src-i.false (elim c.in_default.branch [ in_default-via-then-e-lt44 w ↦ inl (omega arith) | in_default-via-else-e-lt44+else-e-lt47 w ↦ inr (omega arith) ])))) (record { result_value = refl; out_after = c.wipe-in_default.ensures })

pub returns : goal.returns
returns c =
    let l = c.loop-i in
    let a = c.args in
    rw (unescape_ended a.src.now a.out.now c.loop-i.invariant.2 (fill_accepted c.loop-i.invariant.3 (unescape_end a.src.now c.loop-i.i c.loop-i-test.false) (omega arith))) (record { result_value = refl; out_after = refl })
