use Rattle.std.proofs.Common.{◌≡◌, length, refl, ◌∙◌, arith}
use Rattle.std.proofs.Math.Seq.{length-take-le}
use Rattle.span_line.proofs.LawsSpanLine.{front_zeroed}
use Rattle.noise_span.proofs.LawsNoiseSpan.{call_short, call_room}
use Rattle.noise_span.proofs.noise_span.noise_in.Goals as goal

pub returns-then-work-n : goal.returns-then-work-n
returns-then-work-n c = let a = c.args in rw (call_short a.plan.now a.frame.now a.work.now c.if-work-n.true) (record { result_value = refl; work_after = refl })

-- the part that is lent has as many bytes as the frame
pub read_frame-found-requires : goal.read_frame-found-requires
read_frame-found-requires c = let a = c.args in omega (arith, length-take-le (length a.frame.now) a.work.now c.if-work-n.false)

pub returns : goal.returns
returns c =
    let a = c.args in
    let r = c.read_frame-found in
    let same : length r.new.work ≡ length a.frame.now = r.auto.work ∙ length-take-le (length a.frame.now) a.work.now c.if-work-n.false in
    rw (call_room a.plan.now a.frame.now a.work.now c.if-work-n.false)
    (record { result_value = r.ensures; work_after = front_zeroed (length a.frame.now) a.work.now r.new.work _ same c.wipe.ensures })
