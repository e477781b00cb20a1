use Rattle.std.proofs.Common.{ℕ, ◌≡◌, ◌+◌, ◌-◌, get_or, take, drop, sym, ap, ◌∙◌, arith}
use Rattle.span_line.proofs.LawsSpanLine.{opened, opened_fits}
use Rattle.noise_span.specs.NoiseSpan.{read_by}
use Rattle.noise_span.proofs.LawsNoiseSpan.{unread_none, opened_read}
use Rattle.noise_span.proofs.noise_span.read_frame.Goals as goal

-- the work area once unpack has filled it

pub returns-in_default : goal.returns-in_default
returns-in_default c = unread_none c.args.frame.now c.args.work.now c.requires c.unpack.result c.unpack.ensures.result_value c.in_default.is c.args.plan.now

pub bounds-work-0 : goal.bounds-work-0
bounds-work-0 c = omega (arith, opened_fits (opened c.args.frame.now c.args.work.now c.requires c.unpack.result c.unpack.ensures.result_value c.in-Ok.is c.unpack.ensures.work_after))

pub overflow_add-header : goal.overflow_add-header
overflow_add-header c = omega (arith, opened_fits (opened c.args.frame.now c.args.work.now c.requires c.unpack.result c.unpack.ensures.result_value c.in-Ok.is c.unpack.ensures.work_after))

pub slice_bounds-read_payload-end : goal.slice_bounds-read_payload-end
slice_bounds-read_payload-end c = omega (arith, opened_fits (opened c.args.frame.now c.args.work.now c.requires c.unpack.result c.unpack.ensures.result_value c.in-Ok.is c.unpack.ensures.work_after))

pub returns : goal.returns
returns c =
    let plan = c.args.plan.now in
    let left = c.unpack.new.work in
    let len = c.in-Ok.header.len in
    let o = opened c.args.frame.now c.args.work.now c.requires c.unpack.result c.unpack.ensures.result_value c.in-Ok.is c.unpack.ensures.work_after in
    let e : 6 + len - 6 ≡ len = omega arith in
    c.read_payload.ensures ∙ ap (λ (n : ℕ). read_by plan (get_or left 0 0) (take n (drop 6 left))) e ∙ sym (opened_read o plan)
