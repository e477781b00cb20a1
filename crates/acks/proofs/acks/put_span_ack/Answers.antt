use Rattle.std.proofs.Common.{◌≡◌, ℕ, ◌+◌, ◌-◌, ◌≤◌, List, length, take, drop, sym, refl, ap, ◌∙◌, arith, length-take-le, Option, Result, Ok}
use Rattle.base.specs.Outcome.{Outcome, accepted}
use Rattle.base.specs.Writing.{WriteEffect}
use Rattle.base.proofs.LawsWriting.{part_written, part_stored}
use Rattle.framing.specs.Framing.{unpack_call, ack_call}
use Rattle.framing.specs.declared.framing.Header.{Header}
use Rattle.heading.specs.Heading.{header_read}
use Rattle.heading.proofs.LawsHeading.{header_unpacked}
use Rattle.acks.specs.Acks.{due_in, ack_frame, span_ack}
use Rattle.acks.proofs.LawsAcks.{ack_writes, span_nothing, span_owed}
use Rattle.acks.proofs.acks.put_span_ack.Goals as goal
use Rattle.base.specs.Refusal.{outcome_of}
use Rattle.base.specs.declared.refusal.Refusal.{Refusal}

-- what is due to the span: the part of the work area is as long as it
due : (span work : List ℕ) → length span ≤ length work → {o : Outcome Header} (d : Option ℕ) → o ≡ (unpack_call span (take (length span) work)).answer → d ≡ due_in o → d ≡ due_in (header_read span)
due span work h d e f = f ∙ ap due_in (e ∙ header_unpacked span (take (length span) work) (omega (arith, h, length-take-le (length span) work h)))

-- so the ack is its, and there is room for it: nothing is refused
module _ (span out : List ℕ) (at seq : ℕ) (h : at + length (span_ack span) ≤ length out) (is : span_ack span ≡ ack_frame seq) where
  room : at + length (ack_frame seq) ≤ length out
  room = rw (← is) h

  module _ (w : Result ℕ Refusal) (e : outcome_of w ≡ (ack_call seq (take (length out - at) (drop at out))).answer) where
    wrote : outcome_of w ≡ accepted (length (ack_frame seq))
    wrote = e ∙ ap (λ (x : WriteEffect). x.answer) (ack_writes seq _ ∙ part_written (ack_frame seq) out at room)

    count : {n : ℕ} → w ≡ Ok n → n ≡ length (ack_frame seq)
    count b = let f = sym (ap outcome_of b) ∙ wrote in cc

pub slice_bounds-unpack-end-2 : goal.slice_bounds-unpack-end-2
slice_bounds-unpack-end-2 c = sym (length-take-le _ _ c.requires.0)

pub overflow_add-result : goal.overflow_add-result
overflow_add-result c =
    let a = c.args in
    let k = span_owed a.span.now (due a.span.now a.work.now c.requires.0 c.owed.result c.unpack.ensures.result_value c.owed.ensures) c.in-Some.is in
    omega (arith, count a.span.now a.out.now a.at c.in-Some.seq c.requires.1 k c.ack.result c.ack.ensures.result_value c.in-Ok.is, room a.span.now a.out.now a.at c.in-Some.seq c.requires.1 k)

pub returns-in-None : goal.returns-in-None
returns-in-None c =
    let a = c.args in
    rw (span_nothing a.span.now (due a.span.now a.work.now c.requires.0 c.owed.result c.unpack.ensures.result_value c.owed.ensures) c.in-None.is) (record { bytes = refl; place = omega arith })

pub returns-in-Ok : goal.returns-in-Ok
returns-in-Ok c =
    let a = c.args in
    let k = span_owed a.span.now (due a.span.now a.work.now c.requires.0 c.owed.result c.unpack.ensures.result_value c.owed.ensures) c.in-Some.is in
    rw (k, count a.span.now a.out.now a.at c.in-Some.seq c.requires.1 k c.ack.result c.ack.ensures.result_value c.in-Ok.is, c.ack.ensures.out_after, ack_writes c.in-Some.seq _)
    (part_stored (ack_frame c.in-Some.seq) a.out.now a.at (room a.span.now a.out.now a.at c.in-Some.seq c.requires.1 k))

pub returns-in-Err : goal.returns-in-Err
returns-in-Err c =
    let a = c.args in
    let k = span_owed a.span.now (due a.span.now a.work.now c.requires.0 c.owed.result c.unpack.ensures.result_value c.owed.ensures) c.in-Some.is in
    let e = sym (ap outcome_of c.in-Err.is) ∙ wrote a.span.now a.out.now a.at c.in-Some.seq c.requires.1 k c.ack.result c.ack.ensures.result_value in
    let z : ◌≡◌ {A = ℕ} 0 1 = cc in absurd (omega arith)
