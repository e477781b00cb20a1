use Rattle.std.proofs.Common.{◌≡◌, sym, refl, ◌∙◌, rules, length-take-le}
use Rattle.base.specs.Refusal.{outcome_of, refusal_told}
use Rattle.framing.proofs.LawsFraming.{unpack_unmarked, unpack_not, unpack_body, told_of, left_good, left_bad}
use Rattle.framing.proofs.framing.unpack.Goals as goal

pub returns-in_err-between_markers : goal.returns-in_err-between_markers
returns-in_err-between_markers c =
    let a = c.args in
    let e : outcome_of c.from_residual.result ≡ refusal_told c.in_err-between_markers.field-0.0 = search rules in
    rw (e, unpack_unmarked a.frame.now a.work.now c.in_err-between_markers.ensures) (record { result_value = refl; work_after = refl })

pub returns-in_err-len : goal.returns-in_err-len
returns-in_err-len c =
    let a = c.args in
    let e : outcome_of c.from_residual-in_err-len.result ≡ refusal_told c.in_err-len.field-0.0 = search rules in
    rw (e, unpack_not a.frame.now a.work.now c.in_ok-between_markers.ensures c.in_err-len.ensures.result_value c.unescape.ensures.out_after) (record { result_value = refl; work_after = refl })

pub slice_bounds-read_body-end : goal.slice_bounds-read_body-end
slice_bounds-read_body-end c = (unpack_body c.args.frame.now c.args.work.now c.in_ok-between_markers.ensures c.in_ok-len.ensures.result_value c.unescape.ensures.out_after).within

pub slice_bounds-read_body-end-2 : goal.slice_bounds-read_body-end-2
slice_bounds-read_body-end-2 c =
    sym (length-take-le _ _ (unpack_body c.args.frame.now c.args.work.now c.in_ok-between_markers.ensures c.in_ok-len.ensures.result_value c.unescape.ensures.out_after).within)

pub returns-in-Ok : goal.returns-in-Ok
returns-in-Ok c =
    let o = unpack_body c.args.frame.now c.args.work.now c.in_ok-between_markers.ensures c.in_ok-len.ensures.result_value c.unescape.ensures.out_after in
    rw o.call (record { result_value = c.read_body-header.ensures ∙ sym (told_of _ _); work_after = c.wipe_from.ensures ∙ sym (left_good _ _ o.within c.in-Ok.ensures) })

pub returns-in-Err : goal.returns-in-Err
returns-in-Err c =
    let o = unpack_body c.args.frame.now c.args.work.now c.in_ok-between_markers.ensures c.in_ok-len.ensures.result_value c.unescape.ensures.out_after in
    rw o.call (record { result_value = c.read_body-header.ensures ∙ sym (told_of _ _); work_after = c.wipe.ensures ∙ sym (left_bad _ _ c.in-Err.ensures) })
