use Rattle.std.proofs.Common.{◌-◌, ap, ◌∙◌, take, arith}
use Rattle.line_input.proofs.LawsFilling.{shift_none, shift_all, held_part}
use Rattle.line_input.proofs.filling.to_front.Goals as goal
use Rattle.line_input.proofs.filling.to_front.Goals.{then-from-gt0, else-from-gt0}

pub returns-clause-buf_after : goal.returns-clause-buf_after
returns-clause-buf_after c =
    let buf = c.args.buf.now in
    let from = c.min-from.result in
    let to = c.min-to.result in
    elim c.if-from-gt0.branch [
      | then-from-gt0 w ↦ ap (take (to - from)) (w.buf-is ∙ w.copy_within.ensures.after) ∙ shift_all buf from to (omega arith) (omega arith)
      | else-from-gt0 w ↦ ap (take (to - from)) w.buf-is ∙ shift_none buf from to (omega arith)
    ]
    ∙ held_part c.args.input buf c.min-to.ensures c.min-from.ensures
