use Rattle.std.proofs.Common.{◌≡◌, ◌/◌, ◌%◌, fold, length, take, drop, reverse, ap, ◌∙◌, take-append-drop, arith, rules}
use Rattle.std.proofs.lemmas.Grind.{common_steps}
use Rattle.from_end.specs.FromEnd.{back_onto}
use Rattle.from_end.proofs.LawsFromEnd.{back_append, blocks_back}
use Rattle.from_end.proofs.from_end.back_blocks.Goals as goal

pub returns : goal.returns
returns g c =
    let sum = c.args.sum in
    let bytes = c.args.bytes.now in
    let n = g.row.N in
    let by_blocks : c.rfold-total.result ≡ fold back_onto sum (reverse c.as_rchunks.result.1.now) = search rules in
    let total : c.rfold-total.result ≡ back_onto sum (drop (length bytes % n) bytes) =
    by_blocks ∙ ap (λ bs. fold back_onto sum (reverse bs)) c.as_rchunks.ensures.back
    ∙ blocks_back sum n (length bytes / n) (drop (length bytes % n) bytes) (grind (arith, common_steps)) in
    rw (total, c.as_rchunks.ensures.front, ← back_append sum (take (length bytes % n) bytes) (drop (length bytes % n) bytes), take-append-drop (length bytes % n) bytes)
