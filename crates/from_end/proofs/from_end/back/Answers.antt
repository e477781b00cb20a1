use Rattle.std.proofs.Common.{◌≡◌, ◌+◌, ◌%◌, fold, reverse, ◌∙◌, rules}
use Rattle.from_end.proofs.LawsFromEnd.{bytes_back}
use Rattle.from_end.proofs.from_end.back.Goals as goal

pub returns : goal.returns
returns c =
    let e : c.rfold.result ≡ fold (λ s b. (s + b) % 256) c.args.sum (reverse c.args.bytes.now) = search rules in
    e ∙ bytes_back c.args.sum c.args.bytes.now
