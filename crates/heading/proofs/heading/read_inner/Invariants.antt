use Rattle.std.proofs.Common.{◌≡◌, drop}
use Rattle.base.specs.Outcome.{on_accepted}
use Rattle.escaping.specs.Escaping.{unescape_of}
use Rattle.framing.specs.Framing.{header_of, then_checked}
use Rattle.heading.proofs.LawsPass.{rest_of}
use Rattle.heading.proofs.heading.read_inner.Given as goal

abbrev pub invariant-loop-b : goal.invariant-loop-b
invariant-loop-b l = rest_of l.pass (drop l.b-index l.src) ≡ on_accepted header_of (then_checked (unescape_of l.src))
