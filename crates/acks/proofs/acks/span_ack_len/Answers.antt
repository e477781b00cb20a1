use Rattle.std.proofs.Common.{ap, ◌∙◌}
use Rattle.acks.specs.Acks.{due_in}
use Rattle.acks.proofs.LawsAcks.{span_nothing, span_owed}
use Rattle.acks.proofs.acks.span_ack_len.Goals as goal

-- by what is due to the span
pub returns-in-None : goal.returns-in-None
returns-in-None c = rw (span_nothing c.args.span.now (c.owed.ensures ∙ ap due_in c.read_header.ensures) c.in-None.is)

pub returns-in-Some : goal.returns-in-Some
returns-in-Some c = rw (span_owed c.args.span.now (c.owed.ensures ∙ ap due_in c.read_header.ensures) c.in-Some.is) c.ack_len.ensures
