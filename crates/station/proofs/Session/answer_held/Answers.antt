use Rattle.std.proofs.Common.{arith}
use Rattle.station.proofs.LawsAnswer.{acks_within, never_18}
use Rattle.station.proofs.Session.answer_held.Goals as goal

-- the acks stand in the output
pub shared_ref_as_front-acks : goal.shared_ref_as_front-acks
shared_ref_as_front-acks c =
    let s = c.args.self.now in
    omega (arith, acks_within s.scanner s.store s.work s.out (omega arith) (omega arith) c.acknowledge-acked.ensures.answer_value c.in-Ok.is)

pub unanswered-requires : goal.unanswered-requires
unanswered-requires c =
    let s = c.args.self.now in
    never_18 s.scanner s.store s.work s.out (omega arith) (omega arith) c.acknowledge-acked.ensures.answer_value c.in-Err.is
