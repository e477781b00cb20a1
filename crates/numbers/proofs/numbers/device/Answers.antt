use Rattle.numbers.proofs.numbers.device.Goals as goal

pub returns : goal.returns
returns c = rw c.characters_or.ensures
