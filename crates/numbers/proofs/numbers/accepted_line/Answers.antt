use Rattle.numbers.proofs.LawsNumbers.{command_told}
use Rattle.numbers.proofs.numbers.accepted_line.Goals as goal

pub returns-in-Header : goal.returns-in-Header
returns-in-Header c = rw (c.to_wire.ensures, c.byte_or.ensures, command_told c.in-Header.command, c.in-Header.is)

pub returns-in-Masked : goal.returns-in-Masked
returns-in-Masked c = rw (c.to_wire-in-Masked.ensures, c.in-Masked.is)

pub returns-in-Full : goal.returns-in-Full
returns-in-Full c = rw (c.to_wire-in-Full.ensures, c.in-Full.is)
