use Rattle.numbers.proofs.numbers.noise.Goals as goal

pub returns : goal.returns
returns c = rw (c.noise_mode.ensures, c.byte_or.ensures, c.byte_or-2.ensures, c.flag_or.ensures, c.flag.ensures, c.flag_or-2.ensures, c.byte_or-3.ensures)
