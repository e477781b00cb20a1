use mathlib.Core.Path.{refl, sym}
use Rattle.window_answers.proofs.window_answers.window_told.Goals as goal

pub returns : goal.returns
returns c = rw (sym c.counts-counts.ensures) (record { value = refl; values_after = c.tell.ensures })
