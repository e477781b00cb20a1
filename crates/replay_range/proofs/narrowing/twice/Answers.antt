use Rattle.std.proofs.Common.{◌≡◌, ℕ, Option, min, max, ap, sym, ◌∙◌}
use Rattle.range.specs.Range.{within_of}
use Rattle.range.specs.Narrowing.{then_within}
use Rattle.range.specs.declared.range.AmbientRange.{AmbientRange}
use Rattle.range.proofs.LawsNarrowing.{narrowing_twice}
use Rattle.replay_range.proofs.narrowing.twice.Goals as goal

-- what the first narrowing left, narrowed again
again : (r : AmbientRange) (lo hi lo' hi' : ℕ) {left o : Option AmbientRange} → left ≡ within_of r lo hi → left ≡ o → then_within o lo' hi' ≡ within_of r (max lo lo') (min hi hi')
again r lo hi lo' hi' e f = ap (λ o. then_within o lo' hi') (sym f ∙ e) ∙ narrowing_twice r lo hi lo' hi'

pub returns-in_err-within : goal.returns-in_err-within
returns-in_err-within c = let a = c.args in c.from_residual.ensures ∙ again a.range a.by.low a.by.high a.then.low a.then.high c.within.ensures c.in_err-within.was

pub returns : goal.returns
returns c = let a = c.args in c.within-2.ensures ∙ again a.range a.by.low a.by.high a.then.low a.then.high c.within.ensures c.in_ok-within.was
