use Rattle.range.proofs.LawsRange.{below_zero, admits_cast, casts}
use Rattle.range.specs.Range.{admits_of}
use borrow.Author.Tests.{lt-ltb, le-ltb, eq-eqb, ne_eqb}
use Rattle.range.proofs.range.AmbientRange.admits.Goals as goal

pub returns-then-level-lt0 : goal.returns-then-level-lt0
unfolding admits_of
returns-then-level-lt0 c = below_zero _ c.ranges.level c.args.self c.if-level-lt0.true

pub overflow_cast-at : goal.overflow_cast-at
unfolding admits_of
overflow_cast-at c = casts _ c.ranges.level c.if-level-lt0.false

pub returns-then-at-min : goal.returns-then-at-min
unfolding admits_of
returns-then-at-min c = rw (admits_cast _ c.ranges.level c.if-level-lt0.false _, lt-ltb _ _ c.if-at-min.true)

pub returns-then-at-max : goal.returns-then-at-max
unfolding admits_of
returns-then-at-max c = rw (admits_cast _ c.ranges.level c.if-level-lt0.false _, le-ltb _ _ c.if-at-min.false, lt-ltb _ _ c.if-at-max.true)

pub returns-then-step-eq0 : goal.returns-then-step-eq0
unfolding admits_of
returns-then-step-eq0 c = rw (admits_cast _ c.ranges.level c.if-level-lt0.false _, le-ltb _ _ c.if-at-min.false, le-ltb _ _ c.if-at-max.false, eq-eqb _ 0 c.if-step-eq0.true)

pub returns-then-at-min-eq0 : goal.returns-then-at-min-eq0
unfolding admits_of
returns-then-at-min-eq0 c = rw (admits_cast _ c.ranges.level c.if-level-lt0.false _, le-ltb _ _ c.if-at-min.false, le-ltb _ _ c.if-at-max.false, ne_eqb _ 0 c.if-step-eq0.false, eq-eqb _ 0 c.if-at-min-eq0.true)

pub returns-else-at-min-eq0 : goal.returns-else-at-min-eq0
unfolding admits_of
returns-else-at-min-eq0 c = rw (admits_cast _ c.ranges.level c.if-level-lt0.false _, le-ltb _ _ c.if-at-min.false, le-ltb _ _ c.if-at-max.false, ne_eqb _ 0 c.if-step-eq0.false, ne_eqb _ 0 c.if-at-min-eq0.false)
