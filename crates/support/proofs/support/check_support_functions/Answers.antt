use Rattle.reading.proofs.LawsReading.{read_short, read_unserved, read_uncounted, read_counted}
use Rattle.support.specs.Support.{check_of}
use borrow.Author.Tests.{eq-eqb, ne_eqb}
use native.Mathlib.Omega.{arith}
use lib.Dec.{eqb}
use Rattle.support.proofs.support.check_support_functions.Goals as goal
use Rattle.support.proofs.support.check_support_functions.Goals.{then-payload-lt2-via-then-payload-lt2, then-payload-lt2-via-else-payload-lt2+then-payload-ne0}

pub returns-then-payload-lt2 : goal.returns-then-payload-lt2
unfolding check_of
returns-then-payload-lt2 c = elim c.then-payload-lt2.branch [
  | then-payload-lt2-via-then-payload-lt2 w ↦ rw (read_short _ _ _ _ w.if-payload-lt2.true)
  | then-payload-lt2-via-else-payload-lt2+then-payload-ne0 w ↦ rw (read_unserved (λ kind. eqb kind 0) _ _ _ w.if-payload-lt2.false (ne_eqb _ 0 w.if-payload-ne0.true))
]

pub returns-then-payload-lt3 : goal.returns-then-payload-lt3
unfolding check_of
returns-then-payload-lt3 c = rw (read_uncounted (λ kind. eqb kind 0) 2 2 _ c.args.payload.now (omega arith) (eq-eqb _ 0 c.if-payload-ne0.false) (omega arith))

pub returns-then-payload-count : goal.returns-then-payload-count
unfolding check_of
returns-then-payload-count c = rw (read_uncounted (λ kind. eqb kind 0) 2 2 _ c.args.payload.now (omega arith) (eq-eqb _ 0 c.if-payload-ne0.false) (omega arith))

pub returns : goal.returns
unfolding check_of
returns c = rw (read_counted (λ kind. eqb kind 0) 2 2 _ c.args.payload.now (omega arith) (eq-eqb _ 0 c.if-payload-ne0.false) (omega arith))
