use Rattle.reading.proofs.LawsReading.{read_short, read_unserved, read_uncounted, read_counted}
use Rattle.equalizer.specs.Equalizer.{equalizer_of}
use borrow.Author.Tests.{eq-eqb, ne_eqb}
use native.Mathlib.Omega.{arith}
use lib.Dec.{eqb}
use Rattle.equalizer.proofs.equalizer.decode_equalizer.Goals as goal

pub returns-then-payload-lt2 : goal.returns-then-payload-lt2
unfolding equalizer_of
returns-then-payload-lt2 c = rw (read_short _ _ _ _ c.if-payload-lt2.true)

pub returns-then-payload-ne0 : goal.returns-then-payload-ne0
unfolding equalizer_of
returns-then-payload-ne0 c = rw (read_unserved (λ kind. eqb kind 0) _ _ _ c.if-payload-lt2.false (ne_eqb _ 0 c.if-payload-ne0.true))

pub returns-then-payload-lt4 : goal.returns-then-payload-lt4
unfolding equalizer_of
returns-then-payload-lt4 c = rw (read_uncounted (λ kind. eqb kind 0) 3 1 _ c.args.payload.now (omega arith) (eq-eqb _ 0 c.if-payload-ne0.false) (omega arith))

pub returns-then-payload-count : goal.returns-then-payload-count
unfolding equalizer_of
returns-then-payload-count c = rw (read_uncounted (λ kind. eqb kind 0) 3 1 _ c.args.payload.now (omega arith) (eq-eqb _ 0 c.if-payload-ne0.false) (omega arith))

pub returns : goal.returns
unfolding equalizer_of
returns c = rw (read_counted (λ kind. eqb kind 0) 3 1 _ c.args.payload.now (omega arith) (eq-eqb _ 0 c.if-payload-ne0.false) (omega arith))
