use lib.ListN.{get_or}
use mathlib.Core.Path.{sym}
use native.Mathlib.Omega.{arith}
use borrow.Author.Tests.{eq-eqb, ne_eqb}
use Rattle.reading.specs.Items.{headed}
use Rattle.reading.proofs.LawsItems.{walk_grows}
use Rattle.reading.proofs.LawsReading.{read_short, read_unserved, read_unfit, read_fits}
use Rattle.paired.proofs.paired.decode_paired_devices.Goals as goal

pub returns-then-payload-lt2 : goal.returns-then-payload-lt2
returns-then-payload-lt2 c = sym (read_short _ _ _ _ c.if-payload-lt2.true)

pub returns-then-payload-ne2 : goal.returns-then-payload-ne2
returns-then-payload-ne2 c = sym (read_unserved _ _ _ _ c.if-payload-lt2.false (ne_eqb _ _ c.if-payload-ne2.true))

pub returns-then-payload-lt4 : goal.returns-then-payload-lt4
returns-then-payload-lt4 c =
    let p = c.args.payload.now in
    sym (read_unfit _ _ _ p (record { long = omega arith; kind = eq-eqb _ _ c.if-payload-ne2.false }) (λ e. omega (arith, walk_grows (headed 21) p (get_or p 2 0) 3)))

pub returns-then-payload-end-ne1 : goal.returns-then-payload-end-ne1
returns-then-payload-end-ne1 c = sym (read_unfit _ _ _ _ (record { long = omega arith; kind = eq-eqb _ _ c.if-payload-ne2.false }) (λ e. omega arith))

pub returns : goal.returns
returns c = sym (read_fits _ _ _ _ (record { served = record { long = omega arith; kind = eq-eqb _ _ c.if-payload-ne2.false }; ends = omega arith }))
