use mathlib.Core.Path.{◌≡◌, sym, ◌∙◌}
use mathlib.Core.List.{[]}
use native.Mathlib.Omega.{arith}
use lib.ListN.{get_or}
use borrow.Author.Tests.{eq-eqb, ne_eqb}
use Rattle.base.specs.Outcome.{refused}
use Rattle.reading.proofs.LawsReading.{read_short, read_unserved, read_uncounted, read_counted}
use Rattle.capability.specs.Capability.{capability_of, capability_kind, ranges_of}
use Rattle.capability.proofs.LawsCapability.{reports}
use Rattle.capability.proofs.capability.decode_noise_capability.Goals as goal
use Rattle.capability.proofs.capability.decode_noise_capability.Goals.{then-payload-lt2-via-then-payload-lt2, then-payload-lt2-via-else-payload-lt2+then-not-has_ranges}

pub returns-then-payload-lt2 : goal.returns-then-payload-lt2
unfolding capability_of
returns-then-payload-lt2 c =
    let p = c.args.payload.now in
    let e : capability_of p ≡ refused 25 [] =
    elim c.then-payload-lt2.branch [
      | then-payload-lt2-via-then-payload-lt2 w ↦ read_short _ _ _ _ w.if-payload-lt2.true
      | then-payload-lt2-via-else-payload-lt2+then-not-has_ranges w ↦
          read_unserved capability_kind _ _ p w.if-payload-lt2.false (sym w.has_ranges.ensures ∙ w.if-not-has_ranges.true)
    ] in
    let r = reports c.refuse.ensures e in
    record { result_value = r.0; report_value = r.1 }

pub returns-then-payload-lt3 : goal.returns-then-payload-lt3
unfolding capability_of
returns-then-payload-lt3 c =
    let p = c.args.payload.now in
    let e : capability_of p ≡ refused 26 [] = read_uncounted capability_kind 2 4 _ p (omega arith) (sym c.has_ranges.ensures ∙ c.if-not-has_ranges.false) (omega arith) in
    let r = reports c.refuse-then-payload-lt3.ensures e in
    record { result_value = r.0; report_value = r.1 }

pub returns-then-payload-count : goal.returns-then-payload-count
unfolding capability_of
returns-then-payload-count c =
    let p = c.args.payload.now in
    let e : capability_of p ≡ refused 26 [] = read_uncounted capability_kind 2 4 _ p (omega arith) (sym c.has_ranges.ensures ∙ c.if-not-has_ranges.false) (omega arith) in
    let r = reports c.refuse-then-payload-count.ensures e in
    record { result_value = r.0; report_value = r.1 }

pub returns-then-count-eq0 : goal.returns-then-count-eq0
unfolding capability_of
returns-then-count-eq0 c =
    let p = c.args.payload.now in
    let e : capability_of p ≡ refused 19 [] = rw (read_counted capability_kind 2 4 _ p (omega arith) (sym c.has_ranges.ensures ∙ c.if-not-has_ranges.false) (omega arith), eq-eqb _ 0 c.if-count-eq0.true) in
    let r = reports c.refuse-then-count-eq0.ensures e in
    record { result_value = r.0; report_value = r.1 }

pub returns : goal.returns
unfolding capability_of
returns c =
    let p = c.args.payload.now in
    let e : capability_of p ≡ ranges_of p (get_or p 1 0) (get_or p 2 0) = rw (read_counted capability_kind 2 4 _ p (omega arith) (sym c.has_ranges.ensures ∙ c.if-not-has_ranges.false) (omega arith), ne_eqb _ 0 c.if-count-eq0.false) in
    let r = reports c.ranges_of.ensures e in
    record { result_value = r.0; report_value = r.1 }
