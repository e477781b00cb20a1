use Rattle.std.proofs.Common.{◌≡◌, ℕ, ◌+◌, ◌-◌, ◌≤◌, ◌<◌, List, length, take, drop, refl, ◌∙◌, arith, length-drop, length-take}
use Rattle.base.proofs.LawsWriting.{begin, room_for, step, stored, part_rest, Begins}
use Rattle.held.specs.Search.{sight_of}
use Rattle.held.specs.declared.search.Sight.{Sight}
use Rattle.held.specs.declared.search.Sight.TheVariants.{Both}
use Rattle.acks.specs.Acks.{acks_in, span_ack}
use Rattle.acks.proofs.LawsAcks.{no_start_lem, no_end_lem, next_within, next_further, next_begins}
use Rattle.acks.proofs.acks.put_acks.Goals as goal

-- the sight, by the bytes behind those passed
sight : (held : List ℕ) (past : ℕ) {x : Sight} → x ≡ sight_of (take (length held - past) (drop past held)) → x ≡ sight_of (drop past held)
sight held past e = rw (part_rest past held) at e

module _ (held : List ℕ) (past : ℕ) {x : Sight} (e : x ≡ sight_of (take (length held - past) (drop past held))) {at len : ℕ} (is : x ≡ Both at len) (h : past ≤ length held) where
  within : past + at + len ≤ length held
  within = next_within held past (sight held past e) is h

  further : past < past + at + len
  further = next_further held past (sight held past e) is h

  begins : Begins (acks_in (drop past held)) (span_ack (take (past + at + len - (past + at)) (drop (past + at) held))) (acks_in (drop (past + at + len) held))
  begins = next_begins held past (sight held past e) is h

pub loop-at-init : goal.loop-at-init
loop-at-init c = (omega arith, refl, begin (omega (arith, c.requires.1)))

pub returns-in-NoStart : goal.returns-in-NoStart
returns-in-NoStart c = stored c.loop-at.invariant.2 (no_start_lem c.args.held.now c.loop-at.past (sight c.args.held.now c.loop-at.past c.seek.ensures) c.in-NoStart.is)

pub returns-in-NoEnd : goal.returns-in-NoEnd
returns-in-NoEnd c = stored c.loop-at.invariant.2 (no_end_lem c.args.held.now c.loop-at.past (sight c.args.held.now c.loop-at.past c.seek.ensures) c.in-NoEnd.is)

pub overflow_add-from : goal.overflow_add-from
overflow_add-from c = omega (arith, within c.args.held.now c.loop-at.past c.seek.ensures c.in-Both.is c.loop-at.invariant.0)

pub overflow_add-past : goal.overflow_add-past
overflow_add-past c = omega (arith, within c.args.held.now c.loop-at.past c.seek.ensures c.in-Both.is c.loop-at.invariant.0)

pub slice_bounds-put_span_ack-end : goal.slice_bounds-put_span_ack-end
slice_bounds-put_span_ack-end c = within c.args.held.now c.loop-at.past c.seek.ensures c.in-Both.is c.loop-at.invariant.0

pub put_span_ack-next-requires : goal.put_span_ack-next-requires
put_span_ack-next-requires c = (
  simp (length-take, length-drop) (omega (arith, within c.args.held.now c.loop-at.past c.seek.ensures c.in-Both.is c.loop-at.invariant.0, c.loop-at.invariant.1, c.requires.0)),
  room_for c.loop-at.invariant.2 (begins c.args.held.now c.loop-at.past c.seek.ensures c.in-Both.is c.loop-at.invariant.0),
)

pub loop-at-smaller : goal.loop-at-smaller
loop-at-smaller c =
    let w = within c.args.held.now c.loop-at.past c.seek.ensures c.in-Both.is c.loop-at.invariant.0 in
    let f = further c.args.held.now c.loop-at.past c.seek.ensures c.in-Both.is c.loop-at.invariant.0 in
    omega (arith, w, f)

pub loop-at-preserved : goal.loop-at-preserved
loop-at-preserved c = (
  within c.args.held.now c.loop-at.past c.seek.ensures c.in-Both.is c.loop-at.invariant.0,
  c.put_span_ack-next.auto.work ∙ c.loop-at.invariant.1,
  step c.loop-at.invariant.2 (begins c.args.held.now c.loop-at.past c.seek.ensures c.in-Both.is c.loop-at.invariant.0) c.put_span_ack-next.ensures,
)
