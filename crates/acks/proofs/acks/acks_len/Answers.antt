use Rattle.std.proofs.Common.{◌≡◌, ℕ, ◌+◌, ◌-◌, ◌≤◌, ◌<◌, List, length, take, drop, ap, arith, length-append}
use Rattle.base.proofs.LawsWriting.{part_rest}
use Rattle.held.specs.Search.{sight_of}
use Rattle.held.specs.declared.search.Sight.{Sight}
use Rattle.held.specs.declared.search.Sight.TheVariants.{NoStart, NoEnd, Both}
use Rattle.acks.specs.Acks.{acks_in, span_ack}
use Rattle.acks.proofs.LawsAcks.{acks_bound, no_start_lem, no_end_lem, next_within, next_further, next_begins}
use Rattle.acks.proofs.acks.acks_len.Goals as goal

-- the sight, by the bytes behind those passed
module _ (held : List ℕ) (past : ℕ) (x : Sight) (e : x ≡ sight_of (take (length held - past) (drop past held))) where
  sight : x ≡ sight_of (drop past held)
  sight = rw (part_rest past held) at e

  module _ (len : ℕ) (sum : len + length (acks_in (drop past held)) ≡ length (acks_in held)) where
    last_before : x ≡ NoStart → len ≡ length (acks_in held)
    last_before is = omega (arith, ap length (no_start_lem held past sight is))

    last_begun : {at : ℕ} → x ≡ NoEnd at → len ≡ length (acks_in held)
    last_begun is = omega (arith, ap length (no_end_lem held past sight is))

    module _ {at n : ℕ} (is : x ≡ Both at n) (h : past ≤ length held) where
      within : past + at + n ≤ length held
      within = next_within held past sight is h

      further : past < past + at + n
      further = next_further held past sight is h

      -- one span more
      grown : len + length (span_ack (take (past + at + n - (past + at)) (drop (past + at) held))) + length (acks_in (drop (past + at + n) held)) ≡ length (acks_in held)
      grown =
          let b = next_begins held past sight is h in
          omega (arith, sum, ap length b.splits, length-append (span_ack (take (past + at + n - (past + at)) (drop (past + at) held))) (acks_in (drop (past + at + n) held)))

pub loop-at-init : goal.loop-at-init
loop-at-init c = (omega arith, omega arith)

pub returns-in-NoStart : goal.returns-in-NoStart
returns-in-NoStart c = last_before c.args.held.now c.loop-at.past c.seek.result c.seek.ensures c.loop-at.len c.loop-at.invariant.1 c.in-NoStart.is

pub returns-in-NoEnd : goal.returns-in-NoEnd
returns-in-NoEnd c = last_begun c.args.held.now c.loop-at.past c.seek.result c.seek.ensures c.loop-at.len c.loop-at.invariant.1 c.in-NoEnd.is

pub overflow_add-from : goal.overflow_add-from
overflow_add-from c = omega (arith, within c.args.held.now c.loop-at.past c.seek.result c.seek.ensures c.loop-at.len c.loop-at.invariant.1 c.in-Both.is c.loop-at.invariant.0)

pub overflow_add-past : goal.overflow_add-past
overflow_add-past c = omega (arith, within c.args.held.now c.loop-at.past c.seek.result c.seek.ensures c.loop-at.len c.loop-at.invariant.1 c.in-Both.is c.loop-at.invariant.0)

pub slice_bounds-span_ack_len-end : goal.slice_bounds-span_ack_len-end
slice_bounds-span_ack_len-end c = within c.args.held.now c.loop-at.past c.seek.result c.seek.ensures c.loop-at.len c.loop-at.invariant.1 c.in-Both.is c.loop-at.invariant.0

pub overflow_add-len : goal.overflow_add-len
overflow_add-len c = omega (arith, grown c.args.held.now c.loop-at.past c.seek.result c.seek.ensures c.loop-at.len c.loop-at.invariant.1 c.in-Both.is c.loop-at.invariant.0, acks_bound c.args.held.now)

pub loop-at-smaller : goal.loop-at-smaller
loop-at-smaller c =
    let w = within c.args.held.now c.loop-at.past c.seek.result c.seek.ensures c.loop-at.len c.loop-at.invariant.1 c.in-Both.is c.loop-at.invariant.0 in
    let f = further c.args.held.now c.loop-at.past c.seek.result c.seek.ensures c.loop-at.len c.loop-at.invariant.1 c.in-Both.is c.loop-at.invariant.0 in
    omega (arith, w, f)

pub loop-at-preserved : goal.loop-at-preserved
loop-at-preserved c =
    let w = within c.args.held.now c.loop-at.past c.seek.result c.seek.ensures c.loop-at.len c.loop-at.invariant.1 c.in-Both.is c.loop-at.invariant.0 in
    let g = grown c.args.held.now c.loop-at.past c.seek.result c.seek.ensures c.loop-at.len c.loop-at.invariant.1 c.in-Both.is c.loop-at.invariant.0 in
    (w, omega (arith, g))
