use Rattle.std.proofs.Common.{ℕ, ◌≡◌, ◌+◌, ◌*◌, ◌≤◌, false, sym, ◌∙◌, arith}
use Rattle.counting.specs.declared.counting.LineCounts.{LineCounts}
use Rattle.billing.specs.Billing.{MOST, out_of_range}
use Rattle.billing.proofs.LawsBilling.{in_range_lem, product, billed, not_billed, net_of_lem}
use Rattle.billing.proofs.billing.bill.Goals as goal

whole : (c : LineCounts) (tax : ℕ) → out_of_range c tax ≡ false → (4 * c.full + 2 * c.masked) * (1000 + tax) ≤ 6 * MOST * 2000
whole c tax e = let b = in_range_lem c tax e in product (4 * c.full + 2 * c.masked) tax (omega (arith, b.1)) b.0

pub returns-then-out_of_range : goal.returns-then-out_of_range
returns-then-out_of_range c = let a = c.args in sym (not_billed a.counts a.tax (sym c.out_of_range.ensures ∙ c.if-out_of_range.true))

pub overflow_mul-net : goal.overflow_mul-net
overflow_mul-net c = omega (arith, (in_range_lem c.args.counts c.args.tax (sym c.out_of_range.ensures ∙ c.if-out_of_range.false)).1)

pub overflow_mul-net-2 : goal.overflow_mul-net-2
overflow_mul-net-2 c = omega (arith, (in_range_lem c.args.counts c.args.tax (sym c.out_of_range.ensures ∙ c.if-out_of_range.false)).1)

pub overflow_add-net : goal.overflow_add-net
overflow_add-net c = omega (arith, (in_range_lem c.args.counts c.args.tax (sym c.out_of_range.ensures ∙ c.if-out_of_range.false)).1)

pub overflow_add-total : goal.overflow_add-total
overflow_add-total c = omega (arith, (in_range_lem c.args.counts c.args.tax (sym c.out_of_range.ensures ∙ c.if-out_of_range.false)).0)

pub overflow_mul-total : goal.overflow_mul-total
overflow_mul-total c = omega (arith, whole c.args.counts c.args.tax (sym c.out_of_range.ensures ∙ c.if-out_of_range.false))

pub overflow_add-total-2 : goal.overflow_add-total-2
overflow_add-total-2 c = omega (arith, whole c.args.counts c.args.tax (sym c.out_of_range.ensures ∙ c.if-out_of_range.false))

pub returns : goal.returns
returns c =
    let a = c.args in
    let e = sym c.out_of_range.ensures ∙ c.if-out_of_range.false in
    sym (billed a.counts a.tax e ∙ rw (net_of_lem a.counts))
