-- The bounds of a bill; a log billed line by line; two logs joined. Assumes nothing.
use Prim.Native.Nat.{ℕ, ◌+◌, ◌*◌, ◌≤◌, ◌<◌}
use mathlib.Core.Path.{◌≡◌, refl, ap, sym, ◌∙◌}
use mathlib.Core.Bool.{Bool, true, false}
use mathlib.Core.List.{List, [], ◌++◌}
use native.Mathlib.Omega.{arith}
use native.Mathlib.Nat.{mul-le-mul}
use lib.Dec.{ltb}
use borrow.Author.Tests.{lt-ltb, le-ltb}
use Rattle.base.specs.Outcome.{Outcome, accepted, refused, pick, and_then, on_accepted}
use Rattle.base.proofs.LawsTests.{by_ltb}
use Rattle.counting.specs.Counting.{GREATEST, lines_of, no_lines, text_counts, count_each}
use Rattle.counting.specs.declared.counting.LineCounts.{LineCounts}
use Rattle.counting.proofs.LawsCounts.{cap, capped, added, Within, capped_small, text_capped, text_behind}
use Rattle.billing.specs.Billing.{net_of, total_of, MOST, out_of_range, bill_of, text_bill}
use Rattle.billing.specs.declared.amounts.Bill.{Bill}

-- past 28: the tax and no count above their bounds
module _ (c : LineCounts) (tax : ℕ) where
  range_cases : (P : Bool → Type 0) → P true → (tax ≤ 1000 → Within MOST c → P false) → P (out_of_range c tax)
  unfolding out_of_range
  range_cases P out in_all =
      by_ltb (λ t. P (pick t true (pick (ltb MOST c.full) true (pick (ltb MOST c.masked) true (pick (ltb MOST c.header) true (ltb MOST c.unread)))))) 1000 tax
      (λ _. out)
      (λ a. by_ltb (λ t. P (pick t true (pick (ltb MOST c.masked) true (pick (ltb MOST c.header) true (ltb MOST c.unread))))) MOST c.full
      (λ _. out)
      (λ f. by_ltb (λ t. P (pick t true (pick (ltb MOST c.header) true (ltb MOST c.unread)))) MOST c.masked
      (λ _. out)
      (λ s. by_ltb (λ t. P (pick t true (ltb MOST c.unread))) MOST c.header
      (λ _. out)
      (λ h. by_ltb P MOST c.unread
      (λ _. out)
      (λ r. in_all a (f, s, h, r))))))

  pub in_range_lem : out_of_range c tax ≡ false → (tax ≤ 1000) × Within MOST c
  in_range_lem = range_cases (λ t. t ≡ false → (tax ≤ 1000) × Within MOST c) (λ e. let z : ◌≡◌ {A = ℕ} 0 1 = cc in absurd (omega arith)) (λ a w _. (a, w))

  pub range_in : tax ≤ 1000 → Within MOST c → out_of_range c tax ≡ false
  unfolding out_of_range
  range_in a (f, s, h, r) = rw (le-ltb 1000 tax a, le-ltb MOST c.full f, le-ltb MOST c.masked s, le-ltb MOST c.header h, le-ltb MOST c.unread r)

  pub billed : out_of_range c tax ≡ false → bill_of c tax ≡ accepted (record { net = net_of c; total = total_of (net_of c) tax })
  unfolding bill_of
  billed e = rw e

  pub not_billed : out_of_range c tax ≡ true → bill_of c tax ≡ refused 28 []
  unfolding bill_of
  not_billed e = rw e

  -- an accepted bill has the net of the counts
  net_billed : {b : Bill} → bill_of c tax ≡ accepted b → (tax ≤ 1000) × (b.net ≡ net_of c)
  net_billed {b} = go (out_of_range c tax) refl
    where
      go : (t : Bool) → out_of_range c tax ≡ t → bill_of c tax ≡ accepted b → (tax ≤ 1000) × (b.net ≡ net_of c)
      go true e k = let z : ◌≡◌ {A = ℕ} 0 1 = cc (not_billed e) in absurd (omega arith)
      go false e k = ((in_range_lem e).0, let q : b ≡ record { net = net_of c; total = total_of (net_of c) tax } = cc (billed e) in rw q)

-- what the product comes to at most: no step passes eight bytes
pub product : (net tax : ℕ) → net ≤ 6 * MOST → tax ≤ 1000 → net * (1000 + tax) ≤ 6 * MOST * 2000
product net tax n a = let t : 1000 + tax ≤ 2000 = omega arith in mul-le-mul n t

pub net_of_lem : (c : LineCounts) → net_of c ≡ 4 * c.full + 2 * c.masked
net_of_lem c = omega arith

-- a count at the greatest number is above the bound as it was
cap_above : (n : ℕ) → ltb MOST (cap n) ≡ ltb MOST n
cap_above n =
    by_ltb (λ t. ltb MOST (pick t n GREATEST) ≡ ltb MOST n) n GREATEST
    (λ _. refl)
    (λ h. let k : MOST < n = omega arith in rw (lt-ltb MOST n k))

capped_range : (c : LineCounts) (tax : ℕ) → out_of_range (capped c) tax ≡ out_of_range c tax
unfolding out_of_range
capped_range c tax = rw (cap_above c.full, cap_above c.masked, cap_above c.header, cap_above c.unread)

pub bill_capped : (c : LineCounts) (tax : ℕ) → bill_of (capped c) tax ≡ bill_of c tax
bill_capped c tax = go (out_of_range c tax) refl
  where
    go : (t : Bool) → out_of_range c tax ≡ t → bill_of (capped c) tax ≡ bill_of c tax
    go true e = not_billed (capped c) tax (capped_range c tax ∙ e) ∙ sym (not_billed c tax e)
    go false e = let w = (in_range_lem c tax e).1 in ap (λ (d : LineCounts). bill_of d tax) (capped_small c MOST w (omega arith))

text_bill_lem : (text : List ℕ) (tax : ℕ) → text_bill text tax ≡ and_then (λ c. bill_of c tax) (text_counts text)
unfolding text_bill
text_bill_lem text tax = refl

-- the bill of the counts that are kept line by line is the bill of the text
pub line_by_line : (text : List ℕ) (tax : ℕ) → and_then (λ c. bill_of c tax) (count_each no_lines (lines_of text)) ≡ text_bill text tax
line_by_line text tax = rw (text_capped text, text_bill_lem text tax) (go (text_counts text))
  where
    go : (o : Outcome LineCounts) → and_then (λ c. bill_of c tax) (on_accepted capped o) ≡ and_then (λ c. bill_of c tax) o
    go (accepted c) = bill_capped c tax
    go (refused n vs) = refl

-- the bill of two texts joined
pub record Joined (xs ys : List ℕ) (tax : ℕ) (b d : Bill) : Type 0 where
  pub bill : Bill
  pub is_billed : text_bill (xs ++ ys) tax ≡ accepted bill
  pub net : bill.net ≡ b.net + d.net

module _ (xs ys : List ℕ) (tax : ℕ) {c d : LineCounts} (ex : text_counts xs ≡ accepted c) (ey : text_counts ys ≡ accepted d) where
  -- "where two texts are both billed, and no summed count passes the bound, the joined text's net is the sum"
  pub joined_net : {b e : Bill} → text_bill xs tax ≡ accepted b → text_bill ys tax ≡ accepted e → Within MOST (added c d) → Joined xs ys tax b e
  joined_net {b} {e} bx by w =
      let k = net_billed c tax (rw (text_bill_lem xs tax, ex) at bx) in
      let l = net_billed d tax (rw (text_bill_lem ys tax, ey) at by) in
      record {
        bill = record { net = net_of (added c d); total = total_of (net_of (added c d)) tax };
        is_billed = text_bill_lem (xs ++ ys) tax ∙ rw (text_behind xs ys ex, ey) (billed (added c d) tax (range_in (added c d) tax k.0 w));
        net = omega (arith, k.1, l.1);
      }
