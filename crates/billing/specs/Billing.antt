-- 02, C-18: "The bill for a log".
use Rattle.std.specs.Prelude.{ℕ, ◌+◌, ◌*◌, ◌/◌, Bool, true, List, [], ltb}
use Rattle.base.specs.Outcome.{Outcome, accepted, refused, pick, and_then}
use Rattle.counting.specs.Counting.{text_counts}
use Rattle.counting.specs.declared.counting.LineCounts.{LineCounts}
use Rattle.billing.specs.declared.amounts.Bill.{Bill}

-- in cents
-- "four cents for an `F` line, two for an `S` line, nothing for `H` and `R`"; "The net is the four counts times their prices, added"
abbrev pub net_of : LineCounts → ℕ
net_of c = c.full * 4 + c.masked * 2 + c.header * 0 + c.unread * 0

-- "The total is net times (1,000 + tax) plus 500, divided by 1,000 and cut to a whole cent"
abbrev pub total_of : (net tax : ℕ) → ℕ
total_of net tax = (net * (1000 + tax) + 500) / 1000

abbrev pub MOST : ℕ
MOST = 4294967295

-- 28: "a tax above 1,000 or a line count above 4,294,967,295"
unfoldable pub out_of_range : LineCounts → (tax : ℕ) → Bool
out_of_range c tax =
    pick (ltb 1000 tax) true (
    pick (ltb MOST c.full) true (
    pick (ltb MOST c.masked) true (
    pick (ltb MOST c.header) true (
    ltb MOST c.unread))))

-- "net and total from the four line counts .. and a tax per thousand"
unfoldable pub bill_of : LineCounts → (tax : ℕ) → Outcome Bill
bill_of c tax = pick (out_of_range c tax) (refused 28 []) (accepted (record { net = net_of c; total = total_of (net_of c) tax }))

-- "The bill of a log is that of the line counts of its text; a text with a line the reader refuses by 24 is 24, tried first"
unfoldable pub text_bill : List ℕ → (tax : ℕ) → Outcome Bill
text_bill text tax = and_then (λ c. bill_of c tax) (text_counts text)
