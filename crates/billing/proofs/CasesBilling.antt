-- Bills computed over the definitions. Assumes nothing.
use mathlib.Core.Path.{◌≡◌, refl}
use mathlib.Core.List.{[], ◌∷◌}
use Rattle.base.specs.Outcome.{accepted, refused}
use Rattle.digits.specs.Digits.{decimal_value}
use Rattle.line_reader.specs.LineReader.{unread_read, by_letter, read_of}
use Rattle.counting.specs.Counting.{lines_from, read_all, no_lines, parts_in, text_counts}
use Rattle.billing.specs.Billing.{MOST, out_of_range, bill_of, text_bill}

-- a line of each letter at 19 per cent: 7.14 cents
pub one_of_each : bill_of (record { full = 1; masked = 1; header = 1; unread = 1 }) 190 ≡ accepted (record { net = 6; total = 7 })
unfolding bill_of out_of_range
one_of_each = refl

-- half a cent goes upwards, what is less goes
pub half_a_cent : bill_of (record { full = 125; masked = 0; header = 0; unread = 0 }) 1 ≡ accepted (record { net = 500; total = 501 })
unfolding bill_of out_of_range
half_a_cent = refl

pub below_half : bill_of (record { full = 124; masked = 1; header = 0; unread = 0 }) 1 ≡ accepted (record { net = 498; total = 498 })
unfolding bill_of out_of_range
below_half = refl

-- all at their bounds, and one above
pub greatest : bill_of (record { full = MOST; masked = MOST; header = MOST; unread = MOST }) 1000 ≡ accepted (record { net = 25769803770; total = 51539607540 })
unfolding bill_of out_of_range
greatest = refl

pub tax_above : bill_of no_lines 1001 ≡ refused 28 []
unfolding bill_of out_of_range
tax_above = refl

pub count_above : bill_of (record { full = 0; masked = 0; header = 0; unread = 4294967296 }) 0 ≡ refused 28 []
unfolding bill_of out_of_range
count_above = refl

-- no lines; `R 08` and its end, and without it, at a tax that is too high
pub nothing : text_bill [] 190 ≡ accepted (record { net = 0; total = 0 })
unfolding text_bill text_counts lines_from read_all parts_in bill_of out_of_range
nothing = refl

pub high_tax : text_bill (0x52 ∷ 0x20 ∷ 0x30 ∷ 0x38 ∷ 0x0A ∷ []) 1001 ≡ refused 28 []
unfolding text_bill text_counts lines_from read_all parts_in bill_of out_of_range read_of by_letter unread_read decimal_value
high_tax = refl

pub line_first : text_bill (0x52 ∷ 0x20 ∷ 0x30 ∷ 0x38 ∷ []) 1001 ≡ refused 24 []
unfolding text_bill text_counts lines_from read_all parts_in bill_of out_of_range read_of by_letter unread_read decimal_value
line_first = refl
