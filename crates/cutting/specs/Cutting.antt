-- 01, "Scanner": what take does with the held bytes, as `next_raw` does. 02, C-17: how many of them it hands over, and how many it drops.
use Rattle.std.specs.Prelude.{ℕ, ◌+◌, Bool, true, false, List, [], ◌∷◌, ltb, length, drop, Option, Some, None}
use Rattle.base.specs.Outcome.{pick}
use Rattle.held.specs.Spans.{START}
use Rattle.held.specs.Search.{Seen, no_start, no_end, both, seen, span_of}
use Rattle.cutting.specs.declared.deciding.Moved.{Moved}
use Rattle.cutting.specs.declared.deciding.Cut.{Cut}

-- how many held bytes are dropped or cleared, and the span that goes behind them, if one does
pub record Took : Type 0 where
  pub dropped : ℕ
  pub span : Option (List ℕ)

-- "without START all goes"; "bytes before START go", and "with START, no END and more than L bytes from START on, all goes"; "with an END the span goes"
abbrev pub taken_by : (limit all : ℕ) → Seen → Took
taken_by limit all no_start = record { dropped = all; span = None }
taken_by limit all (no_end before rest) = record { dropped = pick (ltb limit (length (START ∷ rest))) all (length before); span = None }
taken_by limit all (both before between rest) = record { dropped = length before; span = Some (span_of between) }

unfoldable pub taken_of : ℕ → List ℕ → Took
taken_of limit held = taken_by limit (length held) (seen held)

-- the span's bytes; none where there is no span
abbrev pub span_bytes : Option (List ℕ) → List ℕ
span_bytes None = []
span_bytes (Some bytes) = bytes

-- "bytes in spans handed over, bytes dropped or cleared"
abbrev pub moving : Took → Moved
moving t = record { pushed = 0; handed = length (span_bytes t.span); dropped = t.dropped }

-- what two calls moved, one after the other
abbrev pub plus : Moved → Moved → Moved
plus a b = record { pushed = a.pushed + b.pushed; handed = a.handed + b.handed; dropped = a.dropped + b.dropped }

-- what a take does with the held bytes
abbrev pub moved_of : ℕ → List ℕ → Moved
moved_of limit held = moving (taken_of limit held)

-- how many of them go
abbrev pub goes_of : ℕ → List ℕ → ℕ
goes_of limit held = (moved_of limit held).dropped + (moved_of limit held).handed

-- what stays
abbrev pub keeps_of : ℕ → List ℕ → List ℕ
keeps_of limit held = drop (goes_of limit held) held

abbrev pub is_span : Option (List ℕ) → Bool
is_span None = false
is_span (Some s) = true

-- the code's form of what goes
abbrev pub cut_of : ℕ → List ℕ → Cut
cut_of limit held =
    record { dropped = (moved_of limit held).dropped; handed = (moved_of limit held).handed; span = is_span (taken_of limit held).span }
