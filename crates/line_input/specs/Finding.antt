-- The next line among the bytes that are held, which are the first ones of the buffer.
use Rattle.std.specs.Prelude.{ℕ, suc, ◌+◌, ◌≤◌, ◌<◌, min, max, Bool, true, false, List, [], ◌∷◌, ltb, eqb, length, take, drop}
use Rattle.base.specs.Outcome.{pick}
use Rattle.line_input.specs.declared.state.Input.{Input}
use Rattle.line_input.specs.declared.finding.Next.{Next}
use Rattle.line_input.specs.declared.finding.Next.TheVariants.{Line, TooLong, More, End, Failed}
use Rattle.line_input.specs.declared.finding.Step.{Step}

-- a line that is handed over has a byte at least, and lies in a buffer of so many bytes
abbrev pub Lies : Next → (room : ℕ) → Type 0
Lies (Line number from to) room = (from < to) × (to ≤ room)
Lies (TooLong number) room = Unit {0}
Lies More room = Unit {0}
Lies End room = Unit {0}
Lies Failed room = Unit {0}

-- the place behind the first newline of bytes that stand from a place on; 0 where there is none
unfoldable pub newline_at : (at : ℕ) → List ℕ → ℕ
newline_at at [] = 0
newline_at at (b ∷ bs) = pick (eqb b 0x0A) (suc at) (newline_at (suc at) bs)

-- where the line that has begun ends
unfoldable pub line_end : Input → List ℕ → ℕ
line_end i held = let from = max i.at i.seen in newline_at from (drop from held)

abbrev pub GREATEST : ℕ
GREATEST = 18446744073709551615

-- the next line begins at a place
abbrev pub line_done : Input → ℕ → Input
line_done i to = record { at = to; seen = to; end = i.end; number = min (i.number + 1) GREATEST; skips = false; ended = i.ended; failed = i.failed }

-- the line is skipped, so far to a place
abbrev pub skips_to : Input → ℕ → Input
skips_to i to = record { at = to; seen = to; end = i.end; number = i.number; skips = true; ended = i.ended; failed = i.failed }

-- behind a line that is skipped
unfoldable pub passed : Input → List ℕ → Input
passed i held = pick i.skips (pick (eqb (line_end i held) 0) (skips_to i (length held)) (line_done i (line_end i held))) i

-- a line of as many bytes as the buffer has is too long
abbrev pub fills_all : (at to room : ℕ) → Bool
fills_all at to room = pick (eqb at 0) (eqb to room) false

abbrev pub too_long : ℕ → Input → Step
too_long number i = record { next = TooLong number; input = i }

abbrev pub line_of : Input → ℕ → Step
line_of i to = record { next = Line i.number i.at to; input = line_done i to }

-- "bytes behind the last `0A` are a line without its end"
abbrev pub at_end : Input → ℕ → Step
at_end i end = pick (ltb i.at end) (line_of i end) (record { next = End; input = i })

abbrev pub all_seen : Input → ℕ → Input
all_seen i end = record { at = i.at; seen = end; end = i.end; number = i.number; skips = i.skips; ended = i.ended; failed = i.failed }

unfoldable pub waiting_of : Input → ℕ → Step
waiting_of i end = pick i.failed (record { next = Failed; input = i }) (pick i.ended (at_end i end) (record { next = More; input = all_seen i end }))

unfoldable pub unfinished_of : Input → (end room : ℕ) → Step
unfinished_of i end room = pick i.skips (waiting_of i end) (pick (fills_all i.at end room) (too_long i.number (skips_to i end)) (waiting_of i end))

-- the line that has begun ends at a place; not yet where that is 0
abbrev pub ends_at : Input → (to end room : ℕ) → Step
ends_at i to end room = pick (eqb to 0) (unfinished_of i end room) (pick (fills_all i.at to room) (too_long i.number (line_done i to)) (line_of i to))

abbrev pub next_in : Input → (held : List ℕ) (room : ℕ) → Step
next_in i held room = ends_at (passed i held) (line_end (passed i held) held) (length held) room

unfoldable pub next_of : Input → List ℕ → Step
next_of i buf = next_in i (take i.end buf) (length buf)
