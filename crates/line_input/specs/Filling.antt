-- What a read leaves of the bytes that are held.
use Rattle.std.specs.Prelude.{ℕ, ◌-◌, ◌≤◌, ◌≡◌, List, length, take}
use Rattle.line_input.specs.declared.state.Input.{Input}
use Rattle.line_input.specs.State.{held_of}

-- so many bytes are held, from the buffer's front on
abbrev pub at_front : Input → ℕ → Input
at_front i n = record { at = 0; seen = i.seen - i.at; end = n; number = i.number; skips = i.skips; ended = i.ended; failed = i.failed }

-- what was held is held, before what was read, and is searched no second time
pub record Filled (i : Input) (buf : List ℕ) (r : Input) (after : List ℕ) : Type 0 where
  pub keeps : take (length (held_of i buf)) (held_of r after) ≡ held_of i buf
  pub front : r.at ≡ 0
  pub within : r.end ≤ length after
  pub seen : r.seen ≡ i.seen - i.at
  pub number : r.number ≡ i.number
  pub skips : r.skips ≡ i.skips
