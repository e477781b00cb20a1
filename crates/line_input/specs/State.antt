-- Where the reading of an input stands.
use Rattle.std.specs.Prelude.{ℕ, false, List, take, drop}
use Rattle.line_input.specs.declared.state.Input.{Input}

abbrev pub nothing_read : Input
nothing_read = record { at = 0; seen = 0; end = 0; number = 1; skips = false; ended = false; failed = false }

-- the bytes that were read and not handed over
abbrev pub held_of : Input → List ℕ → List ℕ
held_of i buf = drop i.at (take i.end buf)
