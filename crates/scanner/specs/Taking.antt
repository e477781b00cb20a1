-- 01, "Scanner": "Take does what `next_raw` does".
use Rattle.std.specs.Prelude.{ℕ, Bool, List}
use Rattle.base.specs.Outcome.{Outcome, accepted, refused}
use Rattle.cutting.specs.Cutting.{taken_of, moved_of, is_span}
use Rattle.scanner.specs.Scanner.{Effect, refuses, held_of, gone}
use Rattle.scanner.specs.declared.scanner.Scanner.{Scanner}

-- "Its answer says whether a span went."
abbrev pub take_by : Outcome (List ℕ) → Scanner → List ℕ → Effect Bool
take_by (refused n vs) s store = refuses n vs s store
take_by (accepted held) s store = gone (is_span (taken_of s.limit held).span) s held store (moved_of s.limit held)

unfoldable pub take_call : Scanner → List ℕ → Effect Bool
take_call s store = take_by (held_of s store) s store
