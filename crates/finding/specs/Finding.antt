-- 01, "Scanner": look and its twin.
use Rattle.std.specs.Prelude.{ℕ, List, [], Option}
use Rattle.base.specs.Outcome.{Outcome, accepted, refused, pick, on_accepted}
use Rattle.held.specs.Search.{seen, spot_of, bytes_by}
use Rattle.held.specs.declared.search.Spot.{Spot}
use Rattle.cutting.specs.Cutting.{moved_of}
use Rattle.scanner.specs.Scanner.{held_of, too_far}
use Rattle.scanner.specs.declared.scanner.Scanner.{Scanner}

-- "A twin call gives that span's offset and length, or none, or the refusal"
unfoldable pub find_call : Scanner → List ℕ → Outcome (Option Spot)
find_call s store = on_accepted spot_of (held_of s store)

-- "Look hands back the part .., and an empty part if there is none or 1 to 3 apply"
abbrev pub look_by : Outcome (List ℕ) → List ℕ
look_by (refused n vs) = []
look_by (accepted held) = bytes_by (seen held)

unfoldable pub look_of : Scanner → List ℕ → List ℕ
look_of s store = look_by (held_of s store)

-- a call of ours: the next span's place, refused where a take would be
abbrev pub peek_by : Outcome (List ℕ) → Scanner → Outcome (Option Spot)
peek_by (refused n vs) s = refused n vs
peek_by (accepted held) s = pick (too_far s (moved_of s.limit held)) (refused 27 []) (accepted (spot_of held))

unfoldable pub peek_call : Scanner → List ℕ → Outcome (Option Spot)
peek_call s store = peek_by (held_of s store) s
