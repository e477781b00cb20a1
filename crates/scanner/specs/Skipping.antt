-- A call of ours: the first held bytes go as spans go by take, several by one move.
use Rattle.std.specs.Prelude.{ℕ, List, length, take, drop}
use Rattle.base.specs.Outcome.{Outcome, accepted, refused}
use Rattle.scanner.specs.Scanner.{Effect, refuses, held_of, gone}
use Rattle.scanner.specs.declared.scanner.Scanner.{Scanner}
use Rattle.cutting.specs.declared.deciding.Moved.{Moved}

-- so many held bytes are dropped, and so many behind them go in spans; no more than are held
abbrev pub skipping : (held : List ℕ) → (dropped handed : ℕ) → Moved
skipping held dropped handed = record { pushed = 0; handed = length (take handed (drop dropped held)); dropped = length (take dropped held) }

-- 1 to 3, then 27
abbrev skip_by : Outcome (List ℕ) → Scanner → List ℕ → ℕ → ℕ → Effect (Unit {0})
skip_by (refused m vs) s store dropped handed = refuses m vs s store
skip_by (accepted held) s store dropped handed = gone tt s held store (skipping held dropped handed)

unfoldable pub skip_call : Scanner → List ℕ → (dropped handed : ℕ) → Effect (Unit {0})
skip_call s store dropped handed = skip_by (held_of s store) s store dropped handed
