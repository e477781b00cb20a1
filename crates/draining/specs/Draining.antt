-- 02, C-17 and C-22: takes one after the other until one finds no span, and what they do together.
use Rattle.std.specs.Prelude.{ℕ, zero, suc, Bool, true, false, List, length, Option, Some, None}
use Rattle.base.specs.Outcome.{Outcome, accepted, refused}
use Rattle.cutting.specs.Cutting.{taken_of, moved_of, keeps_of, plus}
use Rattle.cutting.specs.declared.deciding.Moved.{Moved}
use Rattle.scanner.specs.Scanner.{Effect, refuses}
use Rattle.scanner.specs.Taking.{take_call}
use Rattle.scanner.specs.declared.scanner.Scanner.{Scanner}

-- takes until one finds no span: what the last one comes to
abbrev pub takes_by : Outcome Bool → (last next : Effect Bool) → Effect Bool
takes_by (refused n vs) last next = last
takes_by (accepted false) last next = last
takes_by (accepted true) last next = next

abbrev pub takes_from : ℕ → Scanner → List ℕ → Effect Bool
takes_from zero s store = take_call s store
takes_from (suc n) s store = let e = take_call s store in takes_by e.answer e (takes_from n e.scanner e.store)

-- a span has two bytes at least, so there are fewer than held bytes
unfoldable pub takes : Scanner → List ℕ → Effect Bool
takes s store = takes_from s.count s store

-- all of them; where one is refused, none
abbrev pub drain_by : Outcome Bool → (last : Effect Bool) → Scanner → List ℕ → Effect Bool
drain_by (refused n vs) last s store = refuses n vs s store
drain_by (accepted found) last s store = last

unfoldable pub drain_call : Scanner → List ℕ → Effect Bool
drain_call s store = drain_by (takes s store).answer (takes s store) s store

-- what they move together: what the first one does, and where it hands over a span what those behind it do
abbrev pub drained_by : Option (List ℕ) → (first behind : Moved) → Moved
drained_by None first behind = first
drained_by (Some span) first behind = plus first behind

abbrev pub drained_from : ℕ → (limit : ℕ) → List ℕ → Moved
drained_from zero limit held = moved_of limit held
drained_from (suc n) limit held = drained_by (taken_of limit held).span (moved_of limit held) (drained_from n limit (keeps_of limit held))

unfoldable pub drained_of : ℕ → List ℕ → Moved
drained_of limit held = drained_from (length held) limit held
