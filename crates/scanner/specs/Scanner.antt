-- 01, "Scanner": the state, the refusals 1 to 4, opening, push, and letting held bytes go. 02, C-17: the counts, and 27.
use Rattle.std.specs.Prelude.{ℕ, ◌+◌, Bool, true, List, [], ◌++◌, ltb, length, take, drop, replicate, Result, Ok, Err}
use Rattle.base.specs.Outcome.{Outcome, accepted, refused, pick}
use Rattle.base.specs.Refusal.{refusal_told}
use Rattle.held.specs.Going.{let_go}
use Rattle.scanner.specs.declared.scanner.Scanner.{Scanner}
use Rattle.cutting.specs.declared.deciding.Moved.{Moved}
use Rattle.base.specs.declared.refusal.Refusal.{Refusal}

-- "the state is the limit L .. and the count held", and "three counts of eight bytes: bytes pushed, bytes in spans handed over, bytes dropped or cleared": nothing held, nothing counted
abbrev pub fresh : ℕ → Scanner
fresh limit = record { limit = limit; count = 0; pushed = 0; handed = 0; dropped = 0 }

-- so many held, and what a call did counted
abbrev pub holding : Scanner → ℕ → Moved → Scanner
holding s count m =
    record { limit = s.limit; count = count; pushed = s.pushed + m.pushed; handed = s.handed + m.handed; dropped = s.dropped + m.dropped }

-- the greatest count of eight bytes
abbrev pub GREATEST : ℕ
GREATEST = 18446744073709551615

-- a count would be carried above it
unfoldable pub too_far : Scanner → Moved → Bool
too_far s m =
    pick (ltb GREATEST (s.pushed + m.pushed)) true (
    pick (ltb GREATEST (s.handed + m.handed)) true (
    ltb GREATEST (s.dropped + m.dropped)))

-- 27, or the state after the call
unfoldable pub counted_of : Scanner → ℕ → Moved → Outcome Scanner
counted_of s count m = pick (too_far s m) (refused 27 []) (accepted (holding s count m))

-- what a call comes to: its answer, the state after it, the store after it
pub record Effect (A : Type 0) : Type 0 where
  pub answer : Outcome A
  pub scanner : Scanner
  pub store : List ℕ

-- "Refusals change no state or buffer"
abbrev pub refuses : {A : Type 0} → ℕ → List ℕ → Scanner → List ℕ → Effect A
refuses n vs s store = record { answer = refused n vs; scanner = s; store = store }

-- "Every scanner call tries 1 to 3", the lowest first; past them, the held bytes: "the first bytes of the store"
unfoldable pub held_of : Scanner → List ℕ → Outcome (List ℕ)
held_of s store =
    pick (ltb s.limit 9) (refused 1 []) (
    pick (ltb 65536 s.limit) (refused 1 []) (
    pick (ltb (length store) (s.limit + 1)) (refused 2 []) (
    pick (ltb (length store) s.count) (refused 3 []) (
    accepted (take s.count store)))))

-- "Opening fills the store with zeros." Refused, the scanner has the limit as given and holds nothing
abbrev pub open_by : Outcome (List ℕ) → ℕ → List ℕ → Effect (Unit {0})
open_by (refused n vs) limit store = refuses n vs (fresh limit) store
open_by (accepted held) limit store = record { answer = accepted tt; scanner = fresh limit; store = replicate (length store) 0 }

unfoldable pub open_call : ℕ → List ℕ → Effect (Unit {0})
open_call limit store = open_by (held_of (fresh limit) store) limit store

-- by 27 nothing changes; else the state has counted what the call did, and the store is as the call leaves it
abbrev pub counting : {A : Type 0} → Outcome Scanner → A → Scanner → (store store' : List ℕ) → Effect A
counting (refused n vs) a s store store' = refuses n vs s store
counting (accepted s') a s store store' = record { answer = accepted a; scanner = s'; store = store' }

-- a push counts its piece
abbrev pub pushing : List ℕ → Moved
pushing piece = record { pushed = length piece; handed = 0; dropped = 0 }

-- "A push appends"; 4: "Held plus piece above the store's length"; then 27
abbrev pub push_by : Outcome (List ℕ) → Scanner → List ℕ → List ℕ → Effect (Unit {0})
push_by (refused n vs) s store piece = refuses n vs s store
push_by (accepted held) s store piece =
    pick (ltb (length store) (s.count + length piece)) (refuses 4 [] s store)
    (counting (counted_of s (s.count + length piece) (pushing piece)) tt s store (held ++ piece ++ drop (s.count + length piece) store))

unfoldable pub push_call : Scanner → List ℕ → List ℕ → Effect (Unit {0})
push_call s store piece = push_by (held_of s store) s store piece

-- of the first held bytes so many are dropped, and so many go in spans; or 27
abbrev pub gone : {A : Type 0} → A → Scanner → (held store : List ℕ) → Moved → Effect A
gone a s held store m =
    let n = m.dropped + m.handed in
    counting (counted_of s (length (drop n held)) m) a s store (let_go held n store)

-- the answers in 01's numbers
abbrev pub checked_told : Result (Unit {0}) Refusal → List ℕ → Outcome (List ℕ)
checked_told (Ok passed) held = accepted held
checked_told (Err r) held = refusal_told r
