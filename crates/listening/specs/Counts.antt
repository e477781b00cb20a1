-- 02, C-22: lists of calls with station calls among them, and what is claimed of the counts after them.
use Rattle.std.specs.Prelude.{ℕ, ◌≡◌, List, take as first, Option, Some}
use Rattle.cutting.specs.declared.deciding.Moved.{Moved}
use Rattle.draining.specs.Draining.{drained_of}
use Rattle.masked_log.specs.Counts.{State, opened, through, number_in, unless_refused, summed, Adds}
use Rattle.masked_log.specs.Counts as C
use Rattle.acks.specs.Acks.{station_call}

-- the calls of C-17's lists, and station calls, each with a work area and an output of its own
pub data Call : Type 0 where
  other : C.Call → Call
  station : (work out : List ℕ) → Call

abbrev pub next : State → Call → State
next t (other c) = C.next t c
next t (station work out) = let e = station_call t.scanner t.store work out in record { scanner = e.scanner; store = e.store }

abbrev pub next_all : State → List Call → State
next_all t calls = through next t calls

abbrev pub refusal_of : State → Call → Option ℕ
refusal_of t (other c) = C.refusal_of t c
refusal_of t (station work out) = number_in (station_call t.scanner t.store work out).answer

-- a station call what its takes do together
abbrev pub moves : State → Call → Moved
moves t (other c) = C.moves t c
moves t (station work out) = drained_of t.scanner.limit (first t.scanner.count t.store)

abbrev pub did : State → Call → Moved
did t c = unless_refused (refusal_of t c) (moves t c)

abbrev pub did_all : State → List Call → Moved
did_all t calls = summed next did t calls

abbrev pub IsPush : Call → Type 0
IsPush (other c) = C.IsPush c
IsPush (station work out) = ⊥

-- C-17's law, of such lists
pub record Accounts (limit : ℕ) (store : List ℕ) (calls : List Call) : Type 0 where
  pub adds : Adds (next_all (opened limit store) calls).scanner (did_all (opened limit store) calls)
  -- whatever call comes next, only a push is ever refused by 27
  pub only_push : (c : Call) → refusal_of (next_all (opened limit store) calls) c ≡ Some 27 → IsPush c
