-- 02, C-22: a station that acknowledges.
use Rattle.std.specs.Prelude.{ℕ, ◌-◌, ◌%◌, Bool, List, [], ◌∷◌, ◌++◌, length, ◌==◌, nat_lt, Option, Some, None}
use Rattle.base.specs.Outcome.{Outcome, accepted, refused, pick}
use Rattle.base.specs.DataType.{to_wire}
use Rattle.base.specs.Writing.{zeros, write_call}
use Rattle.base.specs.declared.data_type.DataType.TheVariants.{Ack}
use Rattle.framing.specs.Framing.{body_of, frame_of}
use Rattle.framing.specs.declared.framing.Header.{Header}
use Rattle.heading.specs.Heading.{header_read}
use Rattle.held.specs.Spans.{spans}
use Rattle.scanner.specs.Scanner.{Effect, held_of}
use Rattle.scanner.specs.declared.scanner.Scanner.{Scanner}
use Rattle.draining.specs.Draining.{drain_call}
use Rattle.masked_log.specs.Demand3.{joined}

-- what unpack gives of a span: "each accepted frame whose type isn't `Ack`", by its sequence
abbrev pub due_in : Outcome Header → Option ℕ
due_in (refused n vs) = None
due_in (accepted h) = pick (to_wire h.data_type == to_wire Ack) None (Some h.seq)

-- 01's ack of a sequence: "type `01`, sequence 1 minus the given one, wrapping"
unfoldable pub ack_frame : ℕ → List ℕ
ack_frame seq = frame_of (body_of (to_wire Ack) ((257 - seq) % 256) [])

-- "writes an ack for each accepted frame whose type isn't `Ack`, in the order of the spans"; "Refused spans and acks get none": none or one
abbrev pub acks_by : Option ℕ → List (List ℕ)
acks_by None = []
acks_by (Some seq) = ack_frame seq ∷ []

abbrev pub acks_of : List (List ℕ) → List (List ℕ)
acks_of [] = []
acks_of (span ∷ ss) = acks_by (due_in (header_read span)) ++ acks_of ss

-- of the spans of these bytes, joined
unfoldable pub acks_in : List ℕ → List ℕ
acks_in held = joined (acks_of (spans held))

-- the count of bytes written
pub record StationEffect : Type 0 where
  pub answer : Outcome ℕ
  pub scanner : Scanner
  pub store : List ℕ
  pub work : List ℕ
  pub out : List ℕ

-- "Counts that its takes would carry too far are 27, as at take", and then nothing changes; else they are made, and the work area is "all zero after an accepted call"
abbrev pub take_by : Outcome Bool → Effect Bool → (count : ℕ) → (work out written : List ℕ) → StationEffect
take_by (refused n vs) drained count work out written = record { answer = refused n vs; scanner = drained.scanner; store = drained.store; work = work; out = out }
take_by (accepted found) drained count work out written = record { answer = accepted count; scanner = drained.scanner; store = drained.store; work = zeros work; out = written }

-- "If the output can't take all the acks, the call is refused by 18 with nothing taken, no output written and the work area zero"
abbrev pub write_by : Outcome ℕ → Scanner → (store work out written : List ℕ) → StationEffect
write_by (refused n vs) s store work out written = record { answer = refused n vs; scanner = s; store = store; work = zeros work; out = out }
write_by (accepted count) s store work out written = take_by (drain_call s store).answer (drain_call s store) count work out written

-- 1 to 3, then 6, then 18, then 27
abbrev pub station_by : Outcome (List ℕ) → Scanner → (store work out : List ℕ) → StationEffect
station_by (refused n vs) s store work out = record { answer = refused n vs; scanner = s; store = store; work = work; out = out }
station_by (accepted held) s store work out =
    pick (nat_lt (length work) (length store)) (record { answer = refused 6 []; scanner = s; store = store; work = work; out = out })
    (let fit = write_call (acks_in held) out in write_by fit.answer s store work out fit.out)

-- "it goes through every span": takes until one finds none, with their acks at the front of the output
unfoldable pub station_call : Scanner → (store work out : List ℕ) → StationEffect
station_call s store work out = station_by (held_of s store) s store work out

-- a span's ack, if it gets one
unfoldable pub span_ack : List ℕ → List ℕ
span_ack span = joined (acks_by (due_in (header_read span)))
