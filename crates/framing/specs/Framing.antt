-- 01, "Frames": pack, unpack and ack, and the refusals 8 to 18.
use Rattle.std.specs.Prelude.{ℕ, ◌+◌, ◌-◌, ◌*◌, ◌/◌, ◌%◌, List, [], ◌∷◌, ◌++◌, length, take, drop, replicate, ◌==◌, nat_lt, slice_index}
use Rattle.base.specs.Outcome.{Outcome, accepted, refused, pick}
use Rattle.base.specs.DataType.{from_wire, to_wire}
use Rattle.base.specs.Sum.{checksum_of}
use Rattle.base.specs.Writing.{WriteEffect, write_call}
use Rattle.escaping.specs.Escaping.{START, END, escape_of, unescape_of}
use Rattle.base.specs.declared.data_type.DataType.{DataType}
use Rattle.base.specs.declared.data_type.DataType.TheVariants.{Ack}
use Rattle.framing.specs.declared.framing.Header.{Header}

-- "a four-byte length with the high byte first"
abbrev pub length_field : ℕ → List ℕ
length_field n = n / 16777216 % 256 ∷ n / 65536 % 256 ∷ n / 256 % 256 ∷ n % 256 ∷ []

-- "A body is type, sequence, length, payload, and the checksum, which adds every earlier body byte"
abbrev pub summed_of : ℕ → ℕ → List ℕ → List ℕ
summed_of kind seq payload = kind ∷ seq ∷ length_field (length payload) ++ payload

unfoldable pub body_of : ℕ → ℕ → List ℕ → List ℕ
body_of kind seq payload = summed_of kind seq payload ++ (checksum_of (summed_of kind seq payload) ∷ [])

-- "A frame is START, the escaped body, END"
unfoldable pub frame_of : List ℕ → List ℕ
frame_of body = START ∷ escape_of body ++ (END ∷ [])

-- 17, then 18
unfoldable pub pack_call : DataType → ℕ → List ℕ → List ℕ → WriteEffect
pack_call kind seq payload out =
    pick (nat_lt 4294967295 (length payload))
    (record { answer = refused 17 []; out = out })
    (write_call (frame_of (body_of (to_wire kind) seq payload)) out)

-- "Ack: type `01`, sequence 1 minus the given one, wrapping"
abbrev pub ack_call : ℕ → List ℕ → WriteEffect
ack_call seq out = pack_call Ack ((257 - seq) % 256) [] out

-- the payload length that a body carries
abbrev pub length_of : List ℕ → ℕ
length_of body = slice_index body 2 * 16777216 + slice_index body 3 * 65536 + slice_index body 4 * 256 + slice_index body 5

-- what the checksum adds, and the checksum that the body carries
abbrev pub summed : List ℕ → List ℕ
summed body = take (length body - 1) body

abbrev pub carried : List ℕ → ℕ
carried body = slice_index body (length body - 1)

-- 14, 15, 16 of an unescaped body
unfoldable pub body_checked : List ℕ → Outcome (List ℕ)
body_checked body =
    pick (nat_lt (length body) 7) (refused 14 [])
    (pick (carried body == checksum_of (summed body))
    (pick (length_of body == length body - 7) (accepted body)
    (refused 16 (length_of body ∷ (length body - 7) ∷ [])))
    (refused 15 (carried body ∷ checksum_of (summed body) ∷ [])))

abbrev pub then_checked : Outcome (List ℕ) → Outcome (List ℕ)
then_checked (accepted body) = body_checked body
then_checked (refused n vs) = refused n vs

-- what stands between the markers
abbrev pub inner : List ℕ → List ℕ
inner frame = take (length frame - 1 - 1) (drop 1 frame)

-- 8, 9 and 10, the first that applies, before what follows
unfoldable pub marked : {A : Type 0} → (ℕ → A) → List ℕ → A → A
marked refuse frame next =
    pick (nat_lt (length frame) 9) (refuse 8)
    (pick (slice_index frame 0 == START)
    (pick (slice_index frame (length frame - 1) == END) next
    (refuse 10))
    (refuse 9))

-- what stands between the markers, or why there are none
abbrev pub inner_of : List ℕ → Outcome (List ℕ)
inner_of frame = marked (λ n. refused n []) frame (accepted (inner frame))

-- the body of a frame, or why there is none, in a work area that is long enough
abbrev pub unpack_of : List ℕ → Outcome (List ℕ)
unpack_of frame = marked (λ n. refused n []) frame (then_checked (unescape_of (inner frame)))

pub record UnpackEffect : Type 0 where
  pub answer : Outcome Header
  pub work : List ℕ

-- "the payload starts there at offset 6"
abbrev pub payload_of : List ℕ → List ℕ
payload_of body = take (length body - 7) (drop 6 body)

-- what pack writes for a body's type, sequence and payload
abbrev pub repacked : List ℕ → List ℕ
repacked body = frame_of (body_of (slice_index body 0) (slice_index body 1) (payload_of body))

abbrev pub header_of : List ℕ → Header
header_of body = record { data_type = from_wire (slice_index body 0); seq = slice_index body 1; len = length body - 7 }

-- the body at the front and zeros behind; "unpack's 12 to 16 zero the work area"
abbrev pub unpack_by : Outcome (List ℕ) → ℕ → UnpackEffect
unpack_by (accepted body) room = record { answer = accepted (header_of body); work = body ++ replicate (room - length body) 0 }
unpack_by (refused n vs) room = record { answer = refused n vs; work = replicate room 0 }

-- 8 to 11 change nothing
unfoldable pub unpack_call : List ℕ → List ℕ → UnpackEffect
unpack_call frame work =
    marked (λ n. record { answer = refused n []; work = work }) frame
    (pick (nat_lt (length work) (length frame - 2)) (record { answer = refused 11 []; work = work })
    (unpack_by (then_checked (unescape_of (inner frame))) (length work)))
