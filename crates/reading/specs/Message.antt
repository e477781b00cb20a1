-- 01, "Messages and decoders": how a payload is split.
use Rattle.std.specs.Prelude.{ℕ, ◌+◌, List, [], eqb, length, get_or, drop, Option, Some, None}
use Rattle.base.specs.Outcome.{Outcome, accepted, refused, pick}
use Rattle.reading.specs.declared.message.Message.{Message}

-- "Payload byte 0 is the command, byte 1 the kind, the rest the body."
abbrev pub kind_of : List ℕ → ℕ
kind_of payload = get_or payload 1 0

abbrev pub message_body : List ℕ → List ℕ
message_body payload = drop 2 payload

-- the body's byte at an offset
abbrev pub body_at : List ℕ → ℕ → ℕ
body_at payload offset = get_or payload (2 + offset) 0

abbrev pub byte_at : List ℕ → ℕ → Option ℕ
byte_at payload offset = Some (body_at payload offset)

-- 19 for an empty payload; else the command, the kind if there is one, and the length
unfoldable pub split_of : List ℕ → Outcome Message
split_of payload =
    pick (eqb (length payload) 0) (refused 19 [])
    (accepted (record {
      command = get_or payload 0 0;
      kind = pick (eqb (length payload) 1) None (Some (kind_of payload));
      len = length payload;
    }))
