-- The acks of noise, a battery report, a span that is no frame, an ack, and a frame with the sequence of case (b): the report and the last get one.
use Prim.Native.Nat.{ℕ}
use mathlib.Core.Path.{◌≡◌, refl}
use mathlib.Core.List.{List, [], ◌∷◌}
use Rattle.base.specs.Sum.{total}
use Rattle.base.specs.DataType.{from_wire}
use Rattle.escaping.specs.Escaping.{each_of, escaped_byte, unescape_of, escapee_then}
use Rattle.framing.specs.Framing.{body_of, frame_of, body_checked, marked}
use Rattle.heading.specs.Heading.{header_read}
use Rattle.acks.specs.Acks.{ack_frame, acks_in}

abbrev sample : List ℕ
sample =
    0x00 ∷ 0x3E ∷ 0x0C ∷ 0x00 ∷ 0x00 ∷ 0x00 ∷ 0x00 ∷ 0x04 ∷ 0x23 ∷ 0x00 ∷ 0x50 ∷ 0x01 ∷ 0x84 ∷ 0x3C
    ∷ 0x3E ∷ 0x3C
    ∷ 0x3E ∷ 0x01 ∷ 0x01 ∷ 0x00 ∷ 0x00 ∷ 0x00 ∷ 0x00 ∷ 0x02 ∷ 0x3C
    ∷ 0x3E ∷ 0x00 ∷ 0xC5 ∷ 0x00 ∷ 0x00 ∷ 0x00 ∷ 0x00 ∷ 0xC5 ∷ 0x3C
    ∷ []

-- the battery report's, whose sequence is 0, and case (b)
pub sample_acks : acks_in sample
    ≡ 0x3E ∷ 0x01 ∷ 0x01 ∷ 0x00 ∷ 0x00 ∷ 0x00 ∷ 0x00 ∷ 0x02 ∷ 0x3C ∷ 0x3E ∷ 0x01 ∷ 0x3D ∷ 0x2C ∷ 0x00 ∷ 0x00 ∷ 0x00 ∷ 0x00 ∷ 0x3D ∷ 0x2D ∷ 0x3C ∷ []
unfolding acks_in ack_frame header_read marked body_checked unescape_of escapee_then total from_wire body_of frame_of each_of escaped_byte
sample_acks = refl
