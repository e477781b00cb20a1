-- A frame's type, sequence and payload length without a work area: what unpack answers where its work area is long enough.
use Rattle.std.specs.Prelude.{ℕ, List}
use Rattle.base.specs.Outcome.{Outcome, on_accepted}
use Rattle.framing.specs.Framing.{header_of, unpack_of}
use Rattle.framing.specs.declared.framing.Header.{Header}

unfoldable pub header_read : List ℕ → Outcome Header
header_read frame = on_accepted header_of (unpack_of frame)
