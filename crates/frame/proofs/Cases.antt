-- 01, "Marked cases": (a) to (f), and the frame of (h), over the definitions. Assumes nothing.
use Prim.Native.Nat.{ℕ, ◌-◌, ◌≤◌}
use mathlib.Core.Path.{◌≡◌, refl}
use mathlib.Core.List.{List, [], ◌∷◌, ◌++◌}
use native.Mathlib.Omega.{arith}
use lib.ListN.{length, drop, replicate}
use borrow.Author.Tests.{le-ltb}
use Rattle.base.specs.Outcome.{accepted, refused}
use Rattle.base.specs.DataType.{from_wire}
use Rattle.base.specs.Sum.{total, checksum_of}
use Rattle.escaping.specs.Escaping.{each_of, escaped_byte, escapee_then, unescape_of}
use Rattle.base.specs.Writing.{write_or}
use Rattle.framing.specs.Framing.{body_of, frame_of, pack_call, ack_call, body_checked, marked, unpack_call}
use Rattle.base.specs.declared.data_type.DataType.TheVariants.{Data, DataMdr}
use Rattle.framing.proofs.LawsFraming.{unpack_long}

-- checksum of nothing `00`, of `FF 02` `01`
pub case_a : (checksum_of [] ≡ 0x00) × (checksum_of (0xFF ∷ 0x02 ∷ []) ≡ 0x01)
unfolding total each_of escaped_byte escapee_then unescape_of body_of frame_of body_checked marked from_wire
case_a = (refl, refl)

-- the ack for `C5`, in any output that is long enough
pub case_b : (out : List ℕ) → 11 ≤ length out
    → ack_call 0xC5 out ≡ record { answer = accepted 11; out = 0x3E ∷ 0x01 ∷ 0x3D ∷ 0x2C ∷ 0x00 ∷ 0x00 ∷ 0x00 ∷ 0x00 ∷ 0x3D ∷ 0x2D ∷ 0x3C ∷ drop 11 out }
unfolding total each_of escaped_byte body_of frame_of write_or pack_call
case_b out room = rw (le-ltb (length out) 11 room)

-- the bodies that (f) and (h) carry
abbrev pub body_f : List ℕ
body_f = 0x00 ∷ 0x3E ∷ 0x00 ∷ 0x00 ∷ 0x00 ∷ 0x00 ∷ 0x3E ∷ []

abbrev pub body_h : List ℕ
body_h = 0x0C ∷ 0x00 ∷ 0x00 ∷ 0x00 ∷ 0x00 ∷ 0x04 ∷ 0x23 ∷ 0x00 ∷ 0x50 ∷ 0x01 ∷ 0x84 ∷ []

-- frames of nine bytes, in any work area that is long enough
module _ (work : List ℕ) (room : 7 ≤ length work) where
  -- a body under 7 bytes
  pub case_c : unpack_call (0x3E ∷ 0x3D ∷ 0x2C ∷ 0x00 ∷ 0x00 ∷ 0x00 ∷ 0x00 ∷ 0x00 ∷ 0x3C ∷ []) work ≡ record { answer = refused 14 []; work = replicate (length work) 0 }
  unfolding total escapee_then unescape_of body_checked marked
  case_c = unpack_long _ work (omega arith) refl refl room

  -- length and checksum both wrong: the checksum is told
  pub case_d : unpack_call (0x3E ∷ 0x01 ∷ 0x01 ∷ 0x00 ∷ 0x00 ∷ 0x00 ∷ 0x01 ∷ 0x02 ∷ 0x3C ∷ []) work ≡ record { answer = refused 15 (0x02 ∷ 0x03 ∷ []); work = replicate (length work) 0 }
  unfolding total escapee_then unescape_of body_checked marked
  case_d = unpack_long _ work (omega arith) refl refl room

  -- the length wrong alone: declared 1, actual 0
  pub case_e : unpack_call (0x3E ∷ 0x01 ∷ 0x01 ∷ 0x00 ∷ 0x00 ∷ 0x00 ∷ 0x01 ∷ 0x03 ∷ 0x3C ∷ []) work ≡ record { answer = refused 16 (1 ∷ 0 ∷ []); work = replicate (length work) 0 }
  unfolding total escapee_then unescape_of body_checked marked
  case_e = unpack_long _ work (omega arith) refl refl room

  -- raw START inside: accepted
  pub case_f : unpack_call (0x3E ∷ body_f ++ (0x3C ∷ [])) work ≡ record { answer = accepted (record { data_type = Data; seq = 0x3E; len = 0 }); work = body_f ++ replicate (length work - 7) 0 }
  unfolding total escapee_then unescape_of body_checked marked from_wire
  case_f = unpack_long _ work (omega arith) refl refl room

-- and packed otherwise
pub case_f_packs : (out : List ℕ) → 11 ≤ length out
    → pack_call Data 0x3E [] out ≡ record { answer = accepted 11; out = 0x3E ∷ 0x00 ∷ 0x3D ∷ 0x2E ∷ 0x00 ∷ 0x00 ∷ 0x00 ∷ 0x00 ∷ 0x3D ∷ 0x2E ∷ 0x3C ∷ drop 11 out }
unfolding total each_of escaped_byte body_of frame_of write_or pack_call
case_f_packs out room = rw (le-ltb (length out) 11 room)

-- a battery report
pub case_h : (work : List ℕ) → 11 ≤ length work
    → unpack_call (0x3E ∷ body_h ++ (0x3C ∷ [])) work ≡ record { answer = accepted (record { data_type = DataMdr; seq = 0x00; len = 4 }); work = body_h ++ replicate (length work - 11) 0 }
unfolding total escapee_then unescape_of body_checked marked from_wire
case_h work room = unpack_long _ work (omega arith) refl refl room
