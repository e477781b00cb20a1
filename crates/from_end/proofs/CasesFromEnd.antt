-- Worked cases: 01's case (a) from its end, and a battery report's body cut behind its header.
use Rattle.std.proofs.Common.{◌≡◌, [], ◌∷◌, refl}
use Rattle.from_end.specs.FromEnd.{back_onto}

-- of nothing `00`, of `FF 02` `01`
pub case_a : (back_onto 0x00 [] ≡ 0x00) × (back_onto 0x00 (0xFF ∷ 0x02 ∷ []) ≡ 0x01)
unfolding back_onto
case_a = (refl, refl)

-- nothing leaves any sum, and a sum wraps with the byte added
pub onto : (back_onto 0xC5 [] ≡ 0xC5) × (back_onto 0xFF (0x02 ∷ []) ≡ 0x01)
unfolding back_onto
onto = (refl, refl)

-- the payload `23 00 50 01` has `74`, and `0C 00 00 00 00 04` added onto it gives the frame's `84`
pub report : (back_onto 0x00 (0x23 ∷ 0x00 ∷ 0x50 ∷ 0x01 ∷ []) ≡ 0x74) × (back_onto 0x74 (0x0C ∷ 0x00 ∷ 0x00 ∷ 0x00 ∷ 0x00 ∷ 0x04 ∷ []) ≡ 0x84)
unfolding back_onto
report = (refl, refl)
