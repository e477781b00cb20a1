-- Which types return unaltered from their wire byte. Assumes nothing.
use Rattle.std.proofs.Common.{◌≡◌, ℕ, eqb, sym, refl, ◌∙◌}
use Rattle.base.specs.Outcome.{pick}
use Rattle.base.specs.DataType.{from_wire, to_wire}
use Rattle.base.specs.declared.data_type.DataType.{DataType}
use Rattle.base.specs.declared.data_type.DataType.TheVariants.{Data, Ack, DataMcNo1, DataIcd, DataEv, DataMdr, DataCommon, DataMdrNo2, Shot, ShotMcNo1, ShotIcd, ShotEv, ShotMdr, ShotCommon, ShotMdrNo2, Unknown}
use Rattle.base.proofs.LawsTests.{by_eqb}

named : (b w : ℕ) (t rest : DataType) → to_wire t ≡ w → to_wire rest ≡ b → to_wire (pick (eqb b w) t rest) ≡ b
named b w t rest e k = by_eqb (λ r. to_wire (pick r t rest) ≡ b) b w (λ h. e ∙ sym h) (λ _. k)

-- every byte is what its type writes
pub to_from : (b : ℕ) → to_wire (from_wire b) ≡ b
unfolding from_wire
to_from b =
    named b 0x00 Data _ refl (named b 0x01 Ack _ refl (named b 0x02 DataMcNo1 _ refl (named b 0x09 DataIcd _ refl (named b 0x0A DataEv _ refl
    (named b 0x0C DataMdr _ refl (named b 0x0D DataCommon _ refl (named b 0x0E DataMdrNo2 _ refl (named b 0x10 Shot _ refl (named b 0x12 ShotMcNo1 _ refl
    (named b 0x19 ShotIcd _ refl (named b 0x1A ShotEv _ refl (named b 0x1C ShotMdr _ refl (named b 0x1D ShotCommon _ refl (named b 0x1E ShotMdrNo2 _ refl
    refl))))))))))))))

-- a wire byte reads as this type
pub record Yielded (t : DataType) : Type 0 where
  pub byte : ℕ
  pub reads : from_wire byte ≡ t

-- "only types that `from_wire` yields return unaltered": they do, and no others
pub returns : (t : DataType) → Yielded t → from_wire (to_wire t) ≡ t
returns t y = rw (← y.reads, to_from y.byte)

pub only : (t : DataType) → from_wire (to_wire t) ≡ t → Yielded t
only t e = record { byte = to_wire t; reads = e }

-- "`Unknown(00)` packs as `00` and reads back as `Data`"
pub unknown_zero : (to_wire (Unknown 0) ≡ 0) × (from_wire 0 ≡ Data)
unfolding from_wire
unknown_zero = (refl, refl)
