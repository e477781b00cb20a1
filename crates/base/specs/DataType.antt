-- 01, "Data types": `from_wire` and `to_wire` as written in mod.rs.
use Rattle.std.specs.Prelude.{ℕ, ◌==◌}
use Rattle.base.specs.Outcome.{pick}
use Rattle.base.specs.declared.data_type.DataType.{DataType}
use Rattle.base.specs.declared.data_type.DataType.TheVariants.{Data, Ack, DataMcNo1, DataIcd, DataEv, DataMdr, DataCommon, DataMdrNo2, Shot, ShotMcNo1, ShotIcd, ShotEv, ShotMdr, ShotCommon, ShotMdrNo2, Unknown}

unfoldable pub from_wire : ℕ → DataType
from_wire b =
    pick (b == 0x00) Data (
    pick (b == 0x01) Ack (
    pick (b == 0x02) DataMcNo1 (
    pick (b == 0x09) DataIcd (
    pick (b == 0x0A) DataEv (
    pick (b == 0x0C) DataMdr (
    pick (b == 0x0D) DataCommon (
    pick (b == 0x0E) DataMdrNo2 (
    pick (b == 0x10) Shot (
    pick (b == 0x12) ShotMcNo1 (
    pick (b == 0x19) ShotIcd (
    pick (b == 0x1A) ShotEv (
    pick (b == 0x1C) ShotMdr (
    pick (b == 0x1D) ShotCommon (
    pick (b == 0x1E) ShotMdrNo2 (
    Unknown b)))))))))))))))

abbrev pub to_wire : DataType → ℕ
to_wire Data = 0x00
to_wire Ack = 0x01
to_wire DataMcNo1 = 0x02
to_wire DataIcd = 0x09
to_wire DataEv = 0x0A
to_wire DataMdr = 0x0C
to_wire DataCommon = 0x0D
to_wire DataMdrNo2 = 0x0E
to_wire Shot = 0x10
to_wire ShotMcNo1 = 0x12
to_wire ShotIcd = 0x19
to_wire ShotEv = 0x1A
to_wire ShotMdr = 0x1C
to_wire ShotCommon = 0x1D
to_wire ShotMdrNo2 = 0x1E
to_wire (Unknown b) = b
