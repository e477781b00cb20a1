-- The numbers that the exported calls tell, for each accepted value.
use Rattle.std.specs.Prelude.{ℕ, ◌+◌, Bool, true, false, List, [], ◌∷◌, ◌++◌, eqb, get_or, Option, Some, None}
use Rattle.base.specs.Outcome.{Outcome, accepted, refused, pick}
use Rattle.base.specs.DataType.{to_wire}
use Rattle.framing.specs.declared.framing.Header.{Header}
use Rattle.base.specs.declared.data_type.DataType.{DataType}
use Rattle.base.specs.declared.data_type.DataType.TheVariants as D
use Rattle.held.specs.declared.search.Spot.{Spot}
use Rattle.held.specs.declared.search.Sight.{Sight}
use Rattle.held.specs.declared.search.Sight.TheVariants.{NoStart, NoEnd, Both}
use Rattle.reading.specs.declared.message.Message.{Message}
use Rattle.battery.specs.declared.battery.Charging.{Charging}
use Rattle.battery.specs.declared.battery.Charging.TheVariants.{No, Yes, Unknown, Charged, Other}
use Rattle.battery.specs.declared.battery.Cell.{Cell}
use Rattle.battery.specs.declared.battery.BatteryReport.{BatteryReport}
use Rattle.noise.specs.declared.noise.NoiseMode.{NoiseMode}
use Rattle.noise.specs.declared.noise.NoiseMode.TheVariants.{Off, Anc, Ambient}
use Rattle.noise.specs.declared.noise.NoiseReport.{NoiseReport}
use Rattle.line_reader.specs.LineReader.{Line, unread_line, header_line, masked_line, full_line}
use Rattle.counting.specs.declared.counting.LineCounts.{LineCounts}
use Rattle.billing.specs.declared.amounts.Bill.{Bill}
use Rattle.payload.specs.declared.setting.GeneralSettingParam.{GeneralSettingParam}
use Rattle.setting_info.specs.declared.setting_info.GeneralSetting.{GeneralSetting}
use Rattle.paired.specs.declared.paired.PairedDevice.{PairedDevice}
use Rattle.capability.specs.Capability.{Capability, held, blank}
use Rattle.range.specs.declared.range.AmbientRange.{AmbientRange}
use Rattle.capability.specs.declared.capability.CapabilityReport.{CapabilityReport}
use Rattle.equalizer.specs.declared.equalizer.EqReport.{EqReport}
use Rattle.equalizer.specs.declared.equalizer.EqShape.{EqShape}
use Rattle.equalizer.specs.declared.equalizer.EqShape.TheVariants as E
use Rattle.support.specs.declared.support.SupportList.{SupportList}
use Rattle.support.specs.declared.support.Table.{Table}
use Rattle.support.specs.declared.support.Table.TheVariants.{One, Two}

abbrev pub bit : Bool → ℕ
bit false = 0
bit true = 1

-- whether a span went, whether a level is admitted
abbrev pub bit_numbers : Bool → List ℕ
bit_numbers on = bit on ∷ []

-- an absent byte is 256, an absent flag 2
abbrev pub byte_or256 : Option ℕ → ℕ
byte_or256 (Some b) = b
byte_or256 None = 256

abbrev pub flag_or2 : Option Bool → ℕ
flag_or2 (Some on) = bit on
flag_or2 None = 2

-- the place of a type's name in the list
abbrev pub type_number : DataType → ℕ
type_number D.Data = 0
type_number D.Ack = 1
type_number D.DataMcNo1 = 2
type_number D.DataIcd = 3
type_number D.DataEv = 4
type_number D.DataMdr = 5
type_number D.DataCommon = 6
type_number D.DataMdrNo2 = 7
type_number D.Shot = 8
type_number D.ShotMcNo1 = 9
type_number D.ShotIcd = 10
type_number D.ShotEv = 11
type_number D.ShotMdr = 12
type_number D.ShotCommon = 13
type_number D.ShotMdrNo2 = 14
type_number (D.Unknown b) = 15

-- the wire byte of the type, the sequence, the payload's length
abbrev pub header_numbers : Header → List ℕ
header_numbers h = to_wire h.data_type ∷ h.seq ∷ h.len ∷ []

-- 1, offset and length of a span; 0 for none
abbrev pub spot_numbers : Option Spot → List ℕ
spot_numbers (Some spot) = 1 ∷ spot.at ∷ spot.len ∷ []
spot_numbers None = 0 ∷ []

-- 0 no START, 1 a START and no END, 2 both; then where the START stands, and how long the span is
abbrev pub sight_numbers : Sight → List ℕ
sight_numbers NoStart = 0 ∷ []
sight_numbers (NoEnd at) = 1 ∷ at ∷ []
sight_numbers (Both at len) = 2 ∷ at ∷ len ∷ []

-- the line's length; 0 for no span, since a line is never empty
abbrev pub line_numbers : Option ℕ → List ℕ
line_numbers (Some len) = len ∷ []
line_numbers None = 0 ∷ []

abbrev pub command_number : Option ℕ → ℕ
command_number (Some command) = command
command_number None = 256

-- the letter, the type's wire byte, the sequence, the payload's length, and of `H` the command; of `R` the letter and the refusal's number
abbrev pub line_read_numbers : Line → List ℕ
line_read_numbers (unread_line number) = 0x52 ∷ number ∷ 0 ∷ 0 ∷ 256 ∷ []
line_read_numbers (header_line kind seq len command) = 0x48 ∷ kind ∷ seq ∷ len ∷ command_number command ∷ []
line_read_numbers (masked_line kind seq len) = 0x53 ∷ kind ∷ seq ∷ len ∷ 256 ∷ []
line_read_numbers (full_line kind seq len) = 0x46 ∷ kind ∷ seq ∷ len ∷ 256 ∷ []

-- a refusal is not told so
abbrev pub read_numbers : Outcome Line → List ℕ
read_numbers (accepted line) = line_read_numbers line
read_numbers (refused n vs) = 0 ∷ 0 ∷ 0 ∷ 0 ∷ 256 ∷ []

-- command, kind, length
abbrev pub message_numbers : Message → List ℕ
message_numbers m = m.command ∷ byte_or256 m.kind ∷ m.len ∷ []

-- 256 and the byte for another one
abbrev pub charging_number : Charging → ℕ
charging_number No = 0
charging_number Yes = 1
charging_number Unknown = 2
charging_number Charged = 3
charging_number (Other b) = 256 + b

-- level, charging, threshold
abbrev pub cell_numbers : Option Cell → List ℕ
cell_numbers (Some c) = c.level ∷ charging_number c.charging ∷ byte_or256 c.threshold ∷ []
cell_numbers None = 256 ∷ 256 ∷ 256 ∷ []

abbrev pub battery_numbers : BatteryReport → List ℕ
battery_numbers b = cell_numbers b.main ++ cell_numbers b.left ++ cell_numbers b.right ++ cell_numbers b.case

abbrev pub mode_number : NoiseMode → ℕ
mode_number Off = 0
mode_number Anc = 1
mode_number Ambient = 2

-- mode, mode byte, ambient level, focus on voice, settled, adaptive, sensitivity
abbrev pub noise_numbers : NoiseReport → List ℕ
noise_numbers n =
    mode_number n.mode
    ∷ byte_or256 n.mode_byte
    ∷ byte_or256 n.ambient_level
    ∷ flag_or2 n.focus_on_voice
    ∷ bit n.settled
    ∷ flag_or2 n.adaptive
    ∷ byte_or256 n.adaptive_sensitivity
    ∷ []

-- voice, min, max, step
abbrev pub range_numbers : AmbientRange → List ℕ
range_numbers r = bit r.voice ∷ r.min ∷ r.max ∷ r.step ∷ []

-- kind, count, and the two places of the array
abbrev pub report_numbers : (kind : ℕ) → CapabilityReport → List ℕ
report_numbers kind r = kind ∷ r.count ∷ range_numbers (get_or r.ranges 0 blank) ++ range_numbers (get_or r.ranges 1 blank)

abbrev pub capability_numbers : Capability → List ℕ
capability_numbers c = report_numbers c.kind (held c.ranges)

-- preset, count, and how many bytes the steps are
abbrev pub equalizer_numbers : (steps : ℕ) → EqReport → List ℕ
equalizer_numbers steps e = e.preset ∷ e.count ∷ steps ∷ []

-- a text of any length: 1 and its characters; 0 for no text
abbrev pub character_numbers : Option ℕ → List ℕ
character_numbers (Some n) = 1 ∷ n ∷ []
character_numbers None = 0 ∷ []

-- a name has at most 255 bytes, so no more characters: 256 for no text
abbrev pub characters_or256 : Option ℕ → ℕ
characters_or256 (Some n) = n
characters_or256 None = 256

-- offset of the address, status, the three details, offset and length of the name, its characters
abbrev pub device_numbers : PairedDevice → List ℕ
device_numbers d = d.address ∷ d.status ∷ d.detail0 ∷ d.detail1 ∷ d.detail2 ∷ d.name ∷ d.len ∷ characters_or256 d.characters ∷ []

-- how many records the list has
abbrev pub list_numbers : SupportList → List ℕ
list_numbers list = list.count ∷ []

-- 1 is table one, any other number is table two
unfoldable pub table_of : ℕ → Table
table_of n = pick (eqb n 1) One Two

-- `F`, `S`, `H` and `R` lines
abbrev pub count_numbers : LineCounts → List ℕ
count_numbers c = c.full ∷ c.masked ∷ c.header ∷ c.unread ∷ []

-- net, total
abbrev pub bill_numbers : Bill → List ℕ
bill_numbers b = b.net ∷ b.total ∷ []

-- slot, enabled
abbrev pub setting_numbers : GeneralSettingParam → List ℕ
setting_numbers p = p.slot ∷ bit p.enabled ∷ []

-- slot, offset and length of the name, offset and length of the summary, the characters of both
abbrev pub info_numbers : GeneralSetting → List ℕ
info_numbers s = s.slot ∷ s.name.offset ∷ s.name.len ∷ s.summary.offset ∷ s.summary.len ∷ s.name.characters ∷ s.summary.characters ∷ []

-- a range; no answer below depends on its voice value
abbrev pub unvoiced : (min max step : ℕ) → AmbientRange
unvoiced min max step = record { voice = false; min = min; max = max; step = step }

-- 1, min, max and step; 0 for none
abbrev pub within_numbers : Option AmbientRange → List ℕ
within_numbers (Some r) = 1 ∷ r.min ∷ r.max ∷ r.step ∷ []
within_numbers None = 0 ∷ []

abbrev pub shape_number : EqShape → ℕ
shape_number E.ClearBassAndFive = 0
shape_number E.TenBands = 1
shape_number E.Unknown = 2
