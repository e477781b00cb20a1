-- 01, "Messages and decoders": `decode_battery`, and 02, C-20: no level above 100.
use Rattle.std.specs.Prelude.{ℕ, ◌+◌, Bool, false, ◌||◌, List, [], eqb, ltb, Option, Some, None}
use Rattle.base.specs.Outcome.{Outcome, accepted, refused, pick, and_then}
use Rattle.reading.specs.Message.{body_at, byte_at}
use Rattle.reading.specs.Reading.{Layout, layout, no_layout, layout_reading}
use Rattle.battery.specs.declared.battery.Charging.{Charging}
use Rattle.battery.specs.declared.battery.Charging.TheVariants.{No, Yes, Unknown, Charged, Other}
use Rattle.battery.specs.declared.battery.Cell.{Cell}
use Rattle.battery.specs.declared.battery.BatteryReport.{BatteryReport}

-- `Charging::from_byte` as written in payload.rs
unfoldable pub charging_of : ℕ → Charging
charging_of b =
    pick (eqb b 0x00) No (
    pick (eqb b 0x01) Yes (
    pick (eqb b 0x02) Unknown (
    pick (eqb b 0x03) Charged (
    Other b))))

-- the cell whose level stands at an offset of the body, and its charging byte next
abbrev pub cell_at : List ℕ → ℕ → Option ℕ → Option Cell
cell_at p offset threshold =
    Some (record { level = body_at p offset; charging = charging_of (body_at p (offset + 1)); threshold = threshold })

-- that cell, where its level is one
abbrev pub cell_tried : List ℕ → ℕ → Option ℕ → Outcome Cell
cell_tried p offset threshold =
    pick (ltb 100 (body_at p offset)) (refused 29 [])
    (accepted (record { level = body_at p offset; charging = charging_of (body_at p (offset + 1)); threshold = threshold }))

abbrev pub main_only : Option Cell → BatteryReport
main_only main = record { main = main; left = None; right = None; case = None }

abbrev pub sides : Option Cell → Option Cell → BatteryReport
sides left right = record { main = None; left = left; right = right; case = None }

abbrev pub case_only : Option Cell → BatteryReport
case_only case = record { main = None; left = None; right = None; case = case }

abbrev reporting : ℕ → (List ℕ → BatteryReport) → Layout BatteryReport
reporting len report = layout len (λ p. accepted (report p))

-- "kind and payload length `00`/4, `01`/6, `02`/4, `08`/5, `09`/8, `0A`/5; fields as there", by offsets of the body
unfoldable pub battery_layout : ℕ → Layout BatteryReport
battery_layout kind =
    pick (eqb kind 0x00) (reporting 4 (λ p. main_only (cell_at p 0 None))) (
    pick (eqb kind 0x01) (reporting 6 (λ p. sides (cell_at p 0 None) (cell_at p 2 None))) (
    pick (eqb kind 0x02) (reporting 4 (λ p. case_only (cell_at p 0 None))) (
    pick (eqb kind 0x08) (reporting 5 (λ p. main_only (cell_at p 0 (byte_at p 2)))) (
    pick (eqb kind 0x09) (reporting 8 (λ p. sides (cell_at p 0 (byte_at p 4)) (cell_at p 2 (byte_at p 5)))) (
    pick (eqb kind 0x0A) (reporting 5 (λ p. case_only (cell_at p 0 (byte_at p 2)))) (
    no_layout))))))

-- "Any level passes": what the Rust reads
unfoldable pub any_level_of : List ℕ → Outcome BatteryReport
any_level_of = layout_reading battery_layout

-- a cell that is there, with a level above 100
abbrev pub is_high : Option Cell → Bool
is_high (Some cell) = ltb 100 cell.level
is_high None = false

abbrev pub any_high : BatteryReport → Bool
any_high report = is_high report.main || is_high report.left || is_high report.right || is_high report.case

-- 02, C-20: "Any level above 100 is now refused, in every battery layout": by 29
abbrev pub levels_tried : BatteryReport → Outcome BatteryReport
levels_tried report = pick (any_high report) (refused 29 []) (accepted report)

-- `decode_battery`; the levels "after the length"
unfoldable pub battery_of : List ℕ → Outcome BatteryReport
battery_of payload = and_then levels_tried (any_level_of payload)
