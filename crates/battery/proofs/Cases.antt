-- 01's marked case of this reading and levels round 02's bound, computed; and 02, C-16: a kind has one length, and 25 and 26 have their cause
-- alone.
use mathlib.Core.Path.{◌≡◌, refl}
use mathlib.Core.List.{[], ◌∷◌}
use lib.Dec.{eqb}
use Rattle.base.specs.Outcome.{accepted, refused}
use Rattle.reading.specs.Items.{walk}
use Rattle.reading.specs.Reading.{reading_of, by_kind}
use Rattle.reading.proofs.LawsReading.{OneLength, layout_length, then_length, Causes, layout_causes, then_causes, Whole, whole_29, whole_accepted, whole_pick, either_layout, accepted_layout, no_layout_lem}
use Rattle.battery.specs.Battery.{main_only, battery_layout, any_level_of, any_high, levels_tried, battery_of, charging_of}
use Rattle.battery.specs.declared.battery.Charging.TheVariants.{Yes}
use Rattle.battery.specs.declared.battery.BatteryReport.{BatteryReport}
use Rattle.std.specs.Prelude.{Some, None}

-- (h), its payload: level 80, charging
pub case_h :
    battery_of (0x23 ∷ 0x00 ∷ 0x50 ∷ 0x01 ∷ []) ≡
    accepted (record {
      main = Some (record { level = 80; charging = Yes; threshold = None });
      left = None;
      right = None;
      case = None;
    })
unfolding battery_of any_level_of battery_layout charging_of reading_of walk
case_h = refl

-- 100 passes and 101 does not; a threshold is no level; the length is tried first
pub level_100 :
    battery_of (0x23 ∷ 0x00 ∷ 100 ∷ 0x01 ∷ []) ≡ accepted (main_only (Some (record { level = 100; charging = Yes; threshold = None })))
unfolding battery_of any_level_of battery_layout charging_of reading_of walk
level_100 = refl

pub level_101 : battery_of (0x23 ∷ 0x00 ∷ 101 ∷ 0x01 ∷ []) ≡ refused 29 []
unfolding battery_of any_level_of battery_layout reading_of walk
level_101 = refl

pub threshold_255 :
    battery_of (0x23 ∷ 0x08 ∷ 100 ∷ 0x01 ∷ 255 ∷ []) ≡ accepted (main_only (Some (record { level = 100; charging = Yes; threshold = Some 255 })))
unfolding battery_of any_level_of battery_layout charging_of reading_of walk
threshold_255 = refl

pub long_255 : battery_of (0x23 ∷ 0x00 ∷ 255 ∷ 0x01 ∷ 0x00 ∷ []) ≡ refused 26 []
unfolding battery_of any_level_of battery_layout reading_of walk
long_255 = refl

levels_whole : (r : BatteryReport) → Whole (levels_tried r)
levels_whole r = whole_pick (any_high r) whole_29 (whole_accepted r)

pub battery_length : OneLength battery_of
unfolding battery_of any_level_of
battery_length = then_length levels_tried levels_whole (layout_length battery_layout)

pub battery_causes : Causes (λ k. (battery_layout k).serves) (by_kind (λ k. (battery_layout k).len)) battery_of
unfolding battery_of any_level_of battery_layout
battery_causes = then_causes levels_tried levels_whole (layout_causes battery_layout (λ k.
    either_layout (eqb k 0x00) (accepted_layout 4 _) (either_layout (eqb k 0x01) (accepted_layout 6 _) (either_layout (eqb k 0x02) (accepted_layout 4 _)
    (either_layout (eqb k 0x08) (accepted_layout 5 _) (either_layout (eqb k 0x09) (accepted_layout 8 _) (either_layout (eqb k 0x0A) (accepted_layout 5 _) no_layout_lem)))))))
