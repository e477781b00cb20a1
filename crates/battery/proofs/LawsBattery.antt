-- 02, C-20: a battery reading is the Rust's, and then its levels are tried. Assumes nothing.
use Prim.Native.Nat.{ℕ}
use mathlib.Core.Path.{◌≡◌, ap, ◌∙◌}
use mathlib.Core.Bool.{Bool, true, false}
use mathlib.Core.List.{List, []}
use Rattle.base.specs.Outcome.{accepted, refused, pick, and_then}
use Rattle.battery.specs.Battery.{any_level_of, any_high, levels_tried, battery_of}
use Rattle.battery.specs.declared.battery.BatteryReport.{BatteryReport}

module _ (p : List ℕ) where
  -- "after 26", and after 25
  pub refused_before : {n : ℕ} {vs : List ℕ} → any_level_of p ≡ refused n vs → battery_of p ≡ refused n vs
  unfolding battery_of
  refused_before e = ap (and_then levels_tried) e

  pub levels_tried_lem : {r : BatteryReport} → any_level_of p ≡ accepted r → battery_of p ≡ levels_tried r
  unfolding battery_of
  levels_tried_lem e = ap (and_then levels_tried) e

  module _ {r : BatteryReport} (e : any_level_of p ≡ accepted r) where
    by_levels : {t : Bool} → any_high r ≡ t → battery_of p ≡ pick t (refused 29 []) (accepted r)
    by_levels h = levels_tried_lem e ∙ ap (λ (t : Bool). pick t (refused 29 []) (accepted r)) h

    pub level_refused : any_high r ≡ true → battery_of p ≡ refused 29 []
    level_refused h = by_levels h

    pub levels_pass : any_high r ≡ false → battery_of p ≡ accepted r
    levels_pass h = by_levels h
