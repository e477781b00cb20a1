-- The numbers of a battery report, cell by cell, those of a capability, whose ranges stand beside the answer, and those of a line that was read.
use Prim.Native.Nat.{ℕ}
use mathlib.Core.Path.{◌≡◌, refl, sym, ap, ◌∙◌}
use mathlib.Core.List.{List, [], ◌∷◌, ◌++◌, append_assoc}
use lib.ListN.{get_or, take}
use Rattle.base.specs.Outcome.{Outcome, accepted}
use Rattle.base.specs.Refusal.{refusal_told}
use Rattle.base.specs.declared.refusal.Refusal.{Refusal}
use Rattle.capability.specs.Capability.{Capability, capability_told, answer_told, capability_report}
use Rattle.capability.specs.declared.capability.NoiseCapability.{NoiseCapability}
use Rattle.battery.specs.declared.battery.Cell.{Cell}
use Rattle.battery.specs.declared.battery.BatteryReport.{BatteryReport}
use Rattle.numbers.specs.Numbers.{byte_or256, cell_numbers, battery_numbers, report_numbers, capability_numbers, command_number}
use Rattle.std.specs.Prelude.{Option, Result, Some, None, Ok, Err}

-- three numbers one by one, before others
abbrev pub front : List ℕ → List ℕ → List ℕ
front xs rest = get_or xs 0 0 ∷ get_or xs 1 0 ∷ get_or xs 2 0 ∷ rest

three : (c : Option Cell) (rest : List ℕ) → front (cell_numbers c) rest ≡ cell_numbers c ++ rest
three (Some c) rest = refl
three None rest = refl

last : (c : Option Cell) → front (cell_numbers c) [] ≡ cell_numbers c
last (Some c) = refl
last None = refl

pub cells : (b : BatteryReport) {m l r k : List ℕ} → m ≡ cell_numbers b.main → l ≡ cell_numbers b.left → r ≡ cell_numbers b.right → k ≡ cell_numbers b.case → front m (front l (front r (front k []))) ≡ battery_numbers b
cells b m l r k = rw (m, l, r, k, last b.case, three b.right, three b.left, three b.main) (simp append_assoc)

module _ (n : NoiseCapability) {o : Outcome Capability} (told : capability_told n ≡ o) where
  abbrev ranged : (x : Result ℕ Refusal) → Outcome Capability
  ranged x = answer_told x (take n.report.count n.report.ranges)

  pub not_read : {r : Refusal} → n.answer ≡ Err r → refusal_told r ≡ o
  not_read e = sym (ap ranged e) ∙ told

  module _ {k : ℕ} (e : n.answer ≡ Ok k) where
    abbrev pub reading : Capability
    reading = record { kind = k; ranges = take n.report.count n.report.ranges }

    pub read : accepted reading ≡ o
    read = sym (ap ranged e) ∙ told

    pub report_told : n.report ≡ capability_report o → report_numbers k n.report ≡ capability_numbers reading
    report_told h = ap (report_numbers k) (h ∙ ap capability_report (sym read))

pub command_told : (b : Option ℕ) → byte_or256 b ≡ command_number (b)
command_told (Some b) = refl
command_told None = refl
