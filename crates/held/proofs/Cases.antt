-- 01, "Marked cases", (f), as far as it speaks of spans.
use Prim.Native.Nat.{ℕ}
use mathlib.Core.Path.{◌≡◌, refl}
use mathlib.Core.List.{List, [], ◌∷◌}
use Rattle.held.specs.Spans.{spans}

abbrev pub f : List ℕ
f = 0x3E ∷ 0x00 ∷ 0x3E ∷ 0x00 ∷ 0x00 ∷ 0x00 ∷ 0x00 ∷ 0x3E ∷ 0x3C ∷ []

-- one span
pub case_f : spans f ≡ f ∷ []
case_f = refl
