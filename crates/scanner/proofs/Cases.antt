-- 01, "Marked cases", (g): with the limit 9.
use mathlib.Core.Path.{◌≡◌, refl}
use mathlib.Core.Bool.{false}
use mathlib.Core.List.{◌∷◌}
use lib.ListN.{replicate}
use Rattle.base.specs.Outcome.{accepted}
use Rattle.held.specs.Search.{seen}
use Rattle.scanner.specs.Scanner.{too_far, counted_of, held_of}
use Rattle.cutting.specs.Cutting.{taken_of}
use Rattle.scanner.specs.Taking.{take_call}
use Rattle.scanner.specs.declared.scanner.Scanner.{Scanner}

-- `3E` and eight `00` stay
pub case_g_stay : let s : Scanner = record { limit = 9; count = 9; pushed = 9; handed = 0; dropped = 0 } in
    take_call s (0x3E ∷ replicate 9 0) ≡ record { answer = accepted false; scanner = s; store = 0x3E ∷ replicate 9 0 }
unfolding take_call taken_of seen held_of counted_of too_far
case_g_stay = refl

-- `3E` and nine `00` clear, and are counted as dropped
pub case_g_clear : let s : Scanner = record { limit = 9; count = 10; pushed = 10; handed = 0; dropped = 0 } in
    take_call s (0x3E ∷ replicate 9 0) ≡ record { answer = accepted false; scanner = record { limit = 9; count = 0; pushed = 10; handed = 0; dropped = 10 }; store = replicate 10 0 }
unfolding take_call taken_of seen held_of counted_of too_far
case_g_clear = refl
