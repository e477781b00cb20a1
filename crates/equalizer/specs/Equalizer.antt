-- 01, "Messages and decoders" (`decode_equalizer`) and "Beside the log" (`EqShape::of`, `bias`, a band's gain).
use Rattle.std.specs.Prelude.{ℕ, List, [], eqb, ℤ, pos, ◌-ℤ◌, get_or, drop}
use Rattle.base.specs.Outcome.{Outcome, accepted, refused, pick}
use Rattle.reading.specs.Items.{fixed, counted}
use Rattle.reading.specs.Reading.{reading_of}
use Rattle.equalizer.specs.declared.equalizer.EqShape.{EqShape}
use Rattle.equalizer.specs.declared.equalizer.EqShape.TheVariants.{ClearBassAndFive, TenBands, Unknown}
use Rattle.equalizer.specs.declared.equalizer.EqReport.{EqReport}

-- "kind `00`; preset, count, that many steps .., the end": preset and count, or the refusal
unfoldable pub equalizer_of : List ℕ → Outcome EqReport
equalizer_of = reading_of (λ kind. eqb kind 0x00) (counted 3 (fixed 1) 0) (λ p. accepted (record { preset = get_or p 2 0; count = get_or p 3 0 }))

-- "handed back as a part of the payload by a call of its own, empty where it refuses"
abbrev steps_by : Outcome EqReport → List ℕ → List ℕ
steps_by (accepted r) p = drop 4 p
steps_by (refused n vs) p = []

unfoldable pub steps_of : List ℕ → List ℕ
steps_of p = steps_by (equalizer_of p) p

-- six steps, ten steps, any other number
unfoldable pub shape_of : ℕ → EqShape
shape_of steps = pick (eqb steps 6) ClearBassAndFive (pick (eqb steps 10) TenBands Unknown)

-- what is subtracted from a step
abbrev pub bias_of : EqShape → ℤ
bias_of ClearBassAndFive = pos 10
bias_of TenBands = pos 6
bias_of Unknown = pos 10

-- a band's gain is its step minus the bias of the shape of its report's number of steps
abbrev pub gain_of : (steps step : ℕ) → ℤ
gain_of steps step = pos step -ℤ bias_of (shape_of steps)
