-- 01, "Messages and decoders": `decode_noise_capability`.
use Rattle.std.specs.Prelude.{ℕ, zero, suc, ◌+◌, Bool, false, ◌&&◌, ◌||◌, not, ◌≡◌, List, [], ◌∷◌, ◌++◌, eqb, leb, length, get_or, take, drop, Option, Result, Some, None, Ok, Err}
use Rattle.std.specs.Bool.{beq}
use Rattle.base.specs.Outcome.{Outcome, accepted, refused, pick, on_accepted}
use Rattle.base.specs.Refusal.{refusal_told}
use Rattle.reading.specs.Message.{kind_of}
use Rattle.reading.specs.Items.{Items, fixed, counted, item_at}
use Rattle.reading.specs.Reading.{reading_of}
use Rattle.range.specs.declared.range.AmbientRange.{AmbientRange}
use Rattle.capability.specs.declared.capability.CapabilityReport.{CapabilityReport}
use Rattle.capability.specs.declared.capability.NoiseCapability.{NoiseCapability}
use Rattle.base.specs.declared.refusal.Refusal.{Refusal}

-- the kind, and the ranges in order
pub record Capability : Type 0 where
  pub kind : ℕ
  pub ranges : List AmbientRange

-- the answer with the ranges beside it
abbrev pub answer_told : Result ℕ Refusal → List AmbientRange → Outcome Capability
answer_told (Ok k) ranges = accepted (record { kind = k; ranges = ranges })
answer_told (Err r) ranges = refusal_told r

-- the ranges are the report's first `count`
abbrev pub capability_told : NoiseCapability → Outcome Capability
capability_told r = answer_told r.answer (take r.report.count r.report.ranges)

-- kinds `13`-`19`, `22`
abbrev pub capability_kind : ℕ → Bool
capability_kind k = leb 0x13 k && leb k 0x19 || eqb k 0x22

-- "four bytes each (voice `00` or `01`, min, max, step)"; "min at most max, step above 0"
unfoldable pub element_of : List ℕ → (at : ℕ) → Option AmbientRange
element_of p at =
    pick (leb (get_or p at 0) 0x01 && leb (get_or p (at + 1) 0) (get_or p (at + 2) 0) && not (eqb (get_or p (at + 3) 0) 0))
    (Some (record { voice = eqb (get_or p at 0) 0x01; min = get_or p (at + 1) 0; max = get_or p (at + 2) 0; step = get_or p (at + 3) 0 }))
    None

-- whether a range of this voice value is there already
abbrev pub heard : Bool → List AmbientRange → Bool
heard voice [] = false
heard voice (r ∷ rs) = beq r.voice voice || heard voice rs

-- "a count .., then four bytes each .., nothing more"
abbrev pub elements : List ℕ → Items
elements = counted 2 (fixed 4) 0

-- an element that is no range is 19
abbrev pub if_range : Option AmbientRange → (AmbientRange → Outcome (List AmbientRange)) → Outcome (List AmbientRange)
if_range None f = refused 19 []
if_range (Some r) f = f r

-- "no voice value twice": the ranges seen, and so many elements more
unfoldable pub ranges_from : List ℕ → (seen : List AmbientRange) → ℕ → Outcome (List AmbientRange)
ranges_from p seen zero = accepted seen
ranges_from p seen (suc left) =
    if_range (element_of p (item_at (elements p) p (length seen)))
    (λ r. pick (heard r.voice seen) (refused 19 []) (ranges_from p (seen ++ r ∷ []) left))

-- the kind with its ranges
abbrev pub ranges_of : List ℕ → (kind count : ℕ) → Outcome Capability
ranges_of p kind count = on_accepted (λ rs. record { kind = kind; ranges = rs }) (ranges_from p [] count)

-- "a count above 0"
unfoldable pub capability_of : List ℕ → Outcome Capability
capability_of = reading_of capability_kind elements (λ p. pick (eqb (get_or p 2 0) 0) (refused 19 []) (ranges_of p (kind_of p) (get_or p 2 0)))

-- at most two ranges, held in one record: the places behind them are zero
abbrev pub blank : AmbientRange
blank = record { voice = false; min = 0; max = 0; step = 0 }

abbrev pub held : List AmbientRange → CapabilityReport
held rs = record { ranges = rs ++ drop (length rs) (blank ∷ blank ∷ []); count = length rs }

abbrev pub capability_report : Outcome Capability → CapabilityReport
capability_report (accepted c) = held c.ranges
capability_report (refused n vs) = held []

-- an answer and its report agree with an outcome
pub record Reported (r : NoiseCapability) (o : Outcome Capability) : Type 0 where
  pub told : capability_told r ≡ o
  pub report : r.report ≡ capability_report o
