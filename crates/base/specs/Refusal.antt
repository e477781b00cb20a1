-- 01, "The refusal list", and 02's numbers behind it.
use Rattle.std.specs.Prelude.{ℕ, List, [], ◌∷◌, Result, Ok, Err}
use Rattle.base.specs.Outcome.{Outcome, accepted, refused}
use Rattle.base.specs.declared.refusal.Refusal.{Refusal}
use Rattle.base.specs.declared.refusal.Refusal.TheVariants.{LimitOutOfRange, StoreTooShort, HeldBeyondStore, StoreFull, BadPlan, WorkTooShort, LineTooLong, TooShort, NoStart, NoEnd, NoRoom, TrailingSentry, BadEscapee, BodyTooShort, BadChecksum, LengthMismatch, PayloadTooLong, OutputTooShort, OtherMessage, TooFewRecords, NoSuchDevice, StepZero, NotText, NotALine, WrongKind, WrongLength, CountFull, BillOutOfRange, LevelTooHigh}

-- the number in the list, and the values that the list names: the escapee, both sums, both lengths
abbrev pub listed : Refusal → ℕ × List ℕ
listed LimitOutOfRange = (1, [])
listed StoreTooShort = (2, [])
listed HeldBeyondStore = (3, [])
listed StoreFull = (4, [])
listed BadPlan = (5, [])
listed WorkTooShort = (6, [])
listed LineTooLong = (7, [])
listed TooShort = (8, [])
listed NoStart = (9, [])
listed NoEnd = (10, [])
listed NoRoom = (11, [])
listed TrailingSentry = (12, [])
listed (BadEscapee b) = (13, b ∷ [])
listed BodyTooShort = (14, [])
listed (BadChecksum declared computed) = (15, declared ∷ computed ∷ [])
listed (LengthMismatch declared actual) = (16, declared ∷ actual ∷ [])
listed PayloadTooLong = (17, [])
listed OutputTooShort = (18, [])
listed OtherMessage = (19, [])
listed TooFewRecords = (20, [])
listed NoSuchDevice = (21, [])
listed StepZero = (22, [])
listed NotText = (23, [])
listed NotALine = (24, [])
listed WrongKind = (25, [])
listed WrongLength = (26, [])
listed CountFull = (27, [])
listed BillOutOfRange = (28, [])
listed LevelTooHigh = (29, [])

abbrev pub number_of : Refusal → ℕ
number_of r = (listed r).0

abbrev pub refusal_told : {A : Type 0} → Refusal → Outcome A
refusal_told r = refused (listed r).0 (listed r).1

-- what a call's answer comes to
abbrev pub outcome_of : {A : Type 0} → Result A Refusal → Outcome A
outcome_of (Ok a) = accepted a
outcome_of (Err r) = refusal_told r
