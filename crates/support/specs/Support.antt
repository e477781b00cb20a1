-- 01, "Messages and decoders": `decode_support_functions`.
use Rattle.std.specs.Prelude.{ℕ, zero, suc, ◌+◌, List, [], ◌∷◌, ◌++◌, eqb, ltb, length, get_or, drop}
use Rattle.base.specs.Outcome.{Outcome, accepted, refused, pick}
use Rattle.reading.specs.Items.{fixed, counted, item_at}
use Rattle.reading.specs.Reading.{count_reading}
use Rattle.support.specs.declared.support.Table.{Table}
use Rattle.support.specs.declared.support.SupportFunction.{SupportFunction}
use Rattle.support.specs.declared.support.SupportList.{SupportList}

-- "kind `00`; count, then code and priority each, the end": the count, or the refusal
unfoldable pub check_of : List ℕ → Outcome ℕ
check_of = count_reading (λ kind. eqb kind 0x00) 2 (fixed 2) 0

-- where the function of an index stands: its code, and its priority
abbrev pub place_of : List ℕ → ℕ → ℕ
place_of p i = item_at (counted 2 (fixed 2) 0 p) p i

abbrev pub function_at : List ℕ → ℕ → SupportFunction
function_at p i = record { code = get_or p (place_of p i) 0; priority = get_or p (place_of p i + 1) 0 }

-- the first n functions of the list, in order
unfoldable pub functions : List ℕ → ℕ → List SupportFunction
functions p zero = []
functions p (suc n) = functions p n ++ (function_at p n ∷ [])

-- "accepted code and priority pairs are written to the first places"; those behind stay
abbrev pub records_with : List ℕ → ℕ → List SupportFunction → List SupportFunction
records_with p n records = functions p n ++ drop n records

-- what a call comes to: the answer, and the lent records
pub record SupportEffect : Type 0 where
  pub answer : Outcome SupportList
  pub records : List SupportFunction

abbrev pub support_by : Outcome ℕ → Table → List ℕ → List SupportFunction → SupportEffect
support_by (refused n vs) table p records = record { answer = refused n vs; records = records }
support_by (accepted count) table p records =
    pick (ltb (length records) count)
    (record { answer = refused 20 []; records = records })
    (record { answer = accepted (record { table = table; count = count }); records = records_with p count records })

-- 25, 26, then 20 where the list is longer than the lent records; the list goes into the records
unfoldable pub support_call : Table → List ℕ → List SupportFunction → SupportEffect
support_call table p records = support_by (check_of p) table p records
