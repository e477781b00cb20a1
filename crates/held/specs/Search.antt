-- 01, "Scanner": "from the first START to the first END after it, among the held bytes only".
use Rattle.std.specs.Prelude.{ℕ, List, [], ◌∷◌, ◌++◌, eqb, length, Option, Some, None}
use Rattle.base.specs.Outcome.{pick}
use Rattle.held.specs.Spans.{START, END}
use Rattle.held.specs.declared.search.Sight.{Sight}
use Rattle.held.specs.declared.search.Sight.TheVariants.{NoStart, NoEnd, Both}
use Rattle.held.specs.declared.search.Spot.{Spot}

-- the bytes before the first b, and those after it
pub record Parted : Type 0 where
  pub before : List ℕ
  pub rest : List ℕ

abbrev pub later : ℕ → Option Parted → Option Parted
later x None = None
later x (Some p) = Some (record { before = x ∷ p.before; rest = p.rest })

abbrev pub part : ℕ → List ℕ → Option Parted
part b [] = None
part b (x ∷ xs) = pick (eqb x b) (Some (record { before = []; rest = xs })) (later x (part b xs))

-- no START; a START and no END behind it; or both, with the bytes before, between and behind them
pub data Seen : Type 0 where
  no_start : Seen
  no_end : (before rest : List ℕ) → Seen
  both : (before between rest : List ℕ) → Seen

abbrev pub seen_end : List ℕ → List ℕ → Option Parted → Seen
seen_end before rest None = no_end before rest
seen_end before rest (Some q) = both before q.before q.rest

abbrev pub seen_start : Option Parted → Seen
seen_start None = no_start
seen_start (Some p) = seen_end p.before p.rest (part END p.rest)

-- the first START among the held bytes, and the first END after it
unfoldable pub seen : List ℕ → Seen
seen held = seen_start (part START held)

-- the span with its markers
abbrev pub span_of : List ℕ → List ℕ
span_of between = START ∷ between ++ (END ∷ [])

abbrev pub spot_by : Seen → Option Spot
spot_by no_start = None
spot_by (no_end before rest) = None
spot_by (both before between rest) = Some (record { at = length before; len = length (span_of between) })

abbrev pub bytes_by : Seen → List ℕ
bytes_by no_start = []
bytes_by (no_end before rest) = []
bytes_by (both before between rest) = span_of between

abbrev pub spot_of : List ℕ → Option Spot
spot_of held = spot_by (seen held)

-- the code's form of what is seen: offsets and lengths
abbrev pub sight_by : Seen → Sight
sight_by no_start = NoStart
sight_by (no_end before rest) = NoEnd (length before)
sight_by (both before between rest) = Both (length before) (length (span_of between))

abbrev pub sight_of : List ℕ → Sight
sight_of held = sight_by (seen held)

-- how many bytes stand before the first b; all, where there is none
abbrev pub first_by : ℕ → Option Parted → ℕ
first_by n None = n
first_by n (Some p) = length p.before

abbrev pub first_of : ℕ → List ℕ → ℕ
first_of b xs = first_by (length xs) (part b xs)
