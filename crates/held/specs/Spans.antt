-- 01, "Scanner": "Spans of a stream: first START, first END after it, then on from there."
use Rattle.std.specs.Prelude.{ℕ, List, [], ◌∷◌, ◌++◌, eqb}
use Rattle.base.specs.Outcome.{pick}
pub use Rattle.escaping.specs.Escaping.{START, END}

-- outside every span, or inside one with its bytes so far, START the first
pub data Place : Type 0 where
  outside : Place
  inside : List ℕ → Place

-- the place after one byte more
abbrev pub move : Place → ℕ → Place
move outside b = pick (eqb b START) (inside (b ∷ [])) outside
move (inside s) b = pick (eqb b END) outside (inside (s ++ (b ∷ [])))

-- the span that ends with this byte: none or one
abbrev pub closed : Place → ℕ → List (List ℕ)
closed outside b = []
closed (inside s) b = pick (eqb b END) ((s ++ (b ∷ [])) ∷ []) []

-- the place after all these bytes
abbrev pub after : Place → List ℕ → Place
after p [] = p
after p (b ∷ bs) = after (move p b) bs

-- the spans that end among these bytes
abbrev pub spans_from : Place → List ℕ → List (List ℕ)
spans_from p [] = []
spans_from p (b ∷ bs) = closed p b ++ spans_from (move p b) bs

-- the spans of a stream
abbrev pub spans : List ℕ → List (List ℕ)
spans bs = spans_from outside bs
