-- What the exported calls tell of an outcome: a status, and numbers at the front of `values`.
use Rattle.std.specs.Prelude.{ℕ, List, [], ◌∷◌}
use Rattle.base.specs.Outcome.{Outcome, accepted, refused}

-- 0, or 01's number of the refusal
abbrev pub status_of : {A : Type 0} → Outcome A → ℕ
status_of (accepted a) = 0
status_of (refused n vs) = n

-- the numbers of an accepted value; of a refusal, the values that 01's list names
abbrev pub numbers_of : {A : Type 0} → (A → List ℕ) → Outcome A → List ℕ
numbers_of f (accepted a) = f a
numbers_of f (refused n vs) = vs

-- the numbers over the front of `values`, as many as fit; entries behind stay
unfoldable pub told : (numbers values : List ℕ) → List ℕ
told [] values = values
told (n ∷ ns) [] = []
told (n ∷ ns) (v ∷ vs) = n ∷ told ns vs

-- one number
abbrev pub only : ℕ → List ℕ
only n = n ∷ []
