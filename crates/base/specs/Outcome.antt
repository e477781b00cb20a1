-- What a call comes to, in the terms of document 01.
use Rattle.std.specs.Prelude.{ℕ, Bool, true, false, List}

-- the accepted value, or 01's refusal number with its values
pub data Outcome (A : Type 0) : Type 0 where
  accepted : A → Outcome A
  refused : ℕ → List ℕ → Outcome A

-- the first where the test holds, else the second
abbrev pub pick : {A : Type 0} → Bool → A → A → A
pick true a b = a
pick false a b = b

-- an accepted value through a function; a refusal passes
abbrev pub on_accepted : {A B : Type 0} → (A → B) → Outcome A → Outcome B
on_accepted f (accepted a) = accepted (f a)
on_accepted f (refused n vs) = refused n vs

-- an accepted value through a call; a refusal passes
abbrev pub and_then : {A B : Type 0} → (A → Outcome B) → Outcome A → Outcome B
and_then f (accepted a) = f a
and_then f (refused n vs) = refused n vs
