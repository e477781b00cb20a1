-- What the writers promise: bytes stored in an output from a place on, and the next place.
use Rattle.std.specs.Prelude.{◌≡◌, ℕ, ◌+◌, List, length}
use Rattle.std.proofs.lemmas.List.Edits.{sets}

pub record Stored (xs out : List ℕ) (at : ℕ) (after : List ℕ) (next : ℕ) : Type 0 where
  pub bytes : after ≡ sets out at xs
  pub place : next ≡ at + length xs
