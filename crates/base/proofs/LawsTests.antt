-- A fact for each outcome of a test. Assumes nothing.
use Rattle.std.proofs.Common.{◌≡◌, ℕ, ◌<◌, ◌≤◌, Bool, true, false, eqb, ltb, refl, ltb-false, ltb-true, eqb-true}
use borrow.Author.Tests.{eqb-false}

pub by_eqb : (P : Bool → Type 0) (a b : ℕ) → (a ≡ b → P true) → ((a ≡ b → ⊥) → P false) → P (eqb a b)
by_eqb P a b t f = go (eqb a b) refl where
  go : (r : Bool) → eqb a b ≡ r → P r
  go true e = t (eqb-true a b e)
  go false e = f (eqb-false a b e)

pub by_ltb : (P : Bool → Type 0) (a b : ℕ) → (a < b → P true) → (b ≤ a → P false) → P (ltb a b)
by_ltb P a b t f = go (ltb a b) refl where
  go : (r : Bool) → ltb a b ≡ r → P r
  go true e = t (ltb-true a b e)
  go false e = f (ltb-false a b e)
