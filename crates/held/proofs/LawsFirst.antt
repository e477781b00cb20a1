-- A search that goes block by block, and over a block without leaving early. Assumes nothing.
use Rattle.std.proofs.Common.{◌≡◌, ℕ, ◌+◌, ◌<◌, ◌≤◌, min, List, [], ◌∷◌, ◌++◌, length, get_or, drop, arith, length-drop, eqb}
use borrow.Author.Tests.{eq-eqb, ne_eqb}
use Rattle.base.specs.Outcome.{pick}
use Rattle.base.proofs.LawsTests.{by_eqb}
use Rattle.held.specs.Search.{first_of}
pub use Rattle.held.proofs.LawsSearch.{first_within, first_end}
use Rattle.held.proofs.LawsSearch.{first_cons, first_drop}

-- b is found in front, or it is searched for behind
pub first_front : (b : ℕ) (xs ys : List ℕ) → first_of b xs < length xs → first_of b (xs ++ ys) ≡ first_of b xs
first_front b [] ys h = absurd (omega arith)
first_front b (x ∷ xs) ys h = grind (arith, first_cons, first_front b xs ys)

pub first_rest : (b : ℕ) (xs ys : List ℕ) → length xs ≤ first_of b xs → first_of b (xs ++ ys) ≡ length xs + first_of b ys
first_rest b [] ys h = omega arith
first_rest b (x ∷ xs) ys h = grind (arith, first_cons, first_rest b xs ys)

pub ruleset blocks = (first_within, first_front, first_rest)

-- the least place so far, and the next one
pub least_step : (b : ℕ) (s : List ℕ) (i first : ℕ) → i < length s → length s ≤ 255
    → min (min first (pick (eqb (get_or s i 0) b) i 255)) (i + 1 + first_of b (drop (i + 1) s)) ≡ min first (i + first_of b (drop i s))
least_step b s i first h k =
    let d = first_drop b s i h in
    let w : i + 1 + first_of b (drop (i + 1) s) ≤ length s = omega (arith, first_within b (drop (i + 1) s), length-drop (i + 1) s) in
    by_eqb (λ t. min (min first (pick t i 255)) (i + 1 + first_of b (drop (i + 1) s)) ≡ min first (i + first_of b (drop i s))) (get_or s i 0) b
    (λ e. omega (arith, rw (eq-eqb _ _ e) at d))
    (λ n. omega (arith, rw (ne_eqb _ _ n) at d))

pub ruleset places = (first_within, first_end, least_step)
