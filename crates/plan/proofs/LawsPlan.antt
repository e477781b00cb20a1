-- Laws of plans: the walk over a plan's entries. Assumes nothing.
use Rattle.std.proofs.Common.{◌≡◌, ℕ, ◌+◌, ◌≤◌, ◌<◌, Bool, true, false, ◌&&◌, leb, List, length, get_or, drop, refl, arith}
use Rattle.std.proofs.lemmas.List.{at_drop_more, at_drop_all}
use Rattle.std.proofs.lemmas.Bool.Decides.{nat_tests}
use Rattle.base.specs.Outcome.{pick}
use Rattle.plan.specs.Plan.{entries_fine}

-- whether all entries are fine, where `fine` says so of the first i
abbrev pub fine_from : Bool → List ℕ → ℕ → Bool
fine_from fine plan i = pick fine (entries_fine (drop i plan)) false

module _ (plan : List ℕ) (i : ℕ) where
  pub fine_step : i < length plan → (fine : Bool) → fine_from (fine && leb (get_or plan i 0) 8) plan (i + 1) ≡ fine_from fine plan i
  unfolding entries_fine
  fine_step h true = let e = at_drop_more entries_fine plan i 0 h in grind (arith, nat_tests)
  fine_step h false = refl

  pub fine_end : length plan ≤ i → (fine : Bool) → fine_from fine plan i ≡ fine
  unfolding entries_fine
  fine_end h true = at_drop_all entries_fine plan i h
  fine_end h false = refl
