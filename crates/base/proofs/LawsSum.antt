-- Sums of bytes. Assumes nothing.
use Rattle.std.proofs.Common.{◌≡◌, ℕ, ◌+◌, ◌%◌, ◌<◌, List, [], ◌++◌, length, get_or, take, sum, refl, arith}
use Rattle.std.proofs.lemmas.Grind.{common_steps}
use Rattle.std.proofs.lemmas.List.Recursion.{is_sum_by}
use Rattle.base.specs.Sum.{total, checksum_of}

-- the total is std's sum
total_sum : (xs : List ℕ) → total xs ≡ sum xs
unfolding total
total_sum = is_sum_by total (λ x. x) refl (λ _ _. refl)

pub checksum_append : (xs ys : List ℕ) → checksum_of (xs ++ ys) ≡ (checksum_of xs + checksum_of ys) % 256
checksum_append xs ys = grind (arith, common_steps, total_sum)

-- the total of the first i bytes
pub total_none : total [] ≡ 0
unfolding total
total_none = refl

pub total_more : (xs : List ℕ) (i : ℕ) → i < length xs → total (take (i + 1) xs) ≡ total (take i xs) + get_or xs i 0
total_more xs i h = grind (arith, common_steps, total_sum)
