-- Digits one by one, and a number that is capped on the way. Assumes nothing.
use Prim.Native.Nat.{ℕ, suc, ◌+◌, ◌≤◌, ◌<◌}
use mathlib.Core.Path.{◌≡◌, refl, ap}
use mathlib.Core.List.{List, [], ◌∷◌}
use native.Mathlib.Numerals.{add-one}
use native.Mathlib.Omega.{arith}
use lib.ListN.{length, drop, get_or, drop_of_length-le}
use lib.Seq.{drop-cons}
use borrow.Author.Tests.{lt-ltb, le-ltb}
use Rattle.base.proofs.LawsTests.{by_ltb}
use Rattle.base.specs.Outcome.{pick}
use Rattle.digits.specs.Digits.{decimal_value}
use Rattle.decimal.specs.Decimal.{GREATEST, with_digit, number_from, number_of, capped, told_number}
use Rattle.std.specs.Prelude.{Some, None}

-- what is told with more digits depends on the capped number alone
told_capped : (cs : List ℕ) (n m : ℕ) → capped n ≡ capped m → told_number (number_from n cs) ≡ told_number (number_from m cs)
unfolding number_from
told_capped [] n m e = ap Some e
told_capped (c ∷ cs) n m e =
    by_ltb (λ t. told_number (pick t (number_from (with_digit n (decimal_value c)) cs) None) ≡ told_number (pick t (number_from (with_digit m (decimal_value c)) cs) None)) (decimal_value c) 10
    (λ _. told_capped cs (with_digit n (decimal_value c)) (with_digit m (decimal_value c)) (omega arith))
    (λ _. refl)

pub told_first : (text : List ℕ) → ¬ (length text ≡ 0) → told_number (number_from 0 text) ≡ told_number (number_of text)
unfolding number_of
told_first [] h = absurd (h refl)
told_first (c ∷ cs) h = refl

pub none_told : (text : List ℕ) → length text ≡ 0 → None ≡ number_of text
unfolding number_of
none_told [] e = refl
none_told (c ∷ cs) e = absurd (omega arith)

module _ (text : List ℕ) (n i : ℕ) where
  pub told_digit : i < length text → decimal_value (get_or text i 0) < 10 → {next : ℕ} → next ≡ capped (with_digit n (decimal_value (get_or text i 0)))
      → told_number (number_from next (drop (i + 1) text)) ≡ told_number (number_from n (drop i text))
  unfolding number_from
  told_digit h k {next} e =
      rw (drop-cons text i 0 h, add-one i, lt-ltb (decimal_value (get_or text i 0)) 10 k)
      (told_capped (drop (suc i) text) next (with_digit n (decimal_value (get_or text i 0))) (omega arith))

  pub told_other : i < length text → 10 ≤ decimal_value (get_or text i 0) → number_from n (drop i text) ≡ None
  unfolding number_from
  told_other h k = rw (drop-cons text i 0 h, le-ltb (decimal_value (get_or text i 0)) 10 k)

  pub told_end : length text ≤ i → n ≤ GREATEST → told_number (number_from n (drop i text)) ≡ Some n
  unfolding number_from
  told_end h k = let e : capped n ≡ n = omega arith in rw (drop_of_length-le text h, e)
