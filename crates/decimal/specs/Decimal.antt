-- The number that a text of decimal digits stands for, for the argument of a program (C-18, C-19).
use Rattle.std.specs.Prelude.{ℕ, ◌+◌, ◌*◌, min, List, [], ◌∷◌, ltb, Option, Some, None, Result, Ok, Err}
use Rattle.base.specs.Outcome.{pick}
use Rattle.digits.specs.Digits.{decimal_value}
use Rattle.decimal.specs.declared.decimal.ArgumentError.{ArgumentError}
use Rattle.decimal.specs.declared.decimal.ArgumentError.TheVariants.{Missing, NotANumber, TooMany}

abbrev pub with_digit : (n digit : ℕ) → ℕ
with_digit n digit = n * 10 + digit

-- the number with more digits behind it; none where a character is no digit
unfoldable pub number_from : ℕ → List ℕ → Option ℕ
number_from n [] = Some n
number_from n (c ∷ cs) = pick (ltb (decimal_value c) 10) (number_from (with_digit n (decimal_value c)) cs) None

-- no digits are no number
unfoldable pub number_of : List ℕ → Option ℕ
number_of [] = None
number_of (c ∷ cs) = number_from 0 (c ∷ cs)

abbrev pub GREATEST : ℕ
GREATEST = 18446744073709551615

-- a greater number is told as the greatest of eight bytes
abbrev pub capped : ℕ → ℕ
capped n = min n GREATEST

abbrev pub told_number : Option ℕ → Option ℕ
told_number None = None
told_number (Some n) = Some (capped n)

abbrev pub argument_by : Option ℕ → Result ℕ ArgumentError
argument_by None = Err NotANumber
argument_by (Some n) = Ok n

-- the program's name and one argument more, which is a number
unfoldable pub argument_of : (count : ℕ) → List ℕ → Result ℕ ArgumentError
argument_of count text = pick (ltb count 2) (Err Missing) (pick (ltb 2 count) (Err TooMany) (argument_by (told_number (number_of text))))
