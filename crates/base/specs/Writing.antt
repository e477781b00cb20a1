-- What a call that writes bytes to a lent output answers and leaves.
use Rattle.std.specs.Prelude.{ℕ, ◌-◌, List, [], ◌++◌, length, take, drop, replicate, nat_lt}
use Rattle.base.specs.Outcome.{Outcome, accepted, refused, pick}

pub record WriteEffect : Type 0 where
  pub answer : Outcome ℕ
  pub out : List ℕ

-- "Accepted writes begin at the front; bytes behind stay"
abbrev pub over : List ℕ → List ℕ → List ℕ
over xs out = xs ++ drop (length xs) out

abbrev pub zeros : List ℕ → List ℕ
zeros xs = replicate (length xs) 0

-- the first n bytes, and zeros behind them
unfoldable pub zeroed_from : ℕ → List ℕ → List ℕ
zeroed_from n xs = take n xs ++ replicate (length xs - n) 0

-- an output that is too short for the bytes stays as it was, and the number says so
unfoldable pub write_or : (number : ℕ) → (bytes out : List ℕ) → WriteEffect
write_or number bytes out =
    pick (nat_lt (length out) (length bytes))
    (record { answer = refused number []; out = out })
    (record { answer = accepted (length bytes); out = over bytes out })

-- 18
abbrev pub write_call : (bytes out : List ℕ) → WriteEffect
write_call bytes out = write_or 18 bytes out
