-- 01, "Scanner": what goes, and what stays.
use Rattle.std.specs.Prelude.{ℕ, ◌-◌, List, ◌++◌, length, drop, replicate}

-- these bytes at the front, and zeros behind them to the length n
abbrev pub zeroed : List ℕ → ℕ → List ℕ
zeroed xs n = xs ++ replicate (n - length xs) 0

-- the first n of the bytes held in the store go: "What stays moves to the front, and every byte behind it becomes zero."
abbrev pub let_go : (held : List ℕ) → ℕ → (store : List ℕ) → List ℕ
let_go held n store = zeroed (drop n held) (length store)
