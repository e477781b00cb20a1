-- 02, C-14: the checksum added from the last byte to the first, onto a given sum, wrapping at 256 with each byte.
use Rattle.std.specs.Prelude.{ℕ, ◌+◌, ◌%◌, List, [], ◌∷◌}

-- the first byte is added last, onto what those behind it give
unfoldable pub back_onto : ℕ → List ℕ → ℕ
back_onto sum [] = sum
back_onto sum (b ∷ bs) = (back_onto sum bs + b) % 256
