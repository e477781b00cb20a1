-- 01, "Frames": the checksum "adds every earlier body byte and lets the sum wrap at 256".
use Rattle.std.specs.Prelude.{ℕ, ◌+◌, ◌%◌, List, [], ◌∷◌}

unfoldable pub total : List ℕ → ℕ
total [] = 0
total (b ∷ bs) = b + total bs

abbrev pub checksum_of : List ℕ → ℕ
checksum_of bytes = total bytes % 256
