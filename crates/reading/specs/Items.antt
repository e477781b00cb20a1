-- 01, "Messages and decoders", and 02, C-16: the walk over the items of a payload, and how its length follows from them.
use Rattle.std.specs.Prelude.{ℕ, zero, suc, ◌+◌, List, get_or}

-- the size of an item, by the payload and the item's place
abbrev pub Size : Type 0
Size = List ℕ → ℕ → ℕ

-- always so many bytes
abbrev pub fixed : ℕ → Size
fixed n payload at = n

-- a head, a length byte and as many bytes more; a byte that is not there reads as 0, so an item that runs past the payload ends behind it
abbrev pub headed : ℕ → Size
headed head payload at = head + 1 + get_or payload (at + head) 0

-- the place after so many items, the first of them at `at`
unfoldable pub walk : Size → List ℕ → ℕ → ℕ → ℕ
walk size payload zero at = at
walk size payload (suc n) at = walk size payload n (at + size payload at)

-- where the first item stands, how many there are, how long each is, and how many bytes stand behind the last
pub record Items : Type 0 where
  pub first : ℕ
  pub count : ℕ
  pub size : Size
  pub behind : ℕ

-- a count, and as many items from the next place on
abbrev pub counted : (place : ℕ) → Size → (behind : ℕ) → List ℕ → Items
counted place size behind payload = record { first = place + 1; count = get_or payload place 0; size = size; behind = behind }

-- where the item of an index begins
abbrev pub item_at : Items → List ℕ → ℕ → ℕ
item_at i payload index = walk i.size payload index i.first

-- the length of a payload that has these items
abbrev pub length_by : Items → List ℕ → ℕ
length_by i payload = item_at i payload i.count + i.behind
