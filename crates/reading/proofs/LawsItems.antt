-- Laws of the walk over counted items, for every size of an item.
use Prim.Native.Nat.{ℕ, zero, suc, ◌+◌, ◌*◌, ◌≤◌, ◌<◌}
use native.Mathlib.Nat.{le_of_suc-le-suc}
use mathlib.Core.Path.{◌≡◌, refl, ap, ◌∙◌}
use mathlib.Core.List.{List, ◌++◌}
use native.Mathlib.Omega.{arith}
use native.Mathlib.Numerals.{add-one}
use lib.ListN.{length, get_or-append}
use Rattle.reading.specs.Items.{Size, fixed, headed, walk, counted, length_by}

module _ (size : Size) (p : List ℕ) where
  pub walk_grows : (n at : ℕ) → at ≤ walk size p n at
  unfolding walk
  walk_grows zero at = omega arith
  walk_grows (suc n) at = omega (arith, walk_grows n (at + size p at))

  pub walk_none : (n at : ℕ) → n ≤ 0 → walk size p n at ≡ at
  unfolding walk
  walk_none zero at h = refl
  walk_none (suc n) at h = absurd (omega arith)

  -- an item begins where the one before it ended
  pub walk_last : (n at : ℕ) → walk size p (suc n) at ≡ walk size p n at + size p (walk size p n at)
  unfolding walk
  walk_last zero at = refl
  walk_last (suc n) at = walk_last n (at + size p at)

  pub walk_more : (n at : ℕ) → walk size p (n + 1) at ≡ walk size p n at + size p (walk size p n at)
  walk_more n at = rw (add-one n) (walk_last n at)

  pub walk_mono : (k n at : ℕ) → k ≤ n → walk size p k at ≤ walk size p n at
  unfolding walk
  walk_mono zero n at h = walk_grows n at
  walk_mono (suc k) zero at h = absurd (omega arith)
  walk_mono (suc k) (suc n) at h = walk_mono k n (at + size p at) (le_of_suc-le-suc h)

  -- of two items the first ends before the second begins
  pub apart : (j k at : ℕ) → j < k → walk size p j at + size p (walk size p j at) ≤ walk size p k at
  apart j k at h = rw (← walk_last j at) (walk_mono (suc j) k at h)

  -- all items lie in so many bytes
  pub record Inside (n at len : ℕ) : Type 0 where
    pub begins : at ≤ len
    pub item : (k : ℕ) → k < n → walk size p k at + size p (walk size p k at) ≤ len

  -- they do exactly when the walk ends there
  pub inside : (n at len : ℕ) → walk size p n at ≤ len → Inside n at len
  inside n at len h = record { begins = omega (arith, walk_grows n at); item = λ k l. omega (arith, apart k n at l) }

  pub ends_inside : (n at len : ℕ) → Inside n at len → walk size p n at ≤ len
  ends_inside zero at len i = omega (arith, walk_none 0 at (omega arith), i.begins)
  ends_inside (suc n) at len i = omega (arith, walk_last n at, i.item n (omega arith))

  -- every item has at least so many bytes
  pub walk_least : (m : ℕ) → ((at : ℕ) → m ≤ size p at) → (n at : ℕ) → at + m * n ≤ walk size p n at
  walk_least m least zero at = omega (arith, walk_none 0 at (omega arith))
  walk_least m least (suc n) at = omega (arith, walk_least m least n at, walk_last n at, least (walk size p n at))

  -- each of the items has so many bytes
  pub walk_even : (m n at : ℕ) → ((k : ℕ) → k < n → size p (at + m * k) ≡ m) → walk size p n at ≡ at + m * n
  walk_even m zero at each = omega (arith, walk_none 0 at (omega arith))
  walk_even m (suc n) at each =
      let e = walk_even m n at (λ k h. each k (omega arith)) in
      omega (arith, walk_last n at, e, ap (size p) e, each n (omega arith))

-- items of one size
pub walk_fixed : (size : ℕ) (p : List ℕ) (n at : ℕ) → walk (fixed size) p n at ≡ at + size * n
walk_fixed size p n at = walk_even (fixed size) p size n at (λ k h. refl)

-- a byte that is not there reads as 0 and never makes the end meet the length: not a length byte, nor the count
pub no_length_byte : (head : ℕ) (p : List ℕ) (n k at : ℕ) → k < n → length p ≤ walk (headed head) p k at + head → length p < walk (headed head) p n at
no_length_byte head p n k at h e = omega (arith, apart (headed head) p k n at h)

pub no_count_byte : (place behind : ℕ) (size : Size) (p : List ℕ) → length p ≤ place → length p < length_by (counted place size behind p) p
no_count_byte place behind size p h = omega (arith, walk_grows size p (counted place size behind p).count (place + 1))

-- a size that an item's own bytes give: bytes behind the item are not asked
abbrev pub Own : Size → Type 0
Own size = (p r : List ℕ) (at : ℕ) → at + size p at ≤ length p → size (p ++ r) at ≡ size p at

pub own_fixed : (n : ℕ) → Own (fixed n)
own_fixed n p r at h = refl

pub own_headed : (head : ℕ) → Own (headed head)
own_headed head p r at h = ap (λ (more : ℕ). head + 1 + more) (get_or-append p r 0 (at + head) (omega arith))

-- a longer payload keeps the places of items that lie inside
pub walk_longer : {size : Size} → Own size → (p r : List ℕ) (n at : ℕ) → walk size p n at ≤ length p → walk size (p ++ r) n at ≡ walk size p n at
unfolding walk
walk_longer own p r zero at h = refl
walk_longer {size} own p r (suc n) at h =
    let e : size (p ++ r) at ≡ size p at = own p r at (omega (arith, walk_grows size p n (at + size p at))) in
    ap (λ (m : ℕ). walk size (p ++ r) n (at + m)) e ∙ walk_longer own p r n (at + size p at) h
