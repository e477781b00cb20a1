-- A row holds the digits of the last reports, so that a window counts the last so many, for every width together. Assumes nothing.
use Prim.Native.Nat.{ℕ, zero, suc, ◌+◌, ◌-◌, ◌*◌, ◌/◌, ◌%◌, ◌^◌, ◌≤◌, ◌<◌, min}
use mathlib.Core.Path.{◌≡◌, refl, ap, ap₂, sym, ◌∙◌}
use mathlib.Core.Bool.{Bool, true, false}
use mathlib.Core.List.{List, [], ◌∷◌}
use native.Mathlib.Omega.{arith}
use native.Mathlib.Nat.{add-zero}
use lib.ListN.{length, length-drop}
use lib.Dec.{ltb}
use lib.Pow.{mod-pow-add, mod-mod-pow, field, pow_pos, low, shl-shr}
use lib.Bits.{bit_or, or_shifted}
use lib.Count.{ones, ones_in, ones_step, ones_cat}
use borrow.Author.Tests.{le-ltb}
use Rattle.base.specs.Outcome.{pick}
use Rattle.base.proofs.LawsTests.{by_ltb}
use Rattle.noise.specs.declared.noise.NoiseMode.{NoiseMode}
use Rattle.noise.specs.declared.noise.NoiseMode.TheVariants.{Off, Anc, Ambient}
use Rattle.noise.specs.declared.noise.NoiseReport.{NoiseReport}
use Rattle.window.specs.LastReports.{is_off, is_anc, is_ambient, has_level, one_if, how_many, counted_afresh, last_of}
use Rattle.window.specs.Window.{width_of, opened, with_newest, pushed, pushed_all, counts_of}
use Rattle.window.specs.declared.window.NoiseWindow.{NoiseWindow}
use Rattle.window.specs.declared.window.NoiseCounts.{NoiseCounts}

-- the lowest digits of a row, counted one by one and as a number of its own
ones_in_lem : (k row : ℕ) → ones_in k row ≡ ones (row % 2 ^ k)
unfolding ones ones_in
ones_in_lem zero row = let z : row % 1 ≡ 0 = omega arith in rw z refl
ones_in_lem (suc k) row =
    let n : suc k ≡ k + 1 = omega arith in
    let e : ones (row % 2 ^ (k + 1)) ≡ row % 2 + ones (row / 2 % 2 ^ k) = ones_step (row % 2 ^ (k + 1)) ∙ ap₂ (λ (x y : ℕ). x + ones y) (mod-mod-pow row k 1) (field row k 1) in
    rw (n, e) (ap (λ (x : ℕ). row % 2 + x) (ones_in_lem k (row / 2)))

shifted : (row k j : ℕ) → row * 2 ^ j % 2 ^ (k + j) ≡ row % 2 ^ k * 2 ^ j + 0
shifted row k j =
    let none : row * 2 ^ j % 2 ^ j ≡ 0 = ap (λ (n : ℕ). n % 2 ^ j) (sym (add-zero (row * 2 ^ j))) ∙ low row j (pow_pos j) in
    mod-pow-add (row * 2 ^ j) k j ∙ ap₂ (λ (x y : ℕ). x % 2 ^ k * 2 ^ j + y) (shl-shr row j) none

ones_none : ones 0 ≡ 0
unfolding ones ones_in
ones_none = refl

-- shifted until only they are left, they are counted as all the digits of a word
pub ones_shifted : (row k : ℕ) → k ≤ 64 → ones (row * 2 ^ (64 - k) % 2 ^ 64) ≡ ones_in k row
ones_shifted row k h =
    let j = 64 - k in
    let all : 64 ≡ k + j = omega arith in
    ap (λ (n : ℕ). ones (row * 2 ^ j % 2 ^ n)) all ∙ rw (shifted row k j, ones_cat j (row % 2 ^ k) 0 (pow_pos j), ones_none, ones_in_lem k row) (add-zero (ones (row % 2 ^ k)))

pub or_newest : (row digit : ℕ) → digit < 2 → bit_or (row * 2 % 2 ^ 64) digit ≡ row * 2 % 2 ^ 64 + digit
or_newest row digit h =
    let higher : row * 2 % 2 ^ 64 ≡ row % 2 ^ 63 * 2 ^ 1 = shifted row 63 1 ∙ add-zero (row % 2 ^ 63 * 2 ^ 1) in
    rw higher (or_shifted (row % 2 ^ 63) 1 digit h)

lowest : (k j row : ℕ) → ones_in k (row % 2 ^ (j + k)) ≡ ones_in k row
lowest k j row = rw (ones_in_lem k (row % 2 ^ (j + k)), mod-mod-pow row j k, ones_in_lem k row) refl

one_if_small : (b : Bool) → one_if b < 2
one_if_small true = omega arith
one_if_small false = omega arith

-- a new digit counts by itself, and the others stand one higher
newest : (d row : ℕ) (b : Bool) → d < 64 → ones_in (suc d) (with_newest row b) ≡ one_if b + ones_in d row
unfolding ones_in with_newest
newest d row b h =
    let small : one_if b < 2 = one_if_small b in
    let higher : row * 2 % 18446744073709551616 ≡ row % 9223372036854775808 * 2 + 0 = shifted row 63 1 in
    let digit : (row * 2 % 18446744073709551616 + one_if b) % 2 ≡ one_if b = rw higher (omega arith) in
    let older : (row * 2 % 18446744073709551616 + one_if b) / 2 ≡ row % 9223372036854775808 = rw higher (omega arith) in
    let j : 63 ≡ (63 - d) + d = omega arith in
    rw (digit, older) (ap (λ (x : ℕ). one_if b + x) (ap (λ (n : ℕ). ones_in d (row % 2 ^ n)) j ∙ lowest d (63 - d) row))

nothing : (k : ℕ) → ones_in k 0 ≡ 0
unfolding ones_in
nothing zero = refl
nothing (suc k) = omega (arith, nothing k)

none_looked_at : (k n row : ℕ) → k ≤ n → ones_in (k - n) row ≡ 0
unfolding ones_in
none_looked_at k n row h = let z : k - n ≡ 0 = omega arith in rw z refl

module _ (is : NoiseReport → Bool) where
  -- a row after any list of reports
  abbrev row_after : ℕ → List NoiseReport → ℕ
  row_after row [] = row
  row_after row (r ∷ rs) = row_after (with_newest row (is r)) rs

  -- its lowest digits are those of the last so many, and where fewer have come, those that it began with
  row_counts : (k row : ℕ) (rs : List NoiseReport) → k ≤ 64 → ones_in k (row_after row rs) ≡ how_many is (last_of k rs) + ones_in (k - length rs) row
  row_counts k row [] h = let n : 0 - k ≡ 0 = omega arith in let m : k - 0 ≡ k = omega arith in rw (n, m) (omega arith)
  row_counts k row (r ∷ rs) h =
      by_ltb (λ _. ones_in k (row_after row (r ∷ rs)) ≡ how_many is (last_of k (r ∷ rs)) + ones_in (k - suc (length rs)) row) (length rs) k
      (λ few.
      let one : k - length rs ≡ suc (k - suc (length rs)) = omega arith in
      let all : length rs - k ≡ 0 = omega arith in
      let more : suc (length rs) - k ≡ 0 = omega arith in
      row_counts k (with_newest row (is r)) rs h ∙ rw (one, newest (k - suc (length rs)) row (is r) (omega arith), all, more) (omega arith))
      (λ many.
      let on : suc (length rs) - k ≡ suc (length rs - k) = omega arith in
      let gone : k ≤ suc (length rs) = omega arith in
      row_counts k (with_newest row (is r)) rs h ∙ rw (on, none_looked_at k (length rs) (with_newest row (is r)) many, none_looked_at k (suc (length rs)) row gone) refl)

  from_nothing : (k : ℕ) (rs : List NoiseReport) → k ≤ 64 → ones_in k (row_after 0 rs) ≡ how_many is (last_of k rs)
  from_nothing k rs h = row_counts k 0 rs h ∙ rw (nothing (k - length rs)) (add-zero (how_many is (last_of k rs)))

-- a width is one from 1 to 64, and one of these stays
pub width_least : (width : ℕ) → 1 ≤ width_of width
width_least width = by_ltb (λ t. 1 ≤ pick t 1 (pick (ltb 64 width) 64 width)) width 1 (λ _. omega arith) (λ h. by_ltb (λ t. 1 ≤ pick t 64 width) 64 width (λ _. omega arith) (λ _. h))

pub width_most : (width : ℕ) → width_of width ≤ 64
width_most width = by_ltb (λ t. pick t 1 (pick (ltb 64 width) 64 width) ≤ 64) width 1 (λ _. omega arith) (λ _. by_ltb (λ t. pick t 64 width ≤ 64) 64 width (λ _. omega arith) (λ h. h))

pub width_kept : (width : ℕ) → 1 ≤ width → width ≤ 64 → width_of width ≡ width
width_kept width h k = rw (le-ltb width 1 h, le-ltb 64 width k) refl

-- no count of any window is above 64
ones_most : (k row : ℕ) → ones_in k row ≤ k
unfolding ones_in
ones_most zero row = omega arith
ones_most (suc k) row = omega (arith, ones_most k (row / 2))

abbrev pub Within64 : NoiseCounts → Type 0
Within64 c = (c.off ≤ 64) × (c.anc ≤ 64) × (c.ambient ≤ 64) × (c.level ≤ 64)

pub counts_within : (w : NoiseWindow) → Within64 (counts_of w)
unfolding counts_of
counts_within w = let k = width_most w.width in (bound w.off k, bound w.anc k, bound w.ambient k, bound w.level k)
  where
    bound : (row : ℕ) → width_of w.width ≤ 64 → ones_in (width_of w.width) row ≤ 64
    bound row k = omega (arith, ones_most (width_of w.width) row)

-- each row has its own test
rows : (w : NoiseWindow) (rs : List NoiseReport)
    → pushed_all w rs ≡ record {
      width = w.width;
      off = row_after (λ r. is_off r.mode) w.off rs;
      anc = row_after (λ r. is_anc r.mode) w.anc rs;
      ambient = row_after (λ r. is_ambient r.mode) w.ambient rs;
      level = row_after (λ r. has_level r.ambient_level) w.level rs;
    }
unfolding pushed
rows w [] = refl
rows w (r ∷ rs) = rows (pushed w r) rs

width_again : (width : ℕ) → width_of (width_of width) ≡ width_of width
width_again width = width_kept (width_of width) (width_least width) (width_most width)

-- 02, C-19: "After an opening and any list of reports the counts are those of the last so many, counted afresh", for every width together
pub last_counted : (width : ℕ) (rs : List NoiseReport) → counts_of (pushed_all (opened width) rs) ≡ counted_afresh (last_of (width_of width) rs)
unfolding opened counts_of
last_counted width rs =
    rw (
      rows (opened width) rs,
      width_again width,
      from_nothing (λ r. is_off r.mode) (width_of width) rs (width_most width),
      from_nothing (λ r. is_anc r.mode) (width_of width) rs (width_most width),
      from_nothing (λ r. is_ambient r.mode) (width_of width) rs (width_most width),
      from_nothing (λ r. has_level r.ambient_level) (width_of width) rs (width_most width),
    )
    refl

-- each report counts in one mode
one_mode : (rs : List NoiseReport) → (counted_afresh rs).off + (counted_afresh rs).anc + (counted_afresh rs).ambient ≡ length rs
one_mode [] = omega arith
one_mode (r ∷ rs) = by_mode r.mode refl (one_mode rs)
  where
    by_mode : (m : NoiseMode) → r.mode ≡ m → (counted_afresh rs).off + (counted_afresh rs).anc + (counted_afresh rs).ambient ≡ length rs
        → (counted_afresh (r ∷ rs)).off + (counted_afresh (r ∷ rs)).anc + (counted_afresh (r ∷ rs)).ambient ≡ suc (length rs)
    by_mode Off e h = rw e (omega arith)
    by_mode Anc e h = rw e (omega arith)
    by_mode Ambient e h = rw e (omega arith)

levels_few : (rs : List NoiseReport) → (counted_afresh rs).level ≤ length rs
levels_few [] = omega arith
levels_few (r ∷ rs) = omega (arith, levels_few rs, one_if_small (has_level r.ambient_level))

last_length : (n : ℕ) (rs : List NoiseReport) → length (last_of n rs) ≡ min (length rs) n
last_length n rs = omega (arith, length-drop (length rs - n) rs)

-- "Where fewer have come, it counts those there are": the three modes make up the width, or all that have come, and no more hold a level
pub so_many : (width : ℕ) (rs : List NoiseReport) → let c = counts_of (pushed_all (opened width) rs) in c.off + c.anc + c.ambient ≡ min (length rs) (width_of width)
so_many width rs =
    ap (λ (c : NoiseCounts). c.off + c.anc + c.ambient) (last_counted width rs) ∙ one_mode (last_of (width_of width) rs) ∙ last_length (width_of width) rs

pub levels_among : (width : ℕ) (rs : List NoiseReport) → (counts_of (pushed_all (opened width) rs)).level ≤ min (length rs) (width_of width)
levels_among width rs =
    let e : (counts_of (pushed_all (opened width) rs)).level ≡ (counted_afresh (last_of (width_of width) rs)).level = ap (λ (c : NoiseCounts). c.level) (last_counted width rs) in
    omega (arith, e, levels_few (last_of (width_of width) rs), last_length (width_of width) rs)
