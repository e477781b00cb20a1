-- Laws of the line of a window's counts. Assumes nothing.
use Prim.Native.Nat.{ℕ, ◌+◌, ◌/◌, ◌%◌, ◌≤◌, ◌<◌}
use mathlib.Core.Path.{◌≡◌, refl, sym, ap, ◌∙◌}
use mathlib.Core.Bool.{Bool, true, false}
use mathlib.Core.List.{List, [], ◌∷◌, ◌++◌, append_assoc}
use native.Mathlib.Omega.{arith}
use lib.Dec.{ltb}
use lib.ListN.{length, take, drop, set, length-append}
use borrow.Author.Tests.{lt-ltb, le-ltb, ltb-false}
use Rattle.base.specs.Outcome.{accepted, pick}
use Rattle.window_line.specs.WindowLine.{shown, decimal_of, counts_line}
use lib.Seq.{sets-eq, drop-drop}
use borrow.Rule.Slice.PartMut.{put_mid}
use Rattle.base.specs.Stored.{Stored}
use Rattle.base.specs.Writing.{WriteEffect, write_or}
use Rattle.base.proofs.LawsWriting.{put, then, write_cases}
use Rattle.window.specs.declared.window.NoiseCounts.{NoiseCounts}
use Rattle.std.specs.Prelude.{Result, Ok}
use Rattle.base.specs.Refusal.{outcome_of}
use Rattle.base.specs.declared.refusal.Refusal.{Refusal}

-- bytes copied to a place
pub word_stored : (word out : List ℕ) (at k : ℕ) (part : List ℕ) → part ≡ word → k ≡ length word → at + length word ≤ length out → Stored word out at (put_mid at k out part) (at + length word)
word_stored word out at k part p e h =
    record { bytes = rw (p, e, drop-drop (length word) at out) (sym (sets-eq word out at h ∙ append_assoc (take at out) word (drop (at + length word) out))); place = refl }

module _ (n : ℕ) where
  pub one_digit : n < 10 → decimal_of n ≡ (48 + n) ∷ []
  unfolding decimal_of
  one_digit h = rw (lt-ltb n 10 h)

  pub two_digits : 10 ≤ n → decimal_of n ≡ (48 + n / 10) ∷ (48 + n % 10) ∷ []
  unfolding decimal_of
  two_digits h = rw (le-ltb n 10 h)

  pub digits_few : length (decimal_of n) ≤ 2
  unfolding decimal_of
  digits_few = go (ltb n 10)
    where
      go : (t : Bool) → length (pick t ((48 + n) ∷ []) ((48 + n / 10) ∷ (48 + n % 10) ∷ [])) ≤ 2
      go true = omega arith
      go false = omega arith

  pub shown_small : shown n < 100
  shown_small = go (ltb 99 n) refl
    where
      go : (t : Bool) → ltb 99 n ≡ t → pick t 99 n < 100
      go true e = omega arith
      go false e = omega (arith, ltb-false 99 n e)

  -- two digits show a number of two digits
  pub shown_all : n ≤ 99 → shown n ≡ n
  shown_all h = rw (le-ltb 99 n h)

  pub shown_two : 10 ≤ n → 10 ≤ shown n
  shown_two h = go (ltb 99 n)
    where
      go : (t : Bool) → 10 ≤ pick t 99 n
      go true = omega arith
      go false = h

abbrev pub places_of : ℕ → ℕ
places_of n = length (decimal_of (shown n))

pub line_length : (c : NoiseCounts) → length (counts_line c) ≡ 26 + (places_of c.off + places_of c.anc + places_of c.ambient + places_of c.level)
unfolding counts_line
line_length c = simp length-append (omega arith)

-- the four parts, one behind the other, and the line's end
pub line_stored : (c : NoiseCounts) {out o₁ o₂ o₃ o₄ : List ℕ} {a₁ a₂ a₃ a₄ : ℕ}
    → Stored ((0x6F ∷ 0x66 ∷ 0x66 ∷ 0x20 ∷ []) ++ decimal_of (shown c.off)) out 0 o₁ a₁
    → Stored ((0x20 ∷ 0x61 ∷ 0x6E ∷ 0x63 ∷ 0x20 ∷ []) ++ decimal_of (shown c.anc)) o₁ a₁ o₂ a₂
    → Stored ((0x20 ∷ 0x61 ∷ 0x6D ∷ 0x62 ∷ 0x69 ∷ 0x65 ∷ 0x6E ∷ 0x74 ∷ 0x20 ∷ []) ++ decimal_of (shown c.ambient)) o₂ a₂ o₃ a₃
    → Stored ((0x20 ∷ 0x6C ∷ 0x65 ∷ 0x76 ∷ 0x65 ∷ 0x6C ∷ 0x20 ∷ []) ++ decimal_of (shown c.level)) o₃ a₃ o₄ a₄
    → Stored (counts_line c) out 0 (set o₄ a₄ 0x0A) (a₄ + 1)
unfolding counts_line
line_stored c s₁ s₂ s₃ s₄ = then (then (then (then s₁ s₂) s₃) s₄) (put {x = 0x0A})

-- a line that was written lies in the output
pub line_within : (c : NoiseCounts) (out : List ℕ) {w : (Result ℕ Refusal)} → outcome_of w ≡ (write_or 7 (counts_line c) out).answer → {n : ℕ} → w ≡ Ok n → n ≤ length out
line_within c out {w} told {n} e =
    let t : accepted n ≡ (write_or 7 (counts_line c) out).answer = sym (ap outcome_of e) ∙ told in
    write_cases 7 (counts_line c) out (λ (x : WriteEffect). accepted n ≡ x.answer → n ≤ length out)
    (λ long q. let z : ◌≡◌ {A = ℕ} 0 1 = cc in absurd (omega arith))
    (λ fits q. let k : n ≡ length (counts_line c) = cc in omega arith)
    t
