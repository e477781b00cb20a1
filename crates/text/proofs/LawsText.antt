-- Laws of the text check.
use Prim.Native.Nat.{ℕ, ◌+◌, ◌-◌, ◌≤◌, ◌<◌}
use mathlib.Core.Path.{◌≡◌, refl, ap, sym, ◌∙◌}
use mathlib.Core.Bool.{Bool, true, false}
use mathlib.Core.List.{List, [], ◌∷◌, ◌++◌}
use native.Mathlib.Omega.{arith}
use Rattle.std.proofs.lemmas.Bool.Decides.{nat_tests}
use lib.Dec.{leb, ltb, eqb}
use lib.ListN.{length, take, drop, get_or, length-take, length-drop, drop_of_length-le, take-append-drop}
use lib.Seq.{take_all}
use borrow.Author.Tests.{le-leb, lt-leb, ltb-true, ltb-false, ne_eqb}
use Rattle.base.specs.Outcome.{pick}
use Rattle.base.proofs.LawsWriting.{byte_begins}
use Rattle.text.specs.Text.{Place, Lead, Follower, Failed, in_range, after_lead, after_follower, next, place_after, text_from, begun, forms_from, characters_from, characters_of}
use Rattle.text.specs.Inner.{onto, follows_at}
use Rattle.std.specs.Prelude.{Option, Some, None, ◌⊎◌}
use mathlib.Core.Logic.{⊎_elim}
use Rattle.std.proofs.lemmas.Bool.{cases_lt}

pub inside : (low high b : ℕ) → low ≤ b → b ≤ high → in_range low high b ≡ true
inside low high b l h = simp (le-leb low b l, le-leb b high h)

below : (low high b : ℕ) → b < low → in_range low high b ≡ false
below low high b l = simp (lt-leb low b l)

either : (t : Bool) → pick t false false ≡ false
either true = refl
either false = refl

pub above : (low high b : ℕ) → high < b → in_range low high b ≡ false
above low high b h = rw (lt-leb b high h) (either (leb low b))

pub never_both : {A : Type 0} → false ≡ true → A
never_both e = let z : ◌≡◌ {A = ℕ} 0 1 = ap (λ (t : Bool). pick t 1 0) e in absurd (omega arith)

-- so many forms, where the bytes are text
onto_pick : (t : Bool) (k n : ℕ) → onto k (pick t (Some n) None) ≡ pick t (Some (k + n)) None
onto_pick true k n = refl
onto_pick false k n = refl

pub onto_onto : (k n : ℕ) (x : Option ℕ) → onto k (onto n x) ≡ onto (k + n) x
onto_onto k n (Some m) = ap Some (omega arith)
onto_onto k n None = refl

-- the characters of bytes, by the first of them
step : (p : Place) (b : ℕ) (bs : List ℕ) → characters_from p (b ∷ bs) ≡ onto (begun p) (characters_from (next p b) bs)
unfolding place_after forms_from
step p b bs = sym (onto_pick (text_from (next p b) bs) (begun p) (forms_from (next p b) bs))

at_end_lem : (p : Place) (xs : List ℕ) (i : ℕ) → length xs ≤ i → characters_from p (drop i xs) ≡ characters_from p []
at_end_lem p xs i h = ap (characters_from p) (drop_of_length-le xs h)

at_step : (p : Place) (xs : List ℕ) (i : ℕ) → i < length xs → characters_from p (drop i xs) ≡ onto (begun p) (characters_from (next p (get_or xs i 0)) (drop (i + 1) xs))
at_step p xs i h = ap (characters_from p) (byte_begins xs i h).splits ∙ step p (get_or xs i 0) (drop (i + 1) xs)

pub onto_nothing : (x : Option ℕ) → onto 0 x ≡ x
onto_nothing (Some n) = ap Some (omega arith)
onto_nothing None = refl

-- nothing is text once it has failed
pub failed : (xs : List ℕ) → text_from Failed xs ≡ false
unfolding place_after
failed [] = refl
failed (x ∷ xs) = failed xs

never : (xs : List ℕ) → characters_from Failed xs ≡ None
never xs = rw (failed xs)

-- a follower in its range, and what may come behind it
abbrev pub behind : ℕ → Place
behind more = pick (eqb more 0) Lead (Follower 0x80 0xBF (more - 1))

follow : (low high more : ℕ) (xs : List ℕ) (at : ℕ)
    → characters_from (Follower low high more) (drop at xs) ≡ pick (follows_at xs at low high) (characters_from (behind more) (drop (at + 1) xs)) None
unfolding place_after forms_from after_follower
follow low high more xs at = go (ltb at (length xs)) refl
  where
    there : (t : Bool) → characters_from (pick t (behind more) Failed) (drop (at + 1) xs) ≡ pick t (characters_from (behind more) (drop (at + 1) xs)) None
    there true = refl
    there false = never (drop (at + 1) xs)

    go : (t : Bool) → ltb at (length xs) ≡ t
        → characters_from (Follower low high more) (drop at xs) ≡ pick (pick t (in_range low high (get_or xs at 0)) false) (characters_from (behind more) (drop (at + 1) xs)) None
    go true e = at_step (Follower low high more) xs at (ltb-true at (length xs) e) ∙ onto_nothing _ ∙ there (in_range low high (get_or xs at 0))
    go false e = at_end_lem (Follower low high more) xs at (ltb-false at (length xs) e)

module _ (xs : List ℕ) (at low high : ℕ) where
  pub follow_last : (t : Bool) → t ≡ follows_at xs at low high → characters_from (Follower low high 0) (drop at xs) ≡ pick t (characters_of (drop (at + 1) xs)) None
  unfolding characters_of
  follow_last t e = rw e (follow low high 0 xs at)

-- text before bytes adds to their characters
from_append : (p : Place) (xs ys : List ℕ) (n : ℕ) → characters_from p xs ≡ Some n → characters_from p (xs ++ ys) ≡ onto n (characters_from Lead ys)
unfolding place_after forms_from
from_append Lead [] ys n e = let z : 0 ≡ n = cc in rw (sym z) (sym (onto_nothing (characters_from Lead ys)))
from_append (Follower low high more) [] ys n e = cc
from_append Failed [] ys n e = cc
from_append p (x ∷ xs) ys n e = go (characters_from (next p x) xs) (from_append (next p x) xs ys) (sym (step p x xs) ∙ e)
  where
    go : (c : Option ℕ) → ((m : ℕ) → c ≡ Some m → characters_from (next p x) (xs ++ ys) ≡ onto m (characters_from Lead ys)) → onto (begun p) c ≡ Some n
        → characters_from p (x ∷ (xs ++ ys)) ≡ onto n (characters_from Lead ys)
    go (Some m) on h =
        let z : begun p + m ≡ n = cc in
        step p x (xs ++ ys) ∙ ap (onto (begun p)) (on m refl) ∙ onto_onto (begun p) m (characters_from Lead ys) ∙ ap (λ (k : ℕ). onto k (characters_from Lead ys)) z
    go None on h = cc

pub characters_append : (xs ys : List ℕ) (n : ℕ) → characters_of xs ≡ Some n → characters_of (xs ++ ys) ≡ onto n (characters_of ys)
unfolding characters_of
characters_append = from_append Lead

-- the characters of a form's first byte and of what follows, by the place that it leads to
lead_step : (xs : List ℕ) (i : ℕ) → i < length xs → characters_of (drop i xs) ≡ onto 1 (characters_from (after_lead (get_or xs i 0)) (drop (i + 1) xs))
unfolding characters_of
lead_step = at_step Lead

pub all_read : (xs : List ℕ) (i : ℕ) → length xs ≤ i → characters_of (drop i xs) ≡ Some 0
unfolding characters_of place_after forms_from
all_read = at_end_lem Lead

-- a byte below 80 is a form by itself
pub lead_plain : (b : ℕ) → b < 0x80 → after_lead b ≡ Lead
unfolding after_lead
lead_plain b h = rw (inside 0x00 0x7F b (omega arith) (omega arith))

plain_step : (xs : List ℕ) (i : ℕ) → i < length xs → get_or xs i 0 < 0x80 → characters_of (drop i xs) ≡ onto 1 (characters_of (drop (i + 1) xs))
unfolding characters_of
plain_step xs i h k = lead_step xs i h ∙ ap (λ (p : Place). onto 1 (characters_from p (drop (i + 1) xs))) (lead_plain (get_or xs i 0) k)

-- behind so many characters: one byte below 80 more, or a part of bytes with as many characters
pub plain_on : (xs : List ℕ) (whole : Option ℕ) (i n : ℕ) → whole ≡ onto n (characters_of (drop i xs)) → i < length xs → get_or xs i 0 < 0x80 → whole ≡ onto (n + 1) (characters_of (drop (i + 1) xs))
plain_on xs whole i n e h k = e ∙ ap (onto n) (plain_step xs i h k) ∙ onto_onto n 1 (characters_of (drop (i + 1) xs))

-- where each form begins
pub lead_two : (b : ℕ) → 0xC2 ≤ b → b ≤ 0xDF → after_lead b ≡ Follower 0x80 0xBF 0
unfolding after_lead
lead_two b l h = rw (above 0x00 0x7F b (omega arith), inside 0xC2 0xDF b l h)

pub lead_e0 : (b : ℕ) → b ≡ 0xE0 → after_lead b ≡ Follower 0xA0 0xBF 1
unfolding after_lead
lead_e0 b e = rw e

pub lead_ed : (b : ℕ) → b ≡ 0xED → after_lead b ≡ Follower 0x80 0x9F 1
unfolding after_lead
lead_ed b e = rw e

pub lead_three : (b : ℕ) → 0xE1 ≤ b → b ≤ 0xEF → (b ≡ 0xED → ⊥) → after_lead b ≡ Follower 0x80 0xBF 1
unfolding after_lead
lead_three b l h n = rw (
  above 0x00 0x7F b (omega arith),
  above 0xC2 0xDF b (omega arith),
  ne_eqb b 0xE0 (λ e. omega arith),
  ne_eqb b 0xED n,
  inside 0xE1 0xEF b l h,
)

pub lead_f0 : (b : ℕ) → b ≡ 0xF0 → after_lead b ≡ Follower 0x90 0xBF 2
unfolding after_lead
lead_f0 b e = rw e

pub lead_f4 : (b : ℕ) → b ≡ 0xF4 → after_lead b ≡ Follower 0x80 0x8F 2
unfolding after_lead
lead_f4 b e = rw e

-- the tests that are left from F1 on
from_f1 : (b : ℕ) → 0xF0 < b → after_lead b ≡ pick (in_range 0xF1 0xF3 b) (Follower 0x80 0xBF 2) (pick (eqb b 0xF4) (Follower 0x80 0x8F 2) Failed)
unfolding after_lead
from_f1 b l = rw (
  above 0x00 0x7F b (omega arith),
  above 0xC2 0xDF b (omega arith),
  ne_eqb b 0xE0 (λ e. omega arith),
  ne_eqb b 0xED (λ e. omega arith),
  above 0xE1 0xEF b (omega arith),
  ne_eqb b 0xF0 (λ e. omega arith),
)

pub lead_four : (b : ℕ) → 0xF1 ≤ b → b ≤ 0xF3 → after_lead b ≡ Follower 0x80 0xBF 2
lead_four b l h = rw (from_f1 b l, inside 0xF1 0xF3 b l h)

pub lead_high : (b : ℕ) → 0xF4 < b → after_lead b ≡ Failed
lead_high b l = rw (from_f1 b (omega arith), above 0xF1 0xF3 b (omega arith), ne_eqb b 0xF4 (λ e. omega arith))

pub lead_low : (b : ℕ) → 0x7F < b → b < 0xC2 → after_lead b ≡ Failed
unfolding after_lead
lead_low b l h = rw (
  above 0x00 0x7F b l,
  below 0xC2 0xDF b h,
  ne_eqb b 0xE0 (λ e. omega arith),
  ne_eqb b 0xED (λ e. omega arith),
  below 0xE1 0xEF b (omega arith),
  ne_eqb b 0xF0 (λ e. omega arith),
  below 0xF1 0xF3 b (omega arith),
  ne_eqb b 0xF4 (λ e. omega arith),
)

-- a form of three or four bytes at the front, by the bytes
module _ (xs : List ℕ) where
  abbrev byte : ℕ → ℕ
  byte k = get_or xs k 0

  abbrev Within : ℕ → ℕ → ℕ → Type 0
  Within low high at = (at < length xs) × (low ≤ byte at) × (byte at ≤ high)

  abbrev Three : ℕ → ℕ → Type 0
  Three low high = Within low high 1 × Within 0x80 0xBF 2

  abbrev Four : ℕ → ℕ → Type 0
  Four low high = Within low high 1 × Within 0x80 0xBF 2 × Within 0x80 0xBF 3

  -- the bytes behind it
  abbrev rest : ℕ → List ℕ
  rest n = take (length xs - n) (drop n xs)

  all_left : (n : ℕ) → drop n xs ≡ rest n
  all_left n = sym (take_all (length xs - n) (drop n xs) (omega (arith, length-drop n xs)))

  -- the first byte begins no form, or one of two bytes
  no_form : 0 < length xs → after_lead (byte 0) ≡ Failed → characters_of xs ≡ None
  no_form there lead = lead_step xs 0 there ∙ ap (λ (p : Place). onto 1 (characters_from p (drop 1 xs))) lead ∙ ap (onto 1) (never (drop 1 xs))

  two : 0 < length xs → 0xC2 ≤ byte 0 → byte 0 ≤ 0xDF → characters_of xs ≡ onto 1 (pick (follows_at xs 1 0x80 0xBF) (characters_of (drop 2 xs)) None)
  two there l h =
      lead_step xs 0 there ∙ ap (λ (p : Place). onto 1 (characters_from p (drop 1 xs))) (lead_two (byte 0) l h) ∙ ap (onto 1) (follow_last xs 1 0x80 0xBF _ refl)

  module _ {low high : ℕ} (there : 0 < length xs) where
    three : after_lead (byte 0) ≡ Follower low high 1 → characters_of xs ≡ onto 1 (pick (follows_at xs 1 low high) (pick (follows_at xs 2 0x80 0xBF) (characters_of (drop 3 xs)) None) None)
    three lead =
        lead_step xs 0 there ∙ ap (λ (p : Place). onto 1 (characters_from p (drop 1 xs))) lead ∙
        ap (onto 1) (follow low high 1 xs 1 ∙ ap (λ (o : Option ℕ). pick (follows_at xs 1 low high) o None) (follow_last xs 2 0x80 0xBF _ refl))

    four : after_lead (byte 0) ≡ Follower low high 2
        → characters_of xs ≡ onto 1 (pick (follows_at xs 1 low high) (pick (follows_at xs 2 0x80 0xBF) (pick (follows_at xs 3 0x80 0xBF) (characters_of (drop 4 xs)) None) None) None)
    four lead =
        lead_step xs 0 there ∙ ap (λ (p : Place). onto 1 (characters_from p (drop 1 xs))) lead ∙
        ap (onto 1) (follow low high 2 xs 1 ∙ ap (λ (o : Option ℕ). pick (follows_at xs 1 low high) o None) (follow 0x80 0xBF 1 xs 2 ∙ ap (λ (o : Option ℕ). pick (follows_at xs 2 0x80 0xBF) o None) (follow_last xs 3 0x80 0xBF _ refl)))

    three_on : after_lead (byte 0) ≡ Follower low high 1 → Three low high → characters_of xs ≡ onto 1 (characters_of (rest 3))
    three_on lead f = rw (← all_left 3, three lead) (grind (arith, nat_tests))

    three_broken : after_lead (byte 0) ≡ Follower low high 1 → (Three low high → ⊥) → characters_of xs ≡ None
    three_broken lead n = rw (three lead) (grind (arith, nat_tests))

    four_on : after_lead (byte 0) ≡ Follower low high 2 → Four low high → characters_of xs ≡ onto 1 (characters_of (rest 4))
    four_on lead f = rw (← all_left 4, four lead) (grind (arith, nat_tests))

    four_broken : after_lead (byte 0) ≡ Follower low high 2 → (Four low high → ⊥) → characters_of xs ≡ None
    four_broken lead n = rw (four lead) (grind (arith, nat_tests))

  pub form_plain : 0 < length xs → byte 0 < 0x80 → characters_of xs ≡ onto 1 (characters_of (rest 1))
  form_plain there h = rw (← all_left 1) (plain_step xs 0 there h)

  pub form_two : 0xC2 ≤ byte 0 → byte 0 ≤ 0xDF → Within 0x80 0xBF 1 → characters_of xs ≡ onto 1 (characters_of (rest 2))
  form_two l h f = rw (← all_left 2, two (omega arith) l h) (grind (arith, nat_tests))

  pub form_e0 : byte 0 ≡ 0xE0 → Three 0xA0 0xBF → characters_of xs ≡ onto 1 (characters_of (rest 3))
  form_e0 e f = three_on (omega arith) (lead_e0 (byte 0) e) f

  pub form_ed : byte 0 ≡ 0xED → Three 0x80 0x9F → characters_of xs ≡ onto 1 (characters_of (rest 3))
  form_ed e f = three_on (omega arith) (lead_ed (byte 0) e) f

  pub form_three : 0xE1 ≤ byte 0 → byte 0 ≤ 0xEF → (byte 0 ≡ 0xED → ⊥) → Three 0x80 0xBF → characters_of xs ≡ onto 1 (characters_of (rest 3))
  form_three l h n f = three_on (omega arith) (lead_three (byte 0) l h n) f

  pub form_f0 : byte 0 ≡ 0xF0 → Four 0x90 0xBF → characters_of xs ≡ onto 1 (characters_of (rest 4))
  form_f0 e f = four_on (omega arith) (lead_f0 (byte 0) e) f

  pub form_four : 0xF1 ≤ byte 0 → byte 0 ≤ 0xF3 → Four 0x80 0xBF → characters_of xs ≡ onto 1 (characters_of (rest 4))
  form_four l h f = four_on (omega arith) (lead_four (byte 0) l h) f

  pub form_f4 : byte 0 ≡ 0xF4 → Four 0x80 0x8F → characters_of xs ≡ onto 1 (characters_of (rest 4))
  form_f4 e f = four_on (omega arith) (lead_f4 (byte 0) e) f

-- what a byte from E0 on begins
leads : (b : ℕ) → 0xE0 ≤ b
    → (b ≡ 0xE0) ⊎ ((b ≡ 0xED) ⊎ (((0xE1 ≤ b) × (b ≤ 0xEF) × (b ≡ 0xED → ⊥)) ⊎ ((b ≡ 0xF0) ⊎ (((0xF1 ≤ b) × (b ≤ 0xF3)) ⊎ ((b ≡ 0xF4) ⊎ (0xF4 < b))))))
leads b h = grind arith

-- nothing where no form of three or four bytes is
module _ (xs : List ℕ) (there : 0 < length xs) (longer : 0xE0 ≤ byte xs 0) where
  pub none_longer : (byte xs 0 ≡ 0xE0 → Three xs 0xA0 0xBF → ⊥) → (byte xs 0 ≡ 0xED → Three xs 0x80 0x9F → ⊥)
      → (0xE1 ≤ byte xs 0 → byte xs 0 ≤ 0xEF → (byte xs 0 ≡ 0xED → ⊥) → Three xs 0x80 0xBF → ⊥) → (byte xs 0 ≡ 0xF0 → Four xs 0x90 0xBF → ⊥)
      → (0xF1 ≤ byte xs 0 → byte xs 0 ≤ 0xF3 → Four xs 0x80 0xBF → ⊥) → (byte xs 0 ≡ 0xF4 → Four xs 0x80 0x8F → ⊥) → characters_of xs ≡ None
  none_longer e0 ed three f0 four f4 =
      ⊎_elim (λ e. three_broken xs there (lead_e0 (byte xs 0) e) (e0 e))
      (⊎_elim (λ e. three_broken xs there (lead_ed (byte xs 0) e) (ed e))
      (⊎_elim (λ w. three_broken xs there (lead_three (byte xs 0) w.0 w.1 w.2) (three w.0 w.1 w.2))
      (⊎_elim (λ e. four_broken xs there (lead_f0 (byte xs 0) e) (f0 e))
      (⊎_elim (λ w. four_broken xs there (lead_four (byte xs 0) w.0 w.1) (four w.0 w.1))
      (⊎_elim (λ e. four_broken xs there (lead_f4 (byte xs 0) e) (f4 e))
      (λ l. no_form xs there (lead_high (byte xs 0) l))))))) (leads (byte xs 0) longer)

-- nor one of one byte or of two
pub none_shorter : (xs : List ℕ) → 0 < length xs → 0x80 ≤ byte xs 0 → byte xs 0 < 0xE0 → (0xC2 ≤ byte xs 0 → byte xs 0 ≤ 0xDF → Within xs 0x80 0xBF 1 → ⊥) → characters_of xs ≡ None
none_shorter xs there l h n =
    ⊎_elim (λ k. no_form xs there (lead_low (byte xs 0) (omega arith) k)) (λ k. rw (two xs there k (omega arith)) (grind (arith, nat_tests, n k (omega arith)))) (cases_lt (byte xs 0) 0xC2)

-- a front with as many characters as bytes
pub block_on : (xs : List ℕ) (n : ℕ) → n ≤ length xs → characters_of (take n xs) ≡ Some (length (take n xs)) → characters_of xs ≡ onto n (characters_of (rest xs n))
block_on xs n h e =
    let k : length (take n xs) ≡ n = omega (arith, length-take n xs) in
    ap characters_of (sym (take-append-drop n xs)) ∙ characters_append (take n xs) (drop n xs) n (e ∙ ap Some k) ∙ ap (λ (ys : List ℕ). onto n (characters_of ys)) (all_left xs n)

-- nothing is left
pub none_left : (xs : List ℕ) (n : ℕ) → length xs ≡ 0 → onto n (characters_of xs) ≡ Some n
none_left xs n h = ap (onto n) (all_read xs 0 (omega arith)) ∙ ap Some (omega arith)
