-- 02, C-13: laws of the number of characters, for every list of bytes. Assumes nothing.
use Prim.Native.Nat.{ℕ, zero, suc, ◌+◌, ◌≤◌, ◌<◌}
use mathlib.Core.Path.{◌≡◌, refl, ap, sym, ◌∙◌}
use mathlib.Core.Bool.{Bool, true, false}
use mathlib.Core.List.{List, [], ◌∷◌, ◌++◌}
use native.Mathlib.Omega.{arith}
use lib.Dec.{ltb, leb, eqb}
use lib.ListN.{length, get_or}
use borrow.Author.Tests.{ltb-true, ltb-false, leb-true}
use Rattle.base.specs.Outcome.{pick}
use Rattle.text.specs.Text.{Place, Lead, Follower, Failed, in_range, after_lead, after_follower, next, place_after, text_from, is_text_of, begun, forms_from, characters_from, characters_of}
use Rattle.text.specs.Inner.{onto}
use Rattle.text.proofs.LawsText.{never_both, inside, above, failed, behind, characters_append, lead_plain, lead_low}
use Rattle.std.specs.Prelude.{Some, None}

-- "An empty name has 0 characters and is text"
pub nothing : characters_of [] ≡ Some 0
unfolding characters_of place_after forms_from
nothing = refl

pub adds_up : (xs ys : List ℕ) (n m : ℕ) → characters_of xs ≡ Some n → characters_of ys ≡ Some m → characters_of (xs ++ ys) ≡ Some (n + m)
adds_up xs ys n m x y = characters_append xs ys n x ∙ ap (onto n) y

-- none exactly where the bytes are no text, and a number, that of the forms begun, exactly where they are
told : (p : Place) (xs : List ℕ) (n : ℕ) → characters_from p xs ≡ Some n → (text_from p xs ≡ true) × (forms_from p xs ≡ n)
told p xs n = go (text_from p xs)
  where
    go : (t : Bool) → pick t (Some (forms_from p xs)) None ≡ Some n → (t ≡ true) × (forms_from p xs ≡ n)
    go true e = (refl, cc)
    go false e = let z : ◌≡◌ {A = ℕ} 0 1 = cc in absurd (omega arith)

module _ (xs : List ℕ) where
  pub text_number : is_text_of xs ≡ true → characters_of xs ≡ Some (forms_from Lead xs)
  unfolding characters_of
  text_number e = rw e

  pub number_text : (n : ℕ) → characters_of xs ≡ Some n → is_text_of xs ≡ true
  unfolding characters_of
  number_text n e = (told Lead xs n e).0

  pub no_text_none : is_text_of xs ≡ false → characters_of xs ≡ None
  unfolding characters_of
  no_text_none e = rw e

  pub none_no_text : characters_of xs ≡ None → is_text_of xs ≡ false
  unfolding characters_of
  none_no_text = go (is_text_of xs)
    where
      go : (t : Bool) → pick t (Some (forms_from Lead xs)) None ≡ None → t ≡ false
      go true e = cc
      go false e = refl

-- never more characters than bytes
begun_most : (p : Place) → begun p ≤ 1
begun_most Lead = omega arith
begun_most (Follower low high more) = omega arith
begun_most Failed = omega arith

forms_most : (p : Place) (xs : List ℕ) → forms_from p xs ≤ length xs
unfolding forms_from
forms_most p [] = omega arith
forms_most p (x ∷ xs) = omega (arith, begun_most p, forms_most (next p x) xs)

pub at_most : (xs : List ℕ) (n : ℕ) → characters_of xs ≡ Some n → n ≤ length xs
unfolding characters_of
at_most xs n e = omega (arith, (told Lead xs n e).1, forms_most Lead xs)

-- as many as bytes exactly where every byte is below 80
abbrev pub Plain : List ℕ → Type 0
Plain xs = (i : ℕ) → i < length xs → get_or xs i 0 < 0x80

rest_plain : (x : ℕ) (xs : List ℕ) → Plain (x ∷ xs) → Plain xs
rest_plain x xs h i k = h (suc i) (omega arith)

both_plain : (x : ℕ) (xs : List ℕ) → x < 0x80 → Plain xs → Plain (x ∷ xs)
both_plain x xs h k zero l = h
both_plain x xs h k (suc i) l = k i (omega arith)

forms_plain : (xs : List ℕ) → Plain xs → (text_from Lead xs ≡ true) × (forms_from Lead xs ≡ length xs)
unfolding place_after forms_from
forms_plain [] h = (refl, refl)
forms_plain (x ∷ xs) h =
    let e = lead_plain x (h 0 (omega arith)) in
    let on = forms_plain xs (rest_plain x xs h) in
    (rw e on.0, rw e (omega (arith, on.1)))

pub plain_number : (xs : List ℕ) → Plain xs → characters_of xs ≡ Some (length xs)
plain_number xs h = let f = forms_plain xs h in text_number xs f.0 ∙ ap Some f.1

begun_pick : (t : Bool) (p q : Place) → begun p ≡ 0 → begun q ≡ 0 → begun (pick t p q) ≡ 0
begun_pick true p q a b = a
begun_pick false p q a b = b

-- a byte from 80 on leaves a form to be gone on with
high_lead : (b : ℕ) → 0x80 ≤ b → begun (after_lead b) ≡ 0
unfolding after_lead
high_lead b h =
    rw (above 0x00 0x7F b h)
    (begun_pick (in_range 0xC2 0xDF b) _ _ refl
    (begun_pick (eqb b 0xE0) _ _ refl
    (begun_pick (eqb b 0xED) _ _ refl
    (begun_pick (in_range 0xE1 0xEF b) _ _ refl
    (begun_pick (eqb b 0xF0) _ _ refl
    (begun_pick (in_range 0xF1 0xF3 b) _ _ refl
    (begun_pick (eqb b 0xF4) _ _ refl refl)))))))

-- and then there are more bytes than forms
fewer : (p : Place) (xs : List ℕ) → begun p ≡ 0 → text_from p xs ≡ true → forms_from p xs < length xs
unfolding place_after forms_from
fewer Lead [] b t = absurd (omega arith)
fewer (Follower low high more) [] b t = never_both t
fewer Failed [] b t = never_both t
fewer p (x ∷ xs) b t = omega (arith, forms_most (next p x) xs)

full_plain : (xs : List ℕ) → text_from Lead xs ≡ true → forms_from Lead xs ≡ length xs → Plain xs
unfolding place_after forms_from
full_plain [] t e = λ i k. absurd (omega arith)
full_plain (x ∷ xs) t e = go (ltb x 0x80) refl (full_plain xs)
  where
    go : (u : Bool) → ltb x 0x80 ≡ u → (text_from Lead xs ≡ true → forms_from Lead xs ≡ length xs → Plain xs) → Plain (x ∷ xs)
    go true eu on =
        let k = ltb-true x 0x80 eu in
        let l = lead_plain x k in
        let f : forms_from (after_lead x) xs ≡ length xs = omega arith in
        both_plain x xs k (on (rw l at t) (rw l at f))
    go false eu on = absurd (omega (arith, fewer (after_lead x) xs (high_lead x (ltb-false x 0x80 eu)) t))

pub number_plain : (xs : List ℕ) → characters_of xs ≡ Some (length xs) → Plain xs
unfolding characters_of
number_plain xs e = let f = told Lead xs (length xs) e in full_plain xs f.0 f.1

-- each lead byte begins a character: there are as many as bytes outside 80-BF
unfoldable pub leads_in : List ℕ → ℕ
leads_in [] = 0
leads_in (b ∷ bs) = pick (in_range 0x80 0xBF b) 0 1 + leads_in bs

within : (low high b : ℕ) → in_range low high b ≡ true → (low ≤ b) × (b ≤ high)
within low high b = go (leb low b) refl
  where
    go : (t : Bool) → leb low b ≡ t → pick t (leb b high) false ≡ true → (low ≤ b) × (b ≤ high)
    go true e h = (leb-true low b e, leb-true b high h)
    go false e h = never_both h

-- a place at which followers are to lie in 80-BF
abbrev Narrow : Place → Type 0
Narrow Lead = Unit {0}
Narrow (Follower low high more) = (0x80 ≤ low) × (high ≤ 0xBF)
Narrow Failed = Unit {0}

narrow_pick : (t : Bool) (p q : Place) → Narrow p → Narrow q → Narrow (pick t p q)
narrow_pick true p q a b = a
narrow_pick false p q a b = b

narrow_lead : (b : ℕ) → Narrow (after_lead b)
unfolding after_lead
narrow_lead b =
    narrow_pick (in_range 0x00 0x7F b) _ _ tt
    (narrow_pick (in_range 0xC2 0xDF b) _ _ (omega arith, omega arith)
    (narrow_pick (eqb b 0xE0) _ _ (omega arith, omega arith)
    (narrow_pick (eqb b 0xED) _ _ (omega arith, omega arith)
    (narrow_pick (in_range 0xE1 0xEF b) _ _ (omega arith, omega arith)
    (narrow_pick (eqb b 0xF0) _ _ (omega arith, omega arith)
    (narrow_pick (in_range 0xF1 0xF3 b) _ _ (omega arith, omega arith)
    (narrow_pick (eqb b 0xF4) _ _ (omega arith, omega arith) tt)))))))

forms_leads : (p : Place) (xs : List ℕ) → Narrow p → text_from p xs ≡ true → forms_from p xs ≡ leads_in xs
unfolding place_after forms_from leads_in after_follower
forms_leads p [] w t = refl
forms_leads Lead (x ∷ xs) w t = go (in_range 0x80 0xBF x) refl (forms_leads (after_lead x) xs (narrow_lead x) t)
  where
    go : (u : Bool) → in_range 0x80 0xBF x ≡ u → forms_from (after_lead x) xs ≡ leads_in xs → 1 + forms_from (after_lead x) xs ≡ pick u 0 1 + leads_in xs
    go true e on =
        let k = within 0x80 0xBF x e in
        never_both (sym (failed xs) ∙ rw (lead_low x (omega arith) (omega arith)) at t)
    go false e on = ap (λ (n : ℕ). 1 + n) on
forms_leads (Follower low high more) (x ∷ xs) w t = go (in_range low high x) refl (λ p. forms_leads p xs) t
  where
    go : (u : Bool) → in_range low high x ≡ u → ((p : Place) → Narrow p → text_from p xs ≡ true → forms_from p xs ≡ leads_in xs) → text_from (pick u (behind more) Failed) xs ≡ true
        → 0 + forms_from (pick u (behind more) Failed) xs ≡ pick (in_range 0x80 0xBF x) 0 1 + leads_in xs
    go true e on h =
        let k = within low high x e in
        let b : in_range 0x80 0xBF x ≡ true = inside 0x80 0xBF x (omega arith) (omega arith) in
        rw b (ap (λ (n : ℕ). 0 + n) (on (behind more) (narrow_pick (eqb more 0) _ _ tt (omega arith, omega arith)) h))
    go false e on h = never_both (sym (failed xs) ∙ h)
forms_leads Failed (x ∷ xs) w t = never_both (sym (failed xs) ∙ t)

pub number_leads : (xs : List ℕ) (n : ℕ) → characters_of xs ≡ Some n → n ≡ leads_in xs
unfolding characters_of
number_leads xs n e = let f = told Lead xs n e in sym f.1 ∙ forms_leads Lead xs tt f.0
