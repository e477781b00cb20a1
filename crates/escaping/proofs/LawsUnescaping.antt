-- Laws of unescaping, and of a loop that fills an output and can refuse on the way. Assumes nothing.
use Prim.Native.Nat.{ℕ, suc, ◌+◌, ◌≤◌, ◌<◌}
use mathlib.Core.Path.{◌≡◌, refl, sym, ap, ◌∙◌}
use mathlib.Core.Logic.{◌⊎◌, inl, inr}
use mathlib.Core.List.{List, [], ◌∷◌}
use native.Mathlib.Numerals.{add-one}
use native.Mathlib.Omega.{arith}
use lib.ListN.{length, drop, get_or, set, replicate, length-set, drop_of_length-le}
use lib.Seq.{sets, drop-cons}
use lib.Dec.{eqb}
use borrow.Author.Tests.{ne_eqb, le-ltb, lt-ltb}
use Rattle.base.specs.Outcome.{Outcome, accepted, refused, pick, on_accepted}
use Rattle.base.specs.Writing.{zeros}
use Rattle.escaping.specs.Escaping.{START, END, SENTRY, then_byte, escapee_then, unescape_of, escapee_of, unescape_left, unescape_call}
use Rattle.base.proofs.LawsTests.{by_eqb, by_ltb}
use Rattle.base.proofs.LawsWriting.{front}

-- the rest's answer and bytes, told from the place that the loop has reached
abbrev pub told_from : ℕ → Outcome (List ℕ) → Outcome ℕ
told_from at (accepted bs) = accepted (at + length bs)
told_from at (refused n vs) = refused n vs

abbrev pub left_from : List ℕ → ℕ → Outcome (List ℕ) → List ℕ
left_from out at (accepted bs) = sets out at bs
left_from out at (refused n vs) = zeros out

pub record Filling (whole rest : Outcome (List ℕ)) (out₀ out : List ℕ) (at : ℕ) : Type 0 where
  pub answer : told_from at rest ≡ told_from 0 whole
  pub bytes : left_from out at rest ≡ left_from out₀ 0 whole
  pub same : length out ≡ length out₀

-- rest is the byte b and then more
pub record Turns (rest : Outcome (List ℕ)) (b : ℕ) (more : Outcome (List ℕ)) : Type 0 where
  pub turns : rest ≡ then_byte b more

told_then : (at b : ℕ) (more : Outcome (List ℕ)) → told_from (at + 1) more ≡ told_from at (then_byte b more)
told_then at b (accepted bs) = ap accepted (omega arith)
told_then at b (refused n vs) = refl

left_then : (out : List ℕ) (at b : ℕ) (more : Outcome (List ℕ)) → left_from (set out at b) (at + 1) more ≡ left_from out at (then_byte b more)
left_then out at b (accepted bs) = ap (λ (k : ℕ). sets (set out at b) k bs) (add-one at)
left_then out at b (refused n vs) = ap (λ (k : ℕ). replicate k 0) (length-set out at b)

pub fill_step : {whole rest more : Outcome (List ℕ)} {out₀ out : List ℕ} {at b : ℕ} → Filling whole rest out₀ out at → Turns rest b more
    → Filling whole more out₀ (set out at b) (at + 1)
fill_step {whole} {rest} {more} {out₀} {out} {at} {b} f t =
    record {
      answer = told_then at b more ∙ ap (told_from at) (sym t.turns) ∙ f.answer;
      bytes = left_then out at b more ∙ ap (left_from out at) (sym t.turns) ∙ f.bytes;
      same = length-set out at b ∙ f.same;
    }

-- how the loop ends
pub record Ended (whole : Outcome (List ℕ)) (out₀ : List ℕ) (told : Outcome ℕ) (after : List ℕ) : Type 0 where
  pub answer : told ≡ on_accepted length whole
  pub out : after ≡ unescape_left whole out₀

pub fill_refused : {whole rest : Outcome (List ℕ)} {out₀ out : List ℕ} {at n : ℕ} {vs : List ℕ} → Filling whole rest out₀ out at → rest ≡ refused n vs
    → Ended whole out₀ (refused n vs) (zeros out)
fill_refused {whole} {rest} {out₀} {out} {at} {n} {vs} f e =
    go whole (ap (told_from at) (sym e) ∙ f.answer) (ap (left_from out at) (sym e) ∙ f.bytes)
  where
    go : (w : Outcome (List ℕ)) → refused n vs ≡ told_from 0 w → zeros out ≡ left_from out₀ 0 w → Ended w out₀ (refused n vs) (zeros out)
    go (accepted bs) p q = let z : ◌≡◌ {A = ℕ} 0 1 = cc in absurd (omega arith)
    go (refused m us) p q = record { answer = p; out = q }

pub fill_accepted : {whole rest : Outcome (List ℕ)} {out₀ out : List ℕ} {at : ℕ} → Filling whole rest out₀ out at → rest ≡ accepted [] → at ≤ length out₀
    → Ended whole out₀ (accepted at) out
fill_accepted {whole} {rest} {out₀} {out} {at} f e h =
    go whole (ap (told_from at) (sym e) ∙ f.answer) (ap (left_from out at) (sym e) ∙ f.bytes)
  where
    go : (w : Outcome (List ℕ)) → accepted (at + 0) ≡ told_from 0 w → out ≡ left_from out₀ 0 w → Ended w out₀ (accepted at) out
    go (accepted bs) p q =
        let k : at + 0 ≡ 0 + length bs = cc in
        record { answer = ap accepted (omega arith); out = q ∙ front bs out₀ (omega arith) }
    go (refused m us) p q = let z : ◌≡◌ {A = ℕ} 0 1 = cc in absurd (omega arith)

pub fill_begin : {whole : Outcome (List ℕ)} {out : List ℕ} → Filling whole whole out out 0
fill_begin = record { answer = refl; bytes = refl; same = refl }

-- the call, by how the loop ended
pub unescape_ended : (src out : List ℕ) {after : List ℕ} {o : Outcome ℕ} → length src ≤ length out → Ended (unescape_of src) out o after
    → unescape_call src out ≡ record { answer = o; out = after }
unfolding unescape_call
unescape_ended src out h e = rw (le-ltb (length out) (length src) h, e.answer, e.out)

pub unescape_short : (src out : List ℕ) → length out < length src → unescape_call src out ≡ record { answer = refused 11 []; out = out }
unfolding unescape_call
unescape_short src out h = rw (lt-ltb (length out) (length src) h)

-- an escapee stands for the byte 16 above it
pub escapee : (e : ℕ) (rest : Outcome (List ℕ)) → 0x2C ≤ e → e < 0x2F → escapee_then e rest ≡ then_byte (e + 16) rest
unfolding escapee_then
escapee e rest h k =
    by_eqb (λ t. pick t (then_byte END rest) (pick (eqb e 0x2D) (then_byte SENTRY rest) (pick (eqb e 0x2E) (then_byte START rest) (refused 13 (e ∷ [])))) ≡ then_byte (e + 16) rest) e 0x2C
    (λ p. rw p)
    (λ n1. by_eqb (λ t. pick t (then_byte SENTRY rest) (pick (eqb e 0x2E) (then_byte START rest) (refused 13 (e ∷ []))) ≡ then_byte (e + 16) rest) e 0x2D
    (λ p. rw p)
    (λ n2. let p : e ≡ 0x2E = omega arith in rw p))

pub bad_escapee : (e : ℕ) (rest : Outcome (List ℕ)) → (e < 0x2C) ⊎ (0x2F ≤ e) → escapee_then e rest ≡ refused 13 (e ∷ [])
unfolding escapee_then
bad_escapee e rest (inl h) = rw (ne_eqb e 0x2C (λ p. omega arith), ne_eqb e 0x2D (λ p. omega arith), ne_eqb e 0x2E (λ p. omega arith))
bad_escapee e rest (inr h) = rw (ne_eqb e 0x2C (λ p. omega arith), ne_eqb e 0x2D (λ p. omega arith), ne_eqb e 0x2E (λ p. omega arith))

-- one turn of the loop, from place i
module _ (src : List ℕ) (i : ℕ) (h : i < length src) where
  pub plain_turn : (get_or src i 0 ≡ 0x3D → ⊥) → Turns (unescape_of (drop i src)) (get_or src i 0) (unescape_of (drop (i + 1) src))
  unfolding unescape_of
  plain_turn n = record { turns = rw (drop-cons src i 0 h, add-one i, ne_eqb (get_or src i 0) 0x3D n) }

  sentry : get_or src i 0 ≡ 0x3D → unescape_of (drop i src) ≡ escapee_of (drop (i + 1) src)
  unfolding unescape_of
  sentry e = rw (drop-cons src i 0 h, add-one i, e)

  pub trailing_turn : get_or src i 0 ≡ 0x3D → length src ≤ i + 1 → unescape_of (drop i src) ≡ refused 12 []
  unfolding escapee_of
  trailing_turn e k = sentry e ∙ rw (drop_of_length-le src k)

  module _ (e : get_or src i 0 ≡ 0x3D) (k : i + 1 < length src) where
    with_escapee : unescape_of (drop i src) ≡ escapee_then (get_or src (i + 1) 0) (unescape_of (drop (i + 1 + 1) src))
    unfolding escapee_of
    with_escapee = sentry e ∙ rw (drop-cons src (i + 1) 0 k, add-one (i + 1))

    pub escape_turn : 0x2C ≤ get_or src (i + 1) 0 → get_or src (i + 1) 0 < 0x2F
        → Turns (unescape_of (drop i src)) (get_or src (i + 1) 0 + 16) (unescape_of (drop (i + 1 + 1) src))
    escape_turn p q = record { turns = with_escapee ∙ escapee (get_or src (i + 1) 0) (unescape_of (drop (i + 1 + 1) src)) p q }

    pub bad_turn : (get_or src (i + 1) 0 < 0x2C) ⊎ (0x2F ≤ get_or src (i + 1) 0) → unescape_of (drop i src) ≡ refused 13 (get_or src (i + 1) 0 ∷ [])
    bad_turn p = with_escapee ∙ bad_escapee (get_or src (i + 1) 0) (unescape_of (drop (i + 1 + 1) src)) p

pub unescape_end : (src : List ℕ) (i : ℕ) → length src ≤ i → unescape_of (drop i src) ≡ accepted []
unfolding unescape_of
unescape_end src i h = rw (drop_of_length-le src h)

-- what holds of each way that a list begins holds of every list and what it unescapes to
module _ (P : List ℕ → Outcome (List ℕ) → Type 0)
    (none : P [] (accepted []))
    (trailing : P (SENTRY ∷ []) (refused 12 []))
    (bad : (e : ℕ) (xs : List ℕ) → P (SENTRY ∷ e ∷ xs) (refused 13 (e ∷ [])))
    (escaped : (e : ℕ) (xs : List ℕ) (o : Outcome (List ℕ)) → 0x2C ≤ e → e < 0x2F → P xs o → P (SENTRY ∷ e ∷ xs) (then_byte (e + 16) o))
    (plain : (b : ℕ) (xs : List ℕ) (o : Outcome (List ℕ)) → (b ≡ SENTRY → ⊥) → P xs o → P (b ∷ xs) (then_byte b o)) where
  by_escapee : (e : ℕ) (xs : List ℕ) (o : Outcome (List ℕ)) → P xs o → P (SENTRY ∷ e ∷ xs) (escapee_then e o)
  by_escapee e xs o h =
      by_ltb (λ t. P (SENTRY ∷ e ∷ xs) (escapee_then e o)) e 0x2C
      (λ k. rw (bad_escapee e o (inl k)) (bad e xs))
      (λ k. by_ltb (λ t. P (SENTRY ∷ e ∷ xs) (escapee_then e o)) e 0x2F
      (λ l. rw (escapee e o k l) (escaped e xs o k l h))
      (λ l. rw (bad_escapee e o (inr l)) (bad e xs)))

  mutual
    unfolding unescape_of

    pub unescape_ind : (xs : List ℕ) → P xs (unescape_of xs)
    unescape_ind [] = none
    unescape_ind (b ∷ xs) =
        let rest : P xs (unescape_of xs) = unescape_ind xs in
        let after : P (SENTRY ∷ xs) (escapee_of xs) = escapee_ind xs in
        by_eqb (λ t. P (b ∷ xs) (pick t (escapee_of xs) (then_byte b (unescape_of xs)))) b SENTRY
        (λ e. rw e after)
        (λ n. plain b xs (unescape_of xs) n rest)

    escapee_ind : (xs : List ℕ) → P (SENTRY ∷ xs) (escapee_of xs)
    escapee_ind [] = trailing
    escapee_ind (e ∷ xs) = by_escapee e xs (unescape_of xs) (unescape_ind xs)

-- unescaping never lengthens
abbrev Within : List ℕ → Outcome (List ℕ) → Type 0
Within xs (accepted bs) = length bs ≤ length xs
Within xs (refused k vs) = Unit {0}

within_then : (b : ℕ) (xs ys : List ℕ) (o : Outcome (List ℕ)) → suc (length xs) ≤ length ys → Within xs o → Within ys (then_byte b o)
within_then b xs ys (accepted bs) k h = omega arith
within_then b xs ys (refused n vs) k h = tt

pub unescape_shorter : (src : List ℕ) {bs : List ℕ} → unescape_of src ≡ accepted bs → length bs ≤ length src
unescape_shorter src {bs} e =
    rw e at (unescape_ind Within (omega arith) tt (λ _ _. tt) (λ e xs o _ _ h. within_then (e + 16) xs (SENTRY ∷ e ∷ xs) o (omega arith) h)
    (λ b xs o _ h. within_then b xs (b ∷ xs) o (omega arith) h) src)
