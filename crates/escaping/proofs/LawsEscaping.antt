-- Laws of escaping. Assumes nothing.
use Rattle.std.proofs.lemmas.List.{take_more}
use Prim.Native.Nat.{ℕ, ◌+◌, ◌-◌, ◌*◌, ◌≤◌, ◌<◌}
use mathlib.Core.Path.{◌≡◌, refl, sym, ap, ◌∙◌}
use mathlib.Core.Logic.{◌⊎◌, inl, inr, ⊎_elim}
use mathlib.Core.List.{List, [], ◌∷◌, ◌++◌, append_assoc, append-nil}
use native.Mathlib.Numerals.{add-one}
use native.Mathlib.Omega.{arith}
use lib.ListN.{length, take, drop, get_or, length-append, drop_of_length-le}
use lib.Seq.{drop-cons}
use lib.Dec.{eqb}
use borrow.Author.Tests.{ne_eqb}
use Rattle.base.specs.Outcome.{pick}
use Rattle.base.specs.Stored.{Stored}
use Rattle.escaping.specs.Escaping.{START, END, SENTRY, escaped_byte, each_of, escape_of, framed}
use Rattle.base.proofs.LawsTests.{by_eqb}
use Rattle.base.proofs.LawsWriting.{Begins, part_begins}

-- what holds of the four forms of an escaped byte holds of every one
pub each_byte : (P : ℕ → List ℕ → Type 0) → P 0x3C (0x3D ∷ 0x2C ∷ []) → P 0x3D (0x3D ∷ 0x2D ∷ []) → P 0x3E (0x3D ∷ 0x2E ∷ [])
    → ((b : ℕ) → (b ≡ 0x3C → ⊥) → (b ≡ 0x3D → ⊥) → (b ≡ 0x3E → ⊥) → P b (b ∷ [])) → (b : ℕ) → P b (escaped_byte b)
unfolding escaped_byte
each_byte P e s t plain b =
    by_eqb (λ t1. P b (pick t1 (SENTRY ∷ 0x2C ∷ []) (pick (eqb b SENTRY) (SENTRY ∷ 0x2D ∷ []) (pick (eqb b START) (SENTRY ∷ 0x2E ∷ []) (b ∷ []))))) b END
    (λ h. rw h e)
    (λ n1. by_eqb (λ t2. P b (pick t2 (SENTRY ∷ 0x2D ∷ []) (pick (eqb b START) (SENTRY ∷ 0x2E ∷ []) (b ∷ [])))) b SENTRY
    (λ h. rw h s)
    (λ n2. by_eqb (λ t3. P b (pick t3 (SENTRY ∷ 0x2E ∷ []) (b ∷ []))) b START
    (λ h. rw h t)
    (λ n3. plain b n1 n2 n3)))

module _ (g : ℕ → List ℕ) where
  pub each_append : (xs ys : List ℕ) → each_of g (xs ++ ys) ≡ each_of g xs ++ each_of g ys
  unfolding each_of
  each_append [] ys = refl
  each_append (x ∷ xs) ys = rw (each_append xs ys) (sym (append_assoc (g x) (each_of g xs) (each_of g ys)))

  pub each_step : (src : List ℕ) (i : ℕ) → i < length src → Begins (each_of g (drop i src)) (g (get_or src i 0)) (each_of g (drop (i + 1) src))
  unfolding each_of
  each_step src i h = record { splits = rw (drop-cons src i 0, add-one) }

  pub each_front : (rest xs more : List ℕ) → rest ≡ xs ++ more → Begins (each_of g rest) (each_of g xs) (each_of g more)
  each_front rest xs more e = record { splits = ap (each_of g) e ∙ each_append xs more }

  pub each_part : (src : List ℕ) (i e : ℕ) → i ≤ e → Begins (each_of g (drop i src)) (each_of g (take (e - i) (drop i src))) (each_of g (drop e src))
  each_part src i e h = each_front _ _ _ (part_begins src i e h).splits

  pub each_none : (rest : List ℕ) → length rest ≡ 0 → each_of g rest ≡ []
  unfolding each_of
  each_none [] e = refl
  each_none (_ ∷ _) e = absurd (omega arith)

  pub each_end : (src : List ℕ) (i : ℕ) → length src ≤ i → each_of g (drop i src) ≡ []
  unfolding each_of
  each_end src i h = rw (drop_of_length-le src h)

  pub each_width : ((b : ℕ) → length (g b) ≤ 2) → (src : List ℕ) → length (each_of g src) ≤ 2 * length src
  unfolding each_of
  each_width f [] = omega arith
  each_width f (b ∷ bs) = omega (arith, length-append (g b) (each_of g bs), f b, each_width f bs)

pub escaped_width : (b : ℕ) → length (escaped_byte b) ≤ 2
escaped_width = each_byte (λ _ e. length e ≤ 2) (omega arith) (omega arith) (omega arith) (λ b _ _ _. omega arith)

-- a byte that a marker or the sentry is, and one that none of them is
pub special : (b : ℕ) → 0x3C ≤ b → b < 0x3F → escaped_byte b ≡ 0x3D ∷ (b - 16) ∷ []
special =
    each_byte (λ b e. 0x3C ≤ b → b < 0x3F → e ≡ 0x3D ∷ (b - 16) ∷ []) (λ _ _. refl) (λ _ _. refl) (λ _ _. refl)
    (λ b n1 n2 n3 h k. absurd (omega arith))

pub plain_byte : (b : ℕ) → (b ≡ END → ⊥) → (b ≡ SENTRY → ⊥) → (b ≡ START → ⊥) → escaped_byte b ≡ b ∷ []
unfolding escaped_byte
plain_byte b e s t = rw (ne_eqb b END e, ne_eqb b SENTRY s, ne_eqb b START t)

pub plain : (b : ℕ) → (b < 0x3C) ⊎ (0x3F ≤ b) → escaped_byte b ≡ b ∷ []
plain b (inl h) = plain_byte b (λ e. omega arith) (λ e. omega arith) (λ e. omega arith)
plain b (inr h) = plain_byte b (λ e. omega arith) (λ e. omega arith) (λ e. omega arith)

-- the lengths of what two lists give, of what all bytes give, and of what the first i give
pub escape_append : (xs ys : List ℕ) → length (escape_of (xs ++ ys)) ≡ length (escape_of xs) + length (escape_of ys)
escape_append xs ys = ap length (each_append escaped_byte xs ys) ∙ length-append (escape_of xs) (escape_of ys)

pub escape_width : (src : List ℕ) → length (escape_of src) ≤ 2 * length src
escape_width = each_width escaped_byte escaped_width

pub escape_none : length (escape_of []) ≡ 0
unfolding each_of
escape_none = refl

pub escape_more : (src : List ℕ) (i : ℕ) → i < length src → length (escape_of (take (i + 1) src)) ≡ length (escape_of (take i src)) + length (escaped_byte (get_or src i 0))
unfolding each_of
escape_more src i h =
    let b = get_or src i 0 in
    rw (take_more src i 0 h, each_append escaped_byte (take i src) (b ∷ []), append-nil, length-append)

one_or_two : (b : ℕ) → (escaped_byte b ≡ b ∷ []) ⊎ (length (escaped_byte b) ≡ 2)
one_or_two = each_byte (λ b e. (e ≡ b ∷ []) ⊎ (length e ≡ 2)) (inr refl) (inr refl) (inr refl) (λ b _ _ _. inl refl)

-- an escaped form is no shorter
pub no_shorter : (src : List ℕ) → length src ≤ length (escape_of src)
unfolding each_of
no_shorter [] = omega arith
no_shorter (b ∷ bs) =
    ⊎_elim (λ e. omega (arith, length-append (escaped_byte b) (escape_of bs), ap length e, no_shorter bs))
    (λ e. omega (arith, length-append (escaped_byte b) (escape_of bs), e, no_shorter bs)) (one_or_two b)

-- bytes that escaping makes no longer are left as they are
pub no_longer : (src : List ℕ) → length (escape_of src) ≡ length src → escape_of src ≡ src
unfolding each_of
no_longer [] h = refl
no_longer (b ∷ bs) h =
    ⊎_elim (λ e. ap (λ (xs : List ℕ). xs ++ escape_of bs) e ∙ ap (λ (xs : List ℕ). b ∷ xs) (no_longer bs (omega (arith, length-append (escaped_byte b) (escape_of bs), ap length e))))
    (λ e. absurd (omega (arith, length-append (escaped_byte b) (escape_of bs), e, no_shorter bs))) (one_or_two b)

-- a frame of a body in three parts
module _ (h p : List ℕ) (s : ℕ) where
  pub framed_parts : framed (h ++ p ++ (s ∷ [])) ≡ START ∷ (escape_of h ++ escape_of p ++ escape_of (s ∷ [])) ++ (END ∷ [])
  framed_parts = rw (each_append escaped_byte (h ++ p) (s ∷ []), each_append escaped_byte h p)

  pub framed_length : length (framed (h ++ p ++ (s ∷ []))) ≡ 2 + length (escape_of h) + length (escape_of p) + length (escape_of (s ∷ []))
  framed_length = ap length framed_parts ∙ simp length-append (omega arith)

  pub framed_stored : {out after : List ℕ} {n : ℕ} → Stored ((START ∷ []) ++ escape_of h ++ escape_of p ++ escape_of (s ∷ []) ++ (END ∷ [])) out 0 after n → Stored (framed (h ++ p ++ (s ∷ []))) out 0 after n
  framed_stored t = rw framed_parts t
