-- Lists that lack a byte, and lists of bytes. Assumes nothing.
use Prim.Native.Nat.{ℕ, suc, ◌<◌}
use mathlib.Core.Path.{◌≡◌, refl}
use mathlib.Core.Bool.{false}
use mathlib.Core.List.{List, [], ◌∷◌, ◌++◌}
use lib.ListN.{get_or}
use lib.Dec.{eqb}
use borrow.Author.Tests.{ne_eqb}
use Rattle.escaping.specs.Escaping.{START, END, escaped_byte, each_of, escape_of}
use Rattle.escaping.proofs.LawsEscaping.{each_byte}

-- no byte of the list is b
abbrev pub Free : ℕ → List ℕ → Type 0
Free b [] = Unit {0}
Free b (x ∷ xs) = (eqb x b ≡ false) × Free b xs

pub free_append : (b : ℕ) (xs ys : List ℕ) → Free b xs → Free b ys → Free b (xs ++ ys)
free_append b [] ys f g = g
free_append b (x ∷ xs) ys f g = (f.0, free_append b xs ys f.1 g)

each_free : (b : ℕ) (g : ℕ → List ℕ) → ((x : ℕ) → Free b (g x)) → (xs : List ℕ) → Free b (each_of g xs)
unfolding each_of
each_free b g f [] = tt
each_free b g f (x ∷ xs) = free_append b (g x) (each_of g xs) (f x) (each_free b g f xs)

-- the escaped form holds no START and no END
pub escaped_no_start : (xs : List ℕ) → Free START (escape_of xs)
escaped_no_start = each_free START escaped_byte (each_byte (λ _ e. Free START e) (refl, (refl, tt)) (refl, (refl, tt)) (refl, (refl, tt)) (λ b _ _ n. (ne_eqb b START n, tt)))

pub escaped_no_end : (xs : List ℕ) → Free END (escape_of xs)
escaped_no_end = each_free END escaped_byte (each_byte (λ _ e. Free END e) (refl, (refl, tt)) (refl, (refl, tt)) (refl, (refl, tt)) (λ b n _ _. (ne_eqb b END n, tt)))

-- every element is below 256
abbrev pub Bytes : List ℕ → Type 0
Bytes [] = Unit {0}
Bytes (x ∷ xs) = (x < 256) × Bytes xs

pub bytes_of : (xs : List ℕ) → ((i : ℕ) → get_or xs i 0 < 256) → Bytes xs
bytes_of [] f = tt
bytes_of (x ∷ xs) f = (f 0, bytes_of xs (λ i. f (suc i)))
