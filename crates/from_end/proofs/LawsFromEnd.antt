-- 02, C-14: the checksum from the far end, cut anywhere, is 01's. Assumes nothing.
use Rattle.std.proofs.Common.{suc, ◌≡◌, ℕ, zero, ◌+◌, ◌%◌, ◌<◌, List, [], ◌∷◌, ◌++◌, length, take, drop, fold, reverse, sym, ap, ◌*◌, refl, ◌∙◌, arith, take-add, take-append-drop}
use Rattle.std.proofs.lemmas.List.{reverse-append}
use Rattle.std.proofs.lemmas.List.Sums.{fold_push}
use Rattle.std.specs.Simd.{first_chunks}
use Rattle.std.proofs.lemmas.Grind.{common_steps}
use mathlib.Core.List.{foldr, flatten}
use Rattle.base.specs.Sum.{total, checksum_of}
use Rattle.from_end.specs.FromEnd.{back_onto}

-- the end onto any sum, and the front onto that
pub back_append : (sum : ℕ) (xs ys : List ℕ) → back_onto sum (xs ++ ys) ≡ back_onto (back_onto sum ys) xs
unfolding back_onto
back_append sum [] ys = refl
back_append sum (x ∷ xs) ys = rw (back_append sum xs ys)

-- onto a sum that is a byte, 01's sum is added
pub back_total : (sum : ℕ) (bytes : List ℕ) → sum < 256 → back_onto sum bytes ≡ (sum + total bytes) % 256
unfolding back_onto total
back_total sum [] h = omega arith
back_total sum (b ∷ bs) h = omega (arith, back_total sum bs h)

-- from a sum of 0 over the whole
pub whole : (bytes : List ℕ) → back_onto 0 bytes ≡ checksum_of bytes
whole bytes = omega (arith, back_total 0 bytes (omega arith))

-- the end summed first, and the front added onto it
pub far_end : (xs ys : List ℕ) → back_onto (back_onto 0 ys) xs ≡ checksum_of (xs ++ ys)
far_end xs ys = sym (back_append 0 xs ys) ∙ whole (xs ++ ys)

-- any number of parts: the last onto 0, and each before it onto what that gave
parts_back : (ps : List (List ℕ)) → foldr (λ p sum. back_onto sum p) 0 ps ≡ back_onto 0 (flatten ps)
unfolding back_onto flatten
parts_back [] = refl
parts_back (p ∷ ps) = rw (parts_back ps, back_append 0 p (flatten ps))

pub parts : (ps : List (List ℕ)) → foldr (λ p sum. back_onto sum p) 0 ps ≡ checksum_of (flatten ps)
parts ps = parts_back ps ∙ whole (flatten ps)

-- a fold from the end adds the first last
fold_back : {X : Type 0} (f : ℕ → X → ℕ) (sum : ℕ) (x : X) (xs : List X) → fold f sum (reverse (x ∷ xs)) ≡ f (fold f sum (reverse xs)) x
fold_back f sum x xs = ap (fold f sum) (reverse-append (x ∷ []) xs) ∙ fold_push f sum (reverse xs) x

-- a fold over the bytes from the last to the first, and one over blocks of n bytes
pub bytes_back : (sum : ℕ) (bytes : List ℕ) → fold (λ s b. (s + b) % 256) sum (reverse bytes) ≡ back_onto sum bytes
unfolding back_onto
bytes_back sum [] = refl
bytes_back sum (b ∷ bs) = fold_back (λ s b. (s + b) % 256) sum b bs ∙ ap (λ s. (s + b) % 256) (bytes_back sum bs)

pub blocks_back : (sum n k : ℕ) (bytes : List ℕ) → length bytes ≡ k * n → fold back_onto sum (reverse (first_chunks n k bytes)) ≡ back_onto sum bytes
unfolding back_onto
blocks_back sum n zero [] e = refl
blocks_back sum n zero (b ∷ bs) e = absurd (omega arith)
blocks_back sum n (suc k) bytes e =
    fold_back back_onto sum (take n bytes) (first_chunks n k (drop n bytes))
    ∙ ap (λ s. back_onto s (take n bytes)) (blocks_back sum n k (drop n bytes) (grind (arith, common_steps)))
    ∙ sym (back_append sum (take n bytes) (drop n bytes)) ∙ ap (back_onto sum) (take-append-drop n bytes)

-- of the first i bytes those from k on are added first: w of them, or one
pub back_block : (sum next : ℕ) (bytes : List ℕ) (i k w : ℕ) → i ≡ k + w → next ≡ back_onto sum (take w (drop k bytes)) → back_onto next (take k bytes) ≡ back_onto sum (take i bytes)
back_block sum next bytes i k w whole e = rw (e, whole, take-add k w bytes, back_append sum (take k bytes) (take w (drop k bytes)))
