-- The length of an accepted list, and the records as they are filled.
use Prim.Native.Nat.{ℕ, zero, suc, ◌+◌, ◌*◌, ◌≤◌, ◌<◌}
use mathlib.Core.Path.{◌≡◌, refl, ap, ◌∙◌}
use mathlib.Core.List.{List, [], ◌∷◌}
use native.Mathlib.Omega.{arith}
use native.Mathlib.Numerals.{add-one}
use lib.Dec.{eqb}
use lib.ListN.{length, get_or, drop, set, length-append, length-drop}
use lib.Seq.{drop-cons, set_at, append_snoc}
use Rattle.base.specs.Outcome.{accepted}
use Rattle.reading.specs.Items.{fixed, counted}
use Rattle.reading.proofs.LawsItems.{walk_fixed, own_fixed}
use Rattle.reading.proofs.LawsReading.{OneLength, one_length, steady_counted, Causes, causes, whole_accepted, was_count}
use Rattle.support.specs.declared.support.SupportFunction.{SupportFunction}
use Rattle.support.specs.Support.{check_of, function_at, functions, records_with}

pub check_length : OneLength check_of
unfolding check_of
check_length = one_length _ _ _ (steady_counted 2 (own_fixed 2) 0)

pub check_causes : Causes (λ kind. eqb kind 0x00) (counted 2 (fixed 2) 0) check_of
unfolding check_of
check_causes = causes _ _ _ (λ p s. whole_accepted _)

-- an accepted list has so many functions
pub was_list : (p : List ℕ) (n : ℕ) → check_of p ≡ accepted n → length p ≡ 3 + 2 * n
unfolding check_of
was_list p n t = omega (arith, (was_count _ 2 (fixed 2) 0 p n t).1, walk_fixed 2 p n 3)

module _ (p : List ℕ) where
  length_functions : (n : ℕ) → length (functions p n) ≡ n
  unfolding functions
  length_functions zero = refl
  length_functions (suc n) = length-append (functions p n) (function_at p n ∷ []) ∙ ap (λ (k : ℕ). k + 1) (length_functions n) ∙ add-one n

  pub length_with : (n : ℕ) (rs : List SupportFunction) → n ≤ length rs → length (records_with p n rs) ≡ length rs
  length_with n rs h = omega (arith, length-append (functions p n) (drop n rs), length_functions n, length-drop n rs)

  pub with_none : (rs : List SupportFunction) → records_with p 0 rs ≡ rs
  unfolding functions
  with_none rs = refl

  -- a turn of the loop
  pub with_next : (i : ℕ) (rs : List SupportFunction) → i < length rs → set (records_with p i rs) i (function_at p i) ≡ records_with p (i + 1) rs
  unfolding functions
  with_next i rs h =
      let f : SupportFunction = function_at p i in
      rw (drop-cons rs i f h, set_at (functions p i) (get_or rs i f) (drop (suc i) rs) f i (length_functions i), add-one i, append_snoc)
