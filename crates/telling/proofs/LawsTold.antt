-- How the values begin once numbers are told; what a call tells of an outcome, by its answer.
use Rattle.std.proofs.Common.{◌≡◌, ℕ, zero, suc, ◌<◌, ◌≤◌, min, List, [], ◌∷◌, ◌++◌, length, take, drop, set, refl, ap, arith}
use Rattle.base.specs.Refusal.{listed, number_of, refusal_told}
use Rattle.base.specs.declared.refusal.Refusal.{Refusal}
use Rattle.base.specs.declared.refusal.Refusal.TheVariants.{BadEscapee, BadChecksum, LengthMismatch}
use Rattle.base.specs.Outcome.{Outcome, accepted}
use Rattle.telling.specs.Told.{status_of, numbers_of, told}

pub none_left : (vs : List ℕ) → told [] vs ≡ vs
unfolding told
none_left vs = refl

-- the numbers over as many values
pub told_front : (ns vs : List ℕ) (n : ℕ) → n ≡ min (length ns) (length vs) → take n ns ++ drop n vs ≡ told ns vs
unfolding told
told_front [] vs n e = let z : n ≡ 0 = omega arith in rw z
told_front (m ∷ ns) [] n e = let z : n ≡ 0 = omega arith in rw z
told_front (m ∷ ns) (v ∷ vs) zero e = absurd (omega arith)
told_front (m ∷ ns) (v ∷ vs) (suc n) e = ap (λ (xs : List ℕ). m ∷ xs) (told_front ns vs n (omega arith))

-- two numbers, by how many fit once the first is told
module _ (a b : ℕ) where
  pub none_told : (vs : List ℕ) → length vs ≡ 0 → told (a ∷ b ∷ []) vs ≡ vs
  unfolding told
  none_told [] h = refl
  none_told (v ∷ vs) h = absurd (omega arith)

  pub one_told : (vs : List ℕ) → ¬ (length vs ≡ 0) → length (set vs 0 a) ≤ 1 → told (a ∷ b ∷ []) vs ≡ set vs 0 a
  unfolding told
  one_told [] n h = absurd (n refl)
  one_told (v ∷ []) n h = refl
  one_told (v ∷ w ∷ vs) n h = absurd (omega arith)

  pub two_told : (vs : List ℕ) → 1 < length (set vs 0 a) → told (a ∷ b ∷ []) vs ≡ set (set vs 0 a) 1 b
  unfolding told
  two_told [] h = absurd (omega arith)
  two_told (v ∷ []) h = absurd (omega arith)
  two_told (v ∷ w ∷ vs) h = refl

-- the refusals that the last arm of `refuse` is left have no values
pub valueless : (r : Refusal) → ((b : ℕ) → r ≡ BadEscapee b → ⊥) → ((d e : ℕ) → r ≡ BadChecksum d e → ⊥) → ((d a : ℕ) → r ≡ LengthMismatch d a → ⊥) → (listed r).1 ≡ []
valueless (BadEscapee b) k l m = absurd (k b refl)
valueless (BadChecksum d e) k l m = absurd (l d e refl)
valueless (LengthMismatch d a) k l m = absurd (m d a refl)
valueless r k l m = refl

-- an accepted value, a refusal, and the answer of a callee that tells the same
module _ {A : Type 0} (f : A → List ℕ) (vs : List ℕ) {o : Outcome A} {ws : List ℕ} where
  pub taken : {a : A} → accepted a ≡ o → ws ≡ told (f a) vs → (0 ≡ status_of o) × (ws ≡ told (numbers_of f o) vs)
  taken e t = rw (← e) (refl, t)

  pub turned : (r : Refusal) {s : ℕ} → refusal_told r ≡ o → (s ≡ number_of r) × (ws ≡ told (listed r).1 vs) → (s ≡ status_of o) × (ws ≡ told (numbers_of f o) vs)
  turned r e t = rw (← e) t

  pub passed : {p : Outcome A} {s : ℕ} → p ≡ o → (s ≡ status_of p) × (ws ≡ told (numbers_of f p) vs) → (s ≡ status_of o) × (ws ≡ told (numbers_of f o) vs)
  passed e t = rw (← e) t
