-- Laws of the noise report that a span holds, one for each return of the code. Assumes nothing.
use Prim.Native.Nat.{ℕ, ◌≤◌, ◌<◌}
use mathlib.Core.Path.{◌≡◌, refl, sym, ap, ◌∙◌}
use mathlib.Core.List.{List, [], ◌∷◌}
use native.Mathlib.Omega.{arith}
use lib.Dec.{eqb}
use lib.ListN.{length, take, drop, get_or, replicate}
use borrow.Author.Tests.{lt-ltb, le-ltb}
use Rattle.base.specs.Outcome.{Outcome, accepted, refused, pick}
use Rattle.base.specs.Refusal.{refusal_told}
use Rattle.base.specs.Writing.{over}
use Rattle.base.specs.declared.refusal.Refusal.{Refusal}
use Rattle.framing.specs.Framing.{unpack_of, UnpackEffect, unpack_call}
use Rattle.noise.specs.Noise.{noise_of}
use Rattle.plan.specs.Plan.{entry_of}
use Rattle.span_line.proofs.LawsSpanLine.{Leaves, unpack_leaves, Opened, opened_kind, opened_payload}
use Rattle.noise_span.specs.NoiseSpan.{accepted_by, read_by, noise_from, noise_in, noise_call}
use Rattle.std.specs.Prelude.{Result, None, Ok, Err}
use Rattle.std.specs.Result.{result_ok}
use Rattle.framing.specs.declared.framing.Header.{Header}
use Rattle.noise.specs.declared.noise.NoiseReport.{NoiseReport}
use Rattle.base.specs.Refusal.{outcome_of}

module _ (plan : List ℕ) (kind : ℕ) where
  pub read_empty : (p : List ℕ) → length p ≡ 0 → None ≡ read_by plan kind p
  read_empty [] h = refl
  read_empty (x ∷ xs) h = absurd (omega arith)

  pub read_by_lem : (p : List ℕ) → (length p ≡ 0 → ⊥) → {entry : ℕ} → entry ≡ entry_of plan kind (get_or p 0 0) → read_by plan kind p ≡ pick (eqb entry 2) (accepted_by (noise_of p)) None
  read_by_lem [] h e = absurd (h refl)
  read_by_lem (x ∷ xs) h e = rw e

pub ok_accepted_by : (r : Result NoiseReport Refusal) → result_ok r ≡ accepted_by (outcome_of r)
ok_accepted_by (Ok a) = refl
ok_accepted_by (Err r) = refl

-- a frame that unpack refused holds none
pub unread_none : (f w : List ℕ) → length f ≤ length w → (u : Result Header Refusal) → outcome_of u ≡ (unpack_call f w).answer → {r : Refusal} → u ≡ Err r → (plan : List ℕ) → None ≡ noise_in plan f
unfolding noise_in
unread_none f w room u told {r} e plan = go (unpack_of f) (unpack_leaves f w room)
  where
    t : refusal_told r ≡ (unpack_call f w).answer
    t = sym (ap outcome_of e) ∙ told

    go : (o : Outcome (List ℕ)) → Leaves o (length w) (unpack_call f w) → None ≡ noise_from o plan
    go (accepted body) l = let q = t ∙ ap (λ (x : UnpackEffect). x.answer) l in let z : ◌≡◌ {A = ℕ} 0 1 = cc in absurd (omega arith)
    go (refused n vs) l = refl

-- an accepted one is read where its body stands
pub opened_read : {f left : List ℕ} {len : ℕ} → Opened f left len → (plan : List ℕ) → noise_in plan f ≡ read_by plan (get_or left 0 0) (take len (drop 6 left))
unfolding noise_in
opened_read o plan = rw (o.got, opened_kind o, opened_payload o)

-- the call, by the work area
module _ (plan frame work : List ℕ) where
  pub call_short : length work < length frame → noise_call plan frame work ≡ record { answer = None; work = work }
  unfolding noise_call
  call_short h = rw (lt-ltb (length work) (length frame) h)

  pub call_room : length frame ≤ length work → noise_call plan frame work ≡ record { answer = noise_in plan frame; work = over (replicate (length frame) 0) work }
  unfolding noise_call
  call_room h = rw (le-ltb (length work) (length frame) h)
