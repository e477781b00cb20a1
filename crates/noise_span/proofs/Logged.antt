-- A span holds a noise report exactly where the log has an `F` line for it, whose payload the plan has the noise decoder read, and it reads that report.
-- Assumes nothing.
use Prim.Native.Nat.{ℕ}
use mathlib.Core.Path.{◌≡◌, refl, sym, ap, ◌∙◌}
use mathlib.Core.Bool.{Bool, true, false}
use mathlib.Core.List.{List, [], ◌∷◌}
use native.Mathlib.Omega.{arith}
use lib.Dec.{eqb}
use borrow.Author.Tests.{eqb-true}
use Rattle.base.specs.Outcome.{Outcome, accepted, refused, pick}
use Rattle.framing.specs.Framing.{unpack_of, payload_of}
use Rattle.noise.specs.Noise.{noise_of}
use Rattle.noise.specs.declared.noise.NoiseReport.{NoiseReport}
use Rattle.plan.specs.Plan.{entry_of}
use Rattle.public.specs.Public.{Public, full, reads, case_by, case_of, public_by, public_from, public_of}
use Rattle.public.specs.declared.public.Reading.{Reading}
use Rattle.public.specs.declared.public.Reading.TheVariants.{Withheld, Unmeasured, Starred, Whole}
use Rattle.noise_span.specs.NoiseSpan.{accepted_by, read_by, noise_from, noise_in}
use Rattle.std.specs.Prelude.{Option, Some, None}

-- a public part in full, with entry 2 and a payload that reads as the report
pub record InFull (plan : List ℕ) (part : Public) (r : NoiseReport) : Type 0 where
  pub kind : ℕ
  pub seq : ℕ
  pub command : ℕ
  pub body : List ℕ
  pub is : part ≡ full kind seq (command ∷ body)
  pub entry : entry_of plan kind command ≡ 2
  pub report : noise_of (command ∷ body) ≡ accepted r

module _ (plan : List ℕ) {r : NoiseReport} where
  by_entry : (kind seq c : ℕ) (b : List ℕ) (t : Bool) → eqb (entry_of plan kind c) 2 ≡ t → (o : Outcome NoiseReport) → noise_of (c ∷ b) ≡ o → pick t (accepted_by o) None ≡ Some r
      → InFull plan (public_by (case_by (entry_of plan kind c) (reads (entry_of plan kind c) (c ∷ b))) kind seq (c ∷ b)) r
  unfolding reads
  by_entry kind seq c b true t (accepted s) f e =
      let en : entry_of plan kind c ≡ 2 = eqb-true (entry_of plan kind c) 2 t in
      let es : s ≡ r = cc in
      record { kind = kind; seq = seq; command = c; body = b; is = rw (en, f); entry = en; report = f ∙ ap accepted es }
  by_entry kind seq c b true t (refused n vs) f e = let z : ◌≡◌ {A = ℕ} 0 1 = cc in absurd (omega arith)
  by_entry kind seq c b false t o f e = let z : ◌≡◌ {A = ℕ} 0 1 = cc in absurd (omega arith)

  by_payload : (kind seq : ℕ) (p : List ℕ) → read_by plan kind p ≡ Some r → InFull plan (public_by (case_of plan kind p) kind seq p) r
  by_payload kind seq [] e = let z : ◌≡◌ {A = ℕ} 0 1 = cc in absurd (omega arith)
  by_payload kind seq (c ∷ b) e = by_entry kind seq c b (eqb (entry_of plan kind c) 2) refl (noise_of (c ∷ b)) refl e

  pub logged : (frame : List ℕ) → noise_in plan frame ≡ Some r → InFull plan (public_of plan frame) r
  unfolding noise_in public_of
  logged frame = go (unpack_of frame)
    where
      go : (o : Outcome (List ℕ)) → noise_from o plan ≡ Some r → InFull plan (public_from o plan) r
      go (refused n vs) e = let z : ◌≡◌ {A = ℕ} 0 1 = cc in absurd (omega arith)
      go (accepted body) e = by_payload _ _ (payload_of body) e

  -- and the other way
  from_full : {part : Public} → InFull plan part r → (x : Reading) (kind seq : ℕ) (p : List ℕ) → part ≡ public_by x kind seq p → read_by plan kind p ≡ Some r
  from_full l Whole kind seq p e =
      let q : full kind seq p ≡ full l.kind l.seq (l.command ∷ l.body) = sym e ∙ l.is in
      let ek : kind ≡ l.kind = cc in
      let ep : p ≡ l.command ∷ l.body = cc in
      rw (ek, ep, l.entry, l.report)
  from_full l Withheld kind seq p e = let q = sym e ∙ l.is in let z : ◌≡◌ {A = ℕ} 0 1 = cc in absurd (omega arith)
  from_full l Unmeasured kind seq p e = let q = sym e ∙ l.is in let z : ◌≡◌ {A = ℕ} 0 1 = cc in absurd (omega arith)
  from_full l Starred kind seq p e = let q = sym e ∙ l.is in let z : ◌≡◌ {A = ℕ} 0 1 = cc in absurd (omega arith)

  pub held : (frame : List ℕ) → InFull plan (public_of plan frame) r → noise_in plan frame ≡ Some r
  unfolding noise_in public_of
  held frame = go (unpack_of frame)
    where
      go : (o : Outcome (List ℕ)) → InFull plan (public_from o plan) r → noise_from o plan ≡ Some r
      go (refused n vs) l = let q = l.is in let z : ◌≡◌ {A = ℕ} 0 1 = cc in absurd (omega arith)
      go (accepted body) l = from_full l (case_of plan _ (payload_of body)) _ _ (payload_of body) refl

-- so spans with the same public part hold the same report, or none: what is told of the last reports tells nothing that the log withholds
module _ (plan : List ℕ) where
  pub same_report : (f g : List ℕ) → public_of plan f ≡ public_of plan g → noise_in plan f ≡ noise_in plan g
  same_report f g e = go (noise_in plan f) refl (noise_in plan g) refl
    where
      go : (a : Option NoiseReport) → noise_in plan f ≡ a → (b : Option NoiseReport) → noise_in plan g ≡ b → noise_in plan f ≡ noise_in plan g
      go (Some r) ef b eg = ef ∙ sym (held plan g (rw e at (logged plan f ef)))
      go None ef (Some r) eg = held plan f (rw (sym e) at (logged plan g eg)) ∙ sym eg
      go None ef None eg = ef ∙ sym eg
