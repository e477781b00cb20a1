-- The noise report that a span of a capture holds under a plan: what the program `modes` hands to its window (C-19).
use Rattle.std.specs.Prelude.{ℕ, List, [], ◌∷◌, ltb, eqb, length, get_or, replicate, Option, Some, None}
use Rattle.base.specs.Outcome.{Outcome, accepted, refused, pick}
use Rattle.base.specs.Writing.{over}
use Rattle.framing.specs.Framing.{unpack_of, payload_of}
use Rattle.noise.specs.Noise.{noise_of}
use Rattle.noise.specs.declared.noise.NoiseReport.{NoiseReport}
use Rattle.plan.specs.Plan.{entry_of}

-- what the noise decoder accepts
abbrev pub accepted_by : Outcome NoiseReport → Option NoiseReport
accepted_by (accepted r) = Some r
accepted_by (refused n vs) = None

-- 01, "Plan and outgoing line": the plan has entry 2 for this type and the payload's command, and that decoder accepts the payload
abbrev pub read_by : List ℕ → (kind : ℕ) → List ℕ → Option NoiseReport
read_by plan kind [] = None
read_by plan kind (command ∷ body) = pick (eqb (entry_of plan kind command) 2) (accepted_by (noise_of (command ∷ body))) None

-- of a frame that unpack accepts
abbrev pub noise_from : Outcome (List ℕ) → List ℕ → Option NoiseReport
noise_from (refused n vs) plan = None
noise_from (accepted body) plan = read_by plan (get_or body 0 0) (payload_of body)

unfoldable pub noise_in : (plan frame : List ℕ) → Option NoiseReport
noise_in plan frame = noise_from (unpack_of frame) plan

-- what the call comes to: nothing is read in a work area that is shorter than the frame; of a longer one as many bytes as the frame has are zero afterwards
pub record NoiseEffect : Type 0 where
  pub answer : Option NoiseReport
  pub work : List ℕ

unfoldable pub noise_call : (plan frame work : List ℕ) → NoiseEffect
noise_call plan frame work =
    pick (ltb (length work) (length frame))
    (record { answer = None; work = work })
    (record { answer = noise_in plan frame; work = over (replicate (length frame) 0) work })
