-- What look and its twin answer.
use Prim.Native.Nat.{ℕ, ◌+◌, ◌-◌, ◌≤◌}
use mathlib.Core.Path.{◌≡◌, refl, sym, ap, ◌∙◌}
use mathlib.Core.List.{List, []}
use native.Mathlib.Omega.{arith}
use lib.ListN.{length, take, drop}
use Rattle.escaping.specs.Escaping.{escape_of}
use Rattle.framing.specs.Framing.{frame_of}
use Rattle.escaping.proofs.LawsFree.{escaped_no_end}
use Rattle.frame.proofs.LawsRoundTrip.{one_span}
use Rattle.base.specs.Outcome.{Outcome, accepted, refused, on_accepted}
use Rattle.held.specs.Spans.{END}
use Rattle.held.specs.Search.{Seen, no_start, no_end, both, seen, span_of, spot_by, spot_of, sight_by, sight_of}
use Rattle.held.specs.declared.search.Spot.{Spot}
use Rattle.held.specs.declared.search.Sight.{Sight}
use Rattle.held.specs.declared.search.Sight.TheVariants.{NoStart, NoEnd, Both}
use Rattle.held.proofs.LawsSearch.{Free, sees, seen_both, PartOf, spot_part, part_whole}
use Rattle.scanner.specs.Scanner.{held_of}
use Rattle.finding.specs.Finding.{find_call, look_of, look_by}
use Rattle.scanner.specs.declared.scanner.Scanner.{Scanner}
use Rattle.scanner.proofs.LawsScanner.{Admits, held_admits}
use Rattle.std.specs.Prelude.{Option, Result, Some, None, Ok}
use Rattle.base.specs.Refusal.{outcome_of}
use Rattle.base.specs.declared.refusal.Refusal.{Refusal}

-- what look hands back, by the twin's answer
abbrev pub Looks : List ℕ → List ℕ → Outcome (Option Spot) → Type 0
Looks store bytes (refused n vs) = bytes ≡ []
Looks store bytes (accepted o) = PartOf store bytes o

pub looks : (s : Scanner) (store : List ℕ) → Looks store (look_of s store) (find_call s store)
unfolding look_of find_call
looks s store = go (held_of s store) (held_admits s store)
  where
    go : (o : Outcome (List ℕ)) → Admits s store o → Looks store (look_by o) (on_accepted spot_of o)
    go (refused n vs) a = refl
    go (accepted held) a = part_whole store held s.count a.first a.fits _ (spot_of held) (spot_part held (seen held) (sees held))

pub look_at : (s : Scanner) (store : List ℕ) (x : Result (Option Spot) Refusal) (at len : ℕ) → outcome_of x ≡ find_call s store → x ≡ Ok (Some (record { at = at; len = len })) → (at + len ≤ length store) × (take (at + len - at) (drop at store) ≡ look_of s store)
look_at s store x at len told e =
    let n : at + len - at ≡ len = omega arith in
    let h = rw (← told, e) at (looks s store) in
    (h.0, rw n (sym h.1))

-- the twin's answer, by the sight
abbrev pub spot_seen : Sight → Option Spot
spot_seen NoStart = None
spot_seen (NoEnd at) = None
spot_seen (Both at len) = Some (record { at = at; len = len })

spot_sight : (x : Seen) → spot_by x ≡ spot_seen (sight_by x)
spot_sight no_start = refl
spot_sight (no_end before rest) = refl
spot_sight (both before between rest) = refl

-- look, by what the twin answers
module _ (s : Scanner) (store : List ℕ) where
  pub some_within : (sp : Spot) → accepted (Some sp) ≡ find_call s store → sp.at + sp.len ≤ length store
  some_within sp e = (rw (← e) at (looks s store)).0

  pub some_looks : (sp : Spot) (n : ℕ) → accepted (Some sp) ≡ find_call s store → n ≡ sp.len → take n (drop sp.at store) ≡ look_of s store
  some_looks sp n e f = rw f (sym (rw (← e) at (looks s store)).1)

  pub none_looks : accepted None ≡ find_call s store → [] ≡ look_of s store
  none_looks e = sym (rw (← e) at (looks s store))

  pub refused_looks : (n : ℕ) (vs : List ℕ) → refused n vs ≡ find_call s store → [] ≡ look_of s store
  refused_looks n vs e = sym (rw (← e) at (looks s store))

pub ruleset looking = (some_within, some_looks, none_looks, refused_looks)

-- the twin, by what is seen of the held bytes
spot_if_seen : (held : List ℕ) (x : Sight) → x ≡ sight_of held → spot_of held ≡ spot_seen x
spot_if_seen held x e = rw e (spot_sight (seen held))

module _ (s : Scanner) (store held : List ℕ) where
  pub find_refused : (n : ℕ) (vs : List ℕ) → refused n vs ≡ held_of s store → refused n vs ≡ find_call s store
  unfolding find_call
  find_refused n vs e = rw (← e)

  pub find_no_start : accepted held ≡ held_of s store → NoStart ≡ sight_of held → accepted None ≡ find_call s store
  unfolding find_call
  find_no_start e f = rw (← e, spot_if_seen held _ f)

  pub find_no_end : (at : ℕ) → accepted held ≡ held_of s store → NoEnd at ≡ sight_of held → accepted None ≡ find_call s store
  unfolding find_call
  find_no_end at e f = rw (← e, spot_if_seen held _ f)

  pub find_both : (at len : ℕ) → accepted held ≡ held_of s store → Both at len ≡ sight_of held → accepted (Some (record { at = at; len = len })) ≡ find_call s store
  unfolding find_call
  find_both at len e f = rw (← e, spot_if_seen held _ f)

pub ruleset found = (find_refused, find_no_start, find_no_end, find_both)

-- look of the bytes of a frame is that frame
look_frame : (s : Scanner) (store xs : List ℕ) → held_of s store ≡ accepted (span_of xs) → Free END xs → look_of s store ≡ span_of xs
unfolding look_of
look_frame s store xs e f = rw (e, seen_both [] xs [] tt f)

-- look hands a packed frame back whole
pub look_packed : (s : Scanner) (store body : List ℕ) → held_of s store ≡ accepted (frame_of body) → look_of s store ≡ frame_of body
look_packed s store body e = rw (one_span body).0 (look_frame s store (escape_of body) (e ∙ ap accepted (one_span body).0) (escaped_no_end body))
