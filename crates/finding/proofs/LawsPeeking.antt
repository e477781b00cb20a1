-- What a peek comes to once 1 to 3 do not apply, and how look and its twin agree with take.
use Prim.Native.Nat.{ℕ}
use mathlib.Core.Path.{◌≡◌, refl, ap}
use mathlib.Core.Bool.{Bool, true, false}
use mathlib.Core.List.{List, []}
use lib.ListN.{length, take, drop}
use Rattle.base.specs.Outcome.{Outcome, accepted, refused, pick}
use Rattle.held.specs.Search.{Seen, no_start, no_end, both, seen, spot_by, spot_of, bytes_by}
use Rattle.held.specs.declared.search.Spot.{Spot}
use Rattle.held.proofs.LawsSearch.{PartOf}
use Rattle.cutting.specs.Cutting.{taken_by, taken_of, span_bytes, moved_of, cut_of}
use Rattle.cutting.specs.declared.deciding.Cut.{Cut}
use Rattle.cutting.specs.declared.deciding.Moved.{Moved}
use Rattle.cutting.proofs.LawsCutting.{spot_cut}
use Rattle.std.specs.Bool.{then_some}
use Rattle.scanner.specs.Scanner.{holding, too_far, counted_of, held_of}
use Rattle.scanner.specs.declared.scanner.Scanner.{Scanner}
use Rattle.finding.specs.Finding.{find_call, look_of, peek_call}
use Rattle.finding.proofs.LawsFinding.{looks}
use Rattle.std.specs.Prelude.{Option, Some, None}

-- a peek, by what the code's calls answer
module _ (s : Scanner) (store held : List ℕ) where
  pub peek_refused : (n : ℕ) (vs : List ℕ) → refused n vs ≡ held_of s store → refused n vs ≡ peek_call s store
  unfolding peek_call
  peek_refused n vs e = rw (← e)

  module _ (e : accepted held ≡ held_of s store) (cut : Cut) (c : cut ≡ cut_of s.limit held) (n : ℕ) (m : Moved) (f : m ≡ record { pushed = 0; handed = cut.handed; dropped = cut.dropped }) where
    abbrev counted : Bool → Outcome Scanner
    counted t = pick t (refused 27 []) (accepted (holding s n (moved_of s.limit held)))

    abbrev peeked : Bool → Outcome (Option Spot)
    peeked t = pick t (refused 27 []) (accepted (spot_of held))

    pub peek_full : (k : ℕ) (vs : List ℕ) → refused k vs ≡ counted_of s n m → refused k vs ≡ peek_call s store
    unfolding peek_call counted_of
    peek_full k vs g = rw (← e) (go (too_far s (moved_of s.limit held)) (rw (f, c) at g))
      where
        go : (t : Bool) → refused k vs ≡ counted t → refused k vs ≡ peeked t
        go true g = cc
        go false g = cc

    pub peek_counted : (s' : Scanner) → accepted s' ≡ counted_of s n m → accepted (then_some cut.span (record { at = cut.dropped; len = cut.handed })) ≡ peek_call s store
    unfolding peek_call counted_of
    peek_counted s' g = rw (← e, c, spot_cut s.limit held) (go (too_far s (moved_of s.limit held)) (rw (f, c) at g))
      where
        go : (t : Bool) → accepted s' ≡ counted t → accepted (spot_of held) ≡ peeked t
        go true g = cc
        go false g = refl

pub ruleset peeks = (peek_refused, peek_full, peek_counted)

-- the span at a spot of the store
abbrev pub span_at : List ℕ → Option Spot → Option (List ℕ)
span_at store None = None
span_at store (Some sp) = Some (take sp.len (drop sp.at store))

module _ (s : Scanner) (store held : List ℕ) (e : held_of s store ≡ accepted held) where
  -- a peek, by whether what would go can be counted
  pub peek_far : too_far s (moved_of s.limit held) ≡ true → peek_call s store ≡ refused 27 []
  unfolding peek_call
  peek_far f = rw (e, f)

  pub peek_near : too_far s (moved_of s.limit held) ≡ false → peek_call s store ≡ accepted (spot_of held)
  unfolding peek_call
  peek_near f = rw (e, f)

  -- look is the span that take takes
  pub look_takes : look_of s store ≡ span_bytes (taken_of s.limit held).span
  unfolding look_of taken_of
  look_takes = rw e (go (seen held))
    where
      go : (x : Seen) → bytes_by x ≡ span_bytes (taken_by s.limit (length held) x).span
      go no_start = refl
      go (no_end before rest) = refl
      go (both before between rest) = refl

  -- and the twin's spot is where it stands
  pub find_takes : (taken_of s.limit held).span ≡ span_at store (spot_of held)
  unfolding taken_of look_of find_call
  find_takes = go (seen held) (rw e at (looks s store))
    where
      go : (x : Seen) → PartOf store (bytes_by x) (spot_by x) → (taken_by s.limit (length held) x).span ≡ span_at store (spot_by x)
      go no_start p = refl
      go (no_end before rest) p = refl
      go (both before between rest) p = ap Some p.1
