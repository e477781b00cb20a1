-- What is pushed stays the sum, and counts that add up have room for all that is held.
use Prim.Native.Nat.{ℕ, ◌+◌, ◌≤◌}
use mathlib.Core.Path.{◌≡◌, refl, sym, ◌∙◌}
use mathlib.Core.Bool.{Bool, true, false}
use mathlib.Core.List.{List}
use native.Mathlib.Omega.{arith}
use lib.Dec.{ltb}
use lib.ListN.{length, length-drop}
use borrow.Author.Tests.{ltb-true, ltb-false}
use Rattle.base.specs.Outcome.{Outcome, accepted, refused}
use Rattle.scanner.specs.Scanner.{open_call, GREATEST, too_far, held_of, pushing, push_call}
use Rattle.scanner.specs.declared.scanner.Scanner.{Scanner}
use Rattle.scanner.proofs.LawsScanner.{fits_near, counts, counts_not, opened_fresh, push_full, push_fits, held_length}
use Rattle.draining.specs.Draining.{takes, drain_call, drained_of}
use Rattle.draining.proofs.LawsDraining.{goes_drained, drain_near, drain_gone, takes_refused, drain_refused}
use Rattle.tally.specs.Adding.{AddsUp}

pub open_adds : (limit : ℕ) (store : List ℕ) → AddsUp (open_call limit store).scanner
open_adds limit store = rw (opened_fresh limit store)

module _ (s : Scanner) (store : List ℕ) (k : AddsUp s) where
  pub push_adds : (piece : List ℕ) → AddsUp (push_call s store piece).scanner
  unfolding push_call
  push_adds piece = go (held_of s store) refl
    where
      stored : (held : List ℕ) → held_of s store ≡ accepted held → s.count + length piece ≤ length store → (t : Bool) → too_far s (pushing piece) ≡ t → AddsUp (push_call s store piece).scanner
      stored held e h true f = rw (push_fits s store held piece e h, counts_not s (pushing piece) (s.count + length piece) f) k
      stored held e h false f = rw (push_fits s store held piece e h, counts s (pushing piece) (s.count + length piece) f) (omega arith)

      room_left : (held : List ℕ) → held_of s store ≡ accepted held → (t : Bool) → ltb (length store) (s.count + length piece) ≡ t → AddsUp (push_call s store piece).scanner
      room_left held e true f = rw (push_full s store held piece e (ltb-true _ _ f)) k
      room_left held e false f = stored held e (ltb-false _ _ f) (too_far s (pushing piece)) refl

      go : (o : Outcome (List ℕ)) → held_of s store ≡ o → AddsUp (push_call s store piece).scanner
      go (refused n vs) e = rw e k
      go (accepted held) e = room_left held e (ltb (length store) (s.count + length piece)) refl

  pub drain_adds : AddsUp (drain_call s store).scanner
  drain_adds = go (held_of s store) refl
    where
      went : (held : List ℕ) → held_of s store ≡ accepted held → (t : Bool) → too_far s (drained_of s.limit held) ≡ t → AddsUp (drain_call s store).scanner
      went held e true f = rw (drain_gone s store held e, counts_not s (drained_of s.limit held) _ f) k
      went held e false f =
          let m = drained_of s.limit held in
          let g = goes_drained s.limit held in
          rw (drain_gone s store held e, counts s m _ f) (omega (arith, g.0, g.1, length-drop (m.dropped + m.handed) held, held_length s store held e))

      go : (o : Outcome (List ℕ)) → held_of s store ≡ o → AddsUp (drain_call s store).scanner
      go (refused n vs) e = rw (drain_refused s store e) k
      go (accepted held) e = went held e (too_far s (drained_of s.limit held)) refl

  -- no take is refused by 27, so that all of them are done
  pub drain_takes : s.pushed ≤ GREATEST → drain_call s store ≡ takes s store
  drain_takes most = go (held_of s store) refl
    where
      near : (held : List ℕ) → held_of s store ≡ accepted held → too_far s (drained_of s.limit held) ≡ false
      near held e =
          let g = goes_drained s.limit held in
          let l = held_length s store held e in
          fits_near s (drained_of s.limit held) (record { pushed = omega (arith, g.0); handed = omega (arith, g.1); dropped = omega (arith, g.1) })

      go : (o : Outcome (List ℕ)) → held_of s store ≡ o → drain_call s store ≡ takes s store
      go (refused n vs) e = drain_refused s store e ∙ sym (takes_refused s store e)
      go (accepted held) e = drain_near s store held e (near held e)
