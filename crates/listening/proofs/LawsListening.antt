-- The counts after every list of calls with station calls among them, and when a station call is refused. Assumes nothing.
use Prim.Native.Nat.{ℕ}
use mathlib.Core.Path.{◌≡◌, refl}
use mathlib.Core.Bool.{Bool, true, false}
use mathlib.Core.List.{List}
use native.Mathlib.Omega.{arith}
use lib.Dec.{ltb}
use lib.ListN.{length}
use borrow.Author.Tests.{ltb-true, ltb-false}
use Rattle.base.specs.Outcome.{Outcome, accepted, refused}
use Rattle.cutting.specs.declared.deciding.Moved.{Moved}
use Rattle.scanner.specs.Scanner.{Effect, open_call}
use Rattle.scanner.specs.declared.scanner.Scanner.{Scanner}
use Rattle.draining.specs.Draining.{drain_call, drained_of}
use Rattle.draining.proofs.LawsDraining.{goes_drained, drain_gone}
use Rattle.line_call.proofs.LawsCalls.{Has}
use Rattle.masked_log.specs.Counts.{State, opened, number_in}
use Rattle.masked_log.proofs.LawsCounts.{Comes, stays, Sound, Grows, comes_gone, near_gone, counted, first_held, never, all_counts, sound_opened, adds_up}
use Rattle.masked_log.proofs.LawsCounts as C
use Rattle.acks.specs.Acks.{acks_in, take_by, station_call}
use Rattle.acks.proofs.LawsStation.{whole_stored, station_short, station_long, station_drains}
use Rattle.listening.specs.Counts.{Call, other, station, next, next_all, refusal_of, moves, did, IsPush, Accounts}
use Rattle.std.specs.Prelude.{Option, Some}

-- a station call comes to its takes, or is refused by 6 or 18
module _ {limit room : ℕ} (s : Scanner) (store held : List ℕ) (h : Has limit room s store held) (work out : List ℕ) where
  abbrev m : Moved
  m = drained_of s.limit held

  abbrev By : Option ℕ → Scanner → List ℕ → Type 0
  By o s' store' = Comes limit room s store held m o s' store'

  comes_drain : let e = drain_call s store in By (number_in e.answer) e.scanner e.store
  comes_drain = rw (drain_gone s store held h.bytes) (comes_gone s store held h false m (goes_drained s.limit held).0 (goes_drained s.limit held).1)

  taking : (o : Outcome Bool) (d : Effect Bool) (n : ℕ) (after : List ℕ) → By (number_in o) d.scanner d.store → let e = take_by o d n work out after in By (number_in e.answer) e.scanner e.store
  taking (refused n vs) d k after c = c
  taking (accepted found) d k after c = c

  comes_station : let e = station_call s store work out in By (number_in e.answer) e.scanner e.store
  comes_station = go (ltb (length work) (length store)) refl (ltb (length out) (length (acks_in held))) refl
    where
      go : (t : Bool) → ltb (length work) (length store) ≡ t → (u : Bool) → ltb (length out) (length (acks_in held)) ≡ u → let e = station_call s store work out in By (number_in e.answer) e.scanner e.store
      go true f u g = rw (station_short s store work out held h.bytes (ltb-true _ _ f)) (stays 6 (λ z. absurd (omega arith)))
      go false f true g = rw (station_long s store work out held h.bytes (ltb-false _ _ f) (ltb-true _ _ g)) (stays 18 (λ z. absurd (omega arith)))
      go false f false g =
          rw (station_drains s store work out held h.bytes (ltb-false _ _ f) (ltb-false _ _ g) (whole_stored {xs = acks_in held} {out = out}))
          (taking (drain_call s store).answer (drain_call s store) _ _ comes_drain)

module _ {limit room : ℕ} where
  comes : (t : State) (i : Sound limit room t) (c : Call) → Comes limit room t.scanner t.store i.held (moves t c) (refusal_of t c) (next t c).scanner (next t c).store
  comes t i (other c) = C.comes t i c
  comes t i (station work out) = rw (← first_held t i) (comes_station t.scanner t.store i.held i.has work out)

  pub step_counts : (t : State) → Sound limit room t → (c : Call) → Sound limit room (next t c) × Grows t.scanner (next t c).scanner (did t c)
  step_counts t i c = counted t i (moves t c) (refusal_of t c) (next t c).scanner (next t c).store (comes t i c)

  only_push : (t : State) → Sound limit room t → (c : Call) → refusal_of t c ≡ Some 27 → IsPush c
  only_push t i (other c) e = C.only_push t i c e
  only_push t i (station work out) e =
      let within = goes_drained t.scanner.limit i.held in
      never t i.held _ _ _ _ (comes t i (station work out)) (rw (← first_held t i) (near_gone t.scanner t.store i.held i.has i.balanced _ within.0 within.1)) e

-- after every list of calls from an accepted opening
module _ (limit : ℕ) (store : List ℕ) (fresh : (open_call limit store).answer ≡ accepted tt) where
  pub sound_run : (calls : List Call) → Sound limit (length store) (next_all (opened limit store) calls)
  sound_run calls = (all_counts next did step_counts (opened limit store) (sound_opened limit store fresh) calls).0

  pub accounts : (calls : List Call) → Accounts limit store calls
  accounts calls =
      let a = all_counts next did step_counts (opened limit store) (sound_opened limit store fresh) calls in
      record { adds = adds_up limit store fresh (next_all (opened limit store) calls) a.0 _ a.1; only_push = only_push (next_all (opened limit store) calls) a.0 }
