-- What a station call comes to, case by case. Assumes nothing.
use Rattle.std.proofs.Common.{◌≡◌, ℕ, ◌+◌, ◌<◌, ◌≤◌, false, List, [], length, refl, ◌∙◌, le-ltb, lt-ltb}
use lib.Seq.{sets}
use Rattle.base.specs.Outcome.{accepted, refused}
use Rattle.base.specs.Writing.{zeros, write_call}
use Rattle.base.specs.Stored.{Stored}
use Rattle.base.proofs.LawsWriting.{write_refused, write_fits}
use Rattle.scanner.specs.Scanner.{held_of, counting}
use Rattle.scanner.specs.declared.scanner.Scanner.{Scanner}
use Rattle.draining.specs.Draining.{drain_call}
use Rattle.acks.specs.Acks.{StationEffect, acks_in, take_by, write_by, station_call}

-- refused, with the work area as it is left
abbrev pub turned_away : ℕ → List ℕ → Scanner → (store work out : List ℕ) → StationEffect
turned_away n vs s store work out = record { answer = refused n vs; scanner = s; store = store; work = work; out = out }

-- the bytes at the front of an output, as a writer leaves it
pub whole_stored : {xs out : List ℕ} → Stored xs out 0 (sets out 0 xs) (0 + length xs)
whole_stored = record { bytes = refl; place = refl }

module _ (s : Scanner) (store work out : List ℕ) where
  pub station_refused : {n : ℕ} {vs : List ℕ} → held_of s store ≡ refused n vs → station_call s store work out ≡ turned_away n vs s store work out
  unfolding station_call
  station_refused e = rw e

  module _ (held : List ℕ) (e : held_of s store ≡ accepted held) where
    pub station_short : length work < length store → station_call s store work out ≡ turned_away 6 [] s store work out
    unfolding station_call
    station_short h = rw (e, lt-ltb (length work) (length store) h)

    module _ (room : length store ≤ length work) where
      by_write : station_call s store work out ≡ write_by (write_call (acks_in held) out).answer s store work out (write_call (acks_in held) out).out
      unfolding station_call
      by_write = rw (e, le-ltb (length work) (length store) room)

      pub station_long : length out < length (acks_in held) → station_call s store work out ≡ turned_away 18 [] s store (zeros work) out
      station_long h = by_write ∙ rw (write_refused 18 (acks_in held) out h)

      -- else by what the takes come to together
      module _ (fits : length (acks_in held) ≤ length out) where
        pub station_drains : {after : List ℕ} {n : ℕ} → Stored (acks_in held) out 0 after n → station_call s store work out ≡ take_by (drain_call s store).answer (drain_call s store) n work out after
        station_drains w = by_write ∙ rw (write_fits 18 fits w)

        module _ (store' : List ℕ) where
          pub station_far : (m : ℕ) (vs : List ℕ) → drain_call s store ≡ counting (refused m vs) false s store store' → station_call s store work out ≡ turned_away m vs s store work out
          station_far m vs d = station_drains whole_stored ∙ rw d

          pub station_near : (next : Scanner) {after : List ℕ} {n : ℕ} → drain_call s store ≡ counting (accepted next) false s store store' → Stored (acks_in held) out 0 after n
              → station_call s store work out ≡ record { answer = accepted n; scanner = next; store = store'; work = zeros work; out = after }
          station_near next d w = station_drains w ∙ rw d
