-- What an accepted station call has done, when one is refused, and the sizes of `station`. Assumes nothing.
use Prim.Native.Nat.{ℕ, ◌+◌, ◌*◌, ◌/◌, ◌≤◌}
use mathlib.Core.Path.{◌≡◌, refl, sym, ap, ◌∙◌}
use mathlib.Core.Bool.{Bool, true, false}
use mathlib.Core.List.{List, []}
use native.Mathlib.Omega.{arith}
use lib.Dec.{ltb}
use lib.ListN.{length, take as first, drop}
use lib.Seq.{sets}
use borrow.Author.Tests.{ltb-true, ltb-false}
use Rattle.base.specs.Outcome.{Outcome, accepted, refused}
use Rattle.base.specs.Writing.{over, zeros}
use Rattle.base.proofs.LawsWriting.{front}
use Rattle.cutting.specs.declared.deciding.Moved.{Moved}
use Rattle.scanner.specs.Scanner.{GREATEST, too_far, held_of, open_call, push_call}
use Rattle.scanner.specs.declared.scanner.Scanner.{Scanner}
use Rattle.scanner.proofs.LawsScanner.{admitted, counts, counts_not, push_stored, held_length}
use Rattle.draining.specs.Draining.{takes, drain_call, drained_of}
use Rattle.draining.proofs.LawsDraining.{went_by, goes_drained, drained_limit, takes_near, drain_gone}
use Rattle.public.specs.Public.{is_accepted}
use Rattle.masked_log.specs.Counts.{State, opened}
use Rattle.masked_log.proofs.LawsCounts.{Sound, near_gone}
use Rattle.acks.specs.Acks.{StationEffect, acks_in, take_by, station_call}
use Rattle.acks.proofs.LawsAcks.{acks_bound}
use Rattle.acks.proofs.LawsStation.{whole_stored, station_refused, station_short, station_long, station_drains}
use Rattle.listening.specs.Counts.{Call, station, next, next_all}
use Rattle.listening.proofs.LawsListening.{step_counts, sound_run}

-- accepted: the output has the acks of the spans of the held bytes, joined, and state and store are those of takes one after the other until one finds none
pub record Acknowledged (s : Scanner) (store work out : List ℕ) (n : ℕ) (e : StationEffect) : Type 0 where
  pub written : n ≡ length (acks_in (first s.count store))
  pub bytes : e.out ≡ over (acks_in (first s.count store)) out
  pub area : e.work ≡ zeros work
  pub state : e.scanner ≡ (takes s store).scanner
  pub kept : e.store ≡ (takes s store).store
  pub last : (takes s store).answer ≡ accepted false
  -- at most the limit is held then
  pub few : e.scanner.count ≤ s.limit

accepted_is : {m n : ℕ} → ◌≡◌ {A = Outcome ℕ} (accepted (0 + m)) (accepted n) → m ≡ n
accepted_is {m} {n} e = let x : 0 + m ≡ n = cc in omega arith

abbrev pub Told : Scanner → (store work out : List ℕ) → StationEffect → Type 0
Told s store work out e = (n : ℕ) → e.answer ≡ accepted n → Acknowledged s store work out n e

module _ (s : Scanner) (store work out : List ℕ) where
  refusal : {n : ℕ} {vs : List ℕ} {e : StationEffect} → e.answer ≡ refused n vs → Told s store work out e
  refusal {n} {vs} {e} r k a =
      let x : ◌≡◌ {A = Outcome ℕ} (refused n vs) (accepted k) = sym r ∙ a in
      let z : ◌≡◌ {A = ℕ} 0 1 = cc in absurd (omega arith)

  module _ (held : List ℕ) (e : held_of s store ≡ accepted held) where
    abbrev m : Moved
    m = drained_of s.limit held

    abbrev taken : StationEffect
    taken = take_by (drain_call s store).answer (drain_call s store) (0 + length (acks_in held)) work out (sets out 0 (acks_in held))

    by_takes : length (acks_in held) ≤ length out → (t : Bool) → too_far s m ≡ t → Told s store work out taken
    by_takes h true f = refusal {n = 27} {vs = []} (rw (drain_gone s store held e, counts_not s m (length (drop (m.dropped + m.handed) held)) f))
    by_takes h false f =
        let d : drain_call s store ≡ went_by s store held m = drain_gone s store held e ∙ rw (counts s m (length (drop (m.dropped + m.handed) held)) f) in
        let w = takes_near s store held e f in
        rw d (λ n a. record {
          written = sym (accepted_is a) ∙ ap (λ (l : List ℕ). length (acks_in l)) (admitted s store held e).first;
          bytes = front (acks_in held) out h ∙ ap (λ (l : List ℕ). over (acks_in l) out) (admitted s store held e).first;
          area = refl;
          state = rw w;
          kept = rw w;
          last = rw w;
          few = drained_limit s.limit held;
        })

    by_room : (t : Bool) → ltb (length work) (length store) ≡ t → (u : Bool) → ltb (length out) (length (acks_in held)) ≡ u → Told s store work out (station_call s store work out)
    by_room true f u g = refusal {n = 6} {vs = []} (rw (station_short s store work out held e (ltb-true _ _ f)))
    by_room false f true g = refusal {n = 18} {vs = []} (rw (station_long s store work out held e (ltb-false _ _ f) (ltb-true _ _ g)))
    by_room false f false g = rw (station_drains s store work out held e (ltb-false _ _ f) (ltb-false _ _ g) (whole_stored {xs = acks_in held} {out = out})) (by_takes (ltb-false _ _ g) (too_far s m) refl)

  pub acknowledged : Told s store work out (station_call s store work out)
  acknowledged = go (held_of s store) refl
    where
      go : (o : Outcome (List ℕ)) → held_of s store ≡ o → Told s store work out (station_call s store work out)
      go (refused n vs) e = refusal {n = n} {vs = vs} (rw (station_refused s store work out e))
      go (accepted held) e = by_room held e (ltb (length work) (length store)) refl (ltb (length out) (length (acks_in held))) refl

-- from a state in which the counts add up
module _ {limit room : ℕ} (t : State) (i : Sound limit room t) (work out : List ℕ) where
  abbrev call : StationEffect
  call = station_call t.scanner t.store work out

  not_refused : room ≤ length work → 11 * (room / 9) ≤ length out → is_accepted call.answer ≡ true
  not_refused w o =
      let s = t.scanner in
      let held = i.held in
      let e = i.has.bytes in
      let m = drained_of s.limit held in
      let within = goes_drained s.limit held in
      let near = near_gone s t.store held i.has i.balanced m within.0 within.1 in
      let fits : length (acks_in held) ≤ length out = omega (arith, acks_bound held, held_length s t.store held e, (admitted s t.store held e).fits, i.has.long) in
      rw (station_drains s t.store work out held e (omega (arith, i.has.long)) fits (whole_stored {xs = acks_in held} {out = out}), drain_gone s t.store held e, counts s m (length (drop (m.dropped + m.handed) held)) near)

  stores : (n : ℕ) → call.answer ≡ accepted n → (piece : List ℕ) → limit + length piece ≤ room
      → let u = next t (station work out) in u.scanner.pushed + length piece ≤ GREATEST → (push_call u.scanner u.store piece).answer ≡ accepted tt
  stores n a piece h g =
      let u = next t (station work out) in
      let j = (step_counts t i (station work out)).0 in
      push_stored u.scanner u.store j.held piece j.has.bytes
      (omega (arith, (acknowledged t.scanner t.store work out n a).few, i.has.same, j.has.long))
      (record { pushed = g; handed = omega (arith, j.balanced.most, j.balanced.sum); dropped = omega (arith, j.balanced.most, j.balanced.sum) })

-- after every list of calls from an accepted opening
module _ (limit : ℕ) (store : List ℕ) (fresh : (open_call limit store).answer ≡ accepted tt) (calls : List Call) (work out : List ℕ) where
  abbrev pub after : State
  after = next_all (opened limit store) calls

  abbrev pub answered : StationEffect
  answered = station_call after.scanner after.store work out

  -- lent a work area as long as the store, and 11 bytes of output for each 9 of the store, a station call is not refused
  pub never_refused : length store ≤ length work → 11 * (length store / 9) ≤ length out → is_accepted answered.answer ≡ true
  never_refused = not_refused after (sound_run limit store fresh calls) work out

  -- behind one that is not refused a piece is stored that is no longer than the store less the limit, while the bytes can be counted
  pub piece_stored : (n : ℕ) → answered.answer ≡ accepted n → (piece : List ℕ) → limit + length piece ≤ length store
      → let u = next after (station work out) in u.scanner.pushed + length piece ≤ GREATEST → (push_call u.scanner u.store piece).answer ≡ accepted tt
  piece_stored = stores after (sound_run limit store fresh calls) work out

-- "sizes and pieces as `outlog`'s. An output of 15,015 bytes (11 for each 9 of the store) never meets 18"
module _ (store : List ℕ) (size : length store ≡ 12288) (calls : List Call) (work out : List ℕ) where
  pub opens : (open_call 8192 store).answer ≡ accepted tt
  unfolding open_call held_of
  opens = rw size

  pub station_answers : length work ≡ 12288 → length out ≡ 15015 → is_accepted (answered 8192 store opens calls work out).answer ≡ true
  station_answers w o = never_refused 8192 store opens calls work out (omega arith) (omega arith)
