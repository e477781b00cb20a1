-- What a station call answers here: no more bytes than the output has, and never 18. Assumes nothing.
use Prim.Native.Nat.{ℕ, ◌+◌, ◌≤◌}
use mathlib.Core.Path.{◌≡◌, refl, ◌∙◌}
use mathlib.Core.Bool.{Bool, true, false}
use mathlib.Core.List.{List, []}
use native.Mathlib.Omega.{arith}
use lib.Dec.{ltb}
use lib.ListN.{length, drop}
use borrow.Author.Tests.{ltb-true, ltb-false}
use Rattle.base.specs.Outcome.{Outcome, accepted, refused, pick}
use Rattle.base.specs.Refusal.{number_of}
use Rattle.base.specs.declared.refusal.Refusal.{Refusal}
use Rattle.held.specs.Going.{let_go}
use Rattle.cutting.specs.declared.deciding.Moved.{Moved}
use Rattle.scanner.specs.Scanner.{holding, too_far, counting, held_of}
use Rattle.scanner.specs.declared.scanner.Scanner.{Scanner}
use Rattle.scanner.proofs.LawsScanner.{admitted, counts, counts_not, held_length}
use Rattle.draining.specs.Draining.{drain_call, drained_of}
use Rattle.draining.proofs.LawsDraining.{drain_gone}
use Rattle.acks.specs.Acks.{acks_in, station_call}
use Rattle.acks.proofs.LawsAcks.{acks_bound}
use Rattle.acks.proofs.LawsStation.{whole_stored, station_refused, station_short, station_far, station_near}
use Rattle.std.specs.Prelude.{Result, Ok, Err}
use Rattle.base.specs.Refusal.{outcome_of}

-- a scanner and its store are refused by 1 to 3
abbrev Low : Outcome (List ℕ) → Type 0
Low (accepted held) = Unit {0}
Low (refused n vs) = n ≤ 3

held_low : (s : Scanner) (store : List ℕ) → Low (held_of s store)
unfolding held_of
held_low s store = go (ltb s.limit 9) (ltb 65536 s.limit) (ltb (length store) (s.limit + 1)) (ltb (length store) s.count) _
  where
    go : (t u v w : Bool) (held : List ℕ) → Low (pick t (refused 1 []) (pick u (refused 1 []) (pick v (refused 2 []) (pick w (refused 3 []) (accepted held)))))
    go true u v w held = omega arith
    go false true v w held = omega arith
    go false false true w held = omega arith
    go false false false true held = omega arith
    go false false false false held = tt

abbrev Answers : List ℕ → Outcome ℕ → Type 0
Answers out (accepted n) = n ≤ length out
Answers out (refused n vs) = ¬ (n ≡ 18)

module _ (s : Scanner) (store work out : List ℕ) (few : length store ≤ 12288) (room : 15015 ≤ length out) where
  -- past 1 to 3 and 6: the acks fit, and 27 is left
  module _ (held : List ℕ) (e : held_of s store ≡ accepted held) (h : length store ≤ length work) where
    abbrev m : Moved
    m = drained_of s.limit held

    abbrev after : List ℕ
    after = let_go held (m.dropped + m.handed) store

    fits : length (acks_in held) ≤ length out
    fits = omega (arith, acks_bound held, held_length s store held e, (admitted s store held e).fits)

    answers_held : Answers out (station_call s store work out).answer
    answers_held = go (too_far s m) refl
      where
        go : (t : Bool) → too_far s m ≡ t → Answers out (station_call s store work out).answer
        go true f = rw (station_far s store work out held e h fits after 27 [] (drain_gone s store held e ∙ rw (counts_not s m (length (drop (m.dropped + m.handed) held)) f))) (λ z. omega (arith, z))
        go false f =
            let d : drain_call s store ≡ counting (accepted (holding s (length (drop (m.dropped + m.handed) held)) m)) false s store after = drain_gone s store held e ∙ rw (counts s m (length (drop (m.dropped + m.handed) held)) f) in
            rw (station_near s store work out held e h fits after _ d (whole_stored {xs = acks_in held} {out = out})) (omega (arith, fits))

  answers : Answers out (station_call s store work out).answer
  answers = go (held_of s store) refl (held_low s store)
    where
      tried : (held : List ℕ) → held_of s store ≡ accepted held → (t : Bool) → ltb (length work) (length store) ≡ t → Answers out (station_call s store work out).answer
      tried held e true f = rw (station_short s store work out held e (ltb-true _ _ f)) (λ z. omega (arith, z))
      tried held e false f = answers_held held e (ltb-false _ _ f)

      go : (o : Outcome (List ℕ)) → held_of s store ≡ o → Low (held_of s store) → Answers out (station_call s store work out).answer
      go (refused n vs) e l = let k : n ≤ 3 = rw e at l in rw (station_refused s store work out e) (λ z. omega (arith, z, k))
      go (accepted held) e l = tried held e (ltb (length work) (length store)) refl

  -- in the code's terms
  module _ {a : (Result ℕ Refusal)} (told : outcome_of a ≡ (station_call s store work out).answer) where
    pub acks_within : {n : ℕ} → a ≡ Ok n → n ≤ length out
    acks_within is = rw (← told, is) at answers

    pub never_18 : {r : Refusal} → a ≡ Err r → ¬ (number_of r ≡ 18)
    never_18 is = rw (← told, is) at answers
