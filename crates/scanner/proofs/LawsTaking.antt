-- What a take comes to once 1 to 3 do not apply, and how it agrees with push.
use Prim.Native.Nat.{ℕ, ◌+◌, ◌≤◌, ◌<◌}
use mathlib.Core.Path.{◌≡◌, refl}
use mathlib.Core.Bool.{Bool, true, false}
use mathlib.Core.List.{List, [], ◌∷◌}
use native.Mathlib.Omega.{arith}
use lib.ListN.{length}
use Rattle.base.specs.Outcome.{Outcome, accepted, refused}
use Rattle.held.specs.Going.{let_go}
use Rattle.cutting.specs.Cutting.{taken_of, moved_of, goes_of, keeps_of, is_span, cut_of}
use Rattle.cutting.specs.declared.deciding.Cut.{Cut}
use Rattle.cutting.specs.declared.deciding.Moved.{Moved}
use Rattle.cutting.proofs.LawsCutting.{goes_within, keeps_limit}
use Rattle.scanner.specs.Scanner.{Effect, holding, GREATEST, too_far, refuses, held_of, gone, push_call}
use Rattle.scanner.specs.Taking.{take_call}
use Rattle.scanner.specs.declared.scanner.Scanner.{Scanner}
use Rattle.scanner.proofs.LawsScanner.{admitted, near_fits, counts, counts_not, push_stored, held_length, gone_length, held_gone}

module _ (s : Scanner) (store held : List ℕ) (e : held_of s store ≡ accepted held) where
  -- in the code's terms
  module _ (cut : Cut) (m : Moved) (c : cut ≡ cut_of s.limit held) (f : m ≡ record { pushed = 0; handed = cut.handed; dropped = cut.dropped }) where
    pub take_gone : take_call s store ≡ gone cut.span s held store m
    unfolding take_call
    take_gone = rw (e, f, c)

    pub take_within : m.dropped + m.handed ≤ s.count
    take_within = rw (f, c) (omega (arith, goes_within s.limit held, held_length s store held e))

  -- 27, or what goes is counted
  pub take_far : too_far s (moved_of s.limit held) ≡ true → take_call s store ≡ refuses 27 [] s store
  unfolding take_call
  take_far f = rw (e, counts_not s (moved_of s.limit held) (length (keeps_of s.limit held)) f)

  module _ (near : too_far s (moved_of s.limit held) ≡ false) where
    pub take_near : take_call s store
        ≡ record { answer = accepted (is_span (taken_of s.limit held).span); scanner = holding s (length (keeps_of s.limit held)) (moved_of s.limit held); store = let_go held (goes_of s.limit held) store }
    unfolding take_call
    take_near = rw (e, counts s (moved_of s.limit held) (length (keeps_of s.limit held)) near)

    -- what stays is held
    pub taken_length : length (take_call s store).store ≡ length store
    taken_length = rw take_near (gone_length s store held e (goes_of s.limit held))

    pub held_taken : held_of (take_call s store).scanner (take_call s store).store ≡ accepted (keeps_of s.limit held)
    held_taken = rw take_near (held_gone s store held e (goes_of s.limit held) (moved_of s.limit held))

-- after a take that finds no span, at most the limit is held, and a push of one byte is not refused unless the pushed count is full
module _ (s : Scanner) (store : List ℕ) where
  abbrev Roomy : Effect Bool → Type 0
  Roomy e = (e.scanner.count ≤ s.limit) × ((b : ℕ) → e.scanner.pushed < GREATEST → (push_call e.scanner e.store (b ∷ [])).answer ≡ accepted tt)

  roomy : (held : List ℕ) → held_of s store ≡ accepted held → too_far s (moved_of s.limit held) ≡ false → is_span (taken_of s.limit held).span ≡ false → Roomy (take_call s store)
  roomy held e near n =
      let few = keeps_limit s.limit held n in
      let f = near_fits s (moved_of s.limit held) near in
      rw (take_near s store held e near) (
        few,
        λ b g.
            push_stored (holding s (length (keeps_of s.limit held)) (moved_of s.limit held)) (let_go held (goes_of s.limit held) store) (keeps_of s.limit held) (b ∷ [])
            (held_gone s store held e (goes_of s.limit held) (moved_of s.limit held))
            (omega (arith, few, gone_length s store held e (goes_of s.limit held), (admitted s store held e).room))
            (record { pushed = omega (arith, g); handed = omega (arith, f.handed); dropped = omega (arith, f.dropped) }),
      )

  pub take_refused : {n : ℕ} {vs : List ℕ} → held_of s store ≡ refused n vs → take_call s store ≡ refuses n vs s store
  unfolding take_call
  take_refused e = rw e

  pub take_nothing : (take_call s store).answer ≡ accepted false → Roomy (take_call s store)
  take_nothing = go (held_of s store) refl
    where
      near : (held : List ℕ) → held_of s store ≡ accepted held → (t : Bool) → too_far s (moved_of s.limit held) ≡ t → (take_call s store).answer ≡ accepted false → Roomy (take_call s store)
      near held e true h f =
          let g : ◌≡◌ {A = Outcome Bool} (refused 27 []) (accepted false) = rw (take_far s store held e h) at f in
          let z : ◌≡◌ {A = ℕ} 0 1 = cc in absurd (omega arith)
      near held e false h f =
          let g : ◌≡◌ {A = Outcome Bool} (accepted (is_span (taken_of s.limit held).span)) (accepted false) = rw (take_near s store held e h) at f in
          roomy held e h cc

      go : (o : Outcome (List ℕ)) → held_of s store ≡ o → (take_call s store).answer ≡ accepted false → Roomy (take_call s store)
      go (refused n vs) e f =
          let g : ◌≡◌ {A = Outcome Bool} (refused n vs) (accepted false) = rw (take_refused e) at f in
          let z : ◌≡◌ {A = ℕ} 0 1 = cc in absurd (omega arith)
      go (accepted held) e f = near held e (too_far s (moved_of s.limit held)) refl f
