-- Takes until one finds no span come to one move, or to 27, and how the loop over them goes. Assumes nothing.
use Prim.Native.Nat.{ℕ, zero, suc, ◌+◌, ◌-◌, ◌≤◌, ◌<◌}
use mathlib.Core.Path.{◌≡◌, refl, sym, ap, ◌∙◌}
use mathlib.Core.Bool.{Bool, true, false}
use mathlib.Core.List.{List, [], ◌∷◌}
use native.Mathlib.Nat.{zero-add, add_assoc}
use native.Mathlib.Omega.{arith}
use lib.ListN.{length, take, drop, length-drop}
use lib.Seq.{drop-drop}
use Rattle.base.specs.Outcome.{Outcome, accepted, refused}
use Rattle.held.specs.Going.{let_go}
use Rattle.held.specs.Search.{Seen, no_start, no_end, both, seen}
use Rattle.held.proofs.LawsSearch.{Sees, sees, span_length}
use Rattle.cutting.specs.Cutting.{taken_by, taken_of, moved_of, goes_of, keeps_of, is_span, plus, cut_of}
use Rattle.cutting.specs.declared.deciding.Cut.{Cut}
use Rattle.std.proofs.lemmas.List.{take_rest}
use Rattle.cutting.specs.declared.deciding.Moved.{Moved}
use Rattle.cutting.proofs.LawsCutting.{goes_within, keeps_by, keeps_seen, keeps_limit}
use Rattle.scanner.specs.Scanner.{Effect, holding, too_far, refuses, counted_of, counting, held_of, gone}
use Rattle.scanner.specs.Taking.{take_call}
use Rattle.scanner.specs.declared.scanner.Scanner.{Scanner}
use Rattle.scanner.proofs.LawsScanner.{fits_near, near_fits, counts, counts_not, held_length, gone_length, held_gone}
use Rattle.scanner.proofs.LawsTaking.{take_far, take_near, take_refused}
use Rattle.draining.specs.Draining.{takes_by, takes_from, takes, drain_by, drain_call, drained_by, drained_from, drained_of}
use Rattle.std.specs.Prelude.{Option, Some, None}

-- a span that goes leaves fewer bytes
pub span_shorter : (limit : ℕ) (held : List ℕ) {span : List ℕ} → (taken_of limit held).span ≡ Some span → length (keeps_of limit held) < length held
unfolding taken_of
span_shorter limit held {span} e = rw (keeps_seen limit held) (go (seen held) (sees held) e)
  where
    go : (x : Seen) → Sees held x → (taken_by limit (length held) x).span ≡ Some span → length (keeps_by limit x) < length held
    go no_start f e = let z : ◌≡◌ {A = ℕ} 0 1 = cc in absurd (omega arith)
    go (no_end before rest) f e = let z : ◌≡◌ {A = ℕ} 0 1 = cc in absurd (omega arith)
    go (both before between rest) f e = omega (arith, ap length f.0, span_length before between rest)

-- of no bytes no span goes
no_span : (limit : ℕ) → (taken_of limit []).span ≡ None
unfolding taken_of seen
no_span limit = refl

-- they stay within the held bytes, and push nothing
drained_within : (n limit : ℕ) (held : List ℕ) → let m = drained_from n limit held in (m.pushed ≡ 0) × (m.dropped + m.handed ≤ length held)
drained_within zero limit held = (refl, goes_within limit held)
drained_within (suc n) limit held = go (taken_of limit held).span (drained_within n limit (keeps_of limit held))
  where
    go : (o : Option (List ℕ)) → (let m = drained_from n limit (keeps_of limit held) in (m.pushed ≡ 0) × (m.dropped + m.handed ≤ length (keeps_of limit held)))
        → let m = drained_by o (moved_of limit held) (drained_from n limit (keeps_of limit held)) in (m.pushed ≡ 0) × (m.dropped + m.handed ≤ length held)
    go None k = (refl, omega (arith, goes_within limit held))
    go (Some span) k = (omega (arith, k.0), omega (arith, k.1, goes_within limit held, length-drop (goes_of limit held) held))

pub goes_drained : (limit : ℕ) (held : List ℕ) → let m = drained_of limit held in (m.pushed ≡ 0) × (m.dropped + m.handed ≤ length held)
unfolding drained_of
goes_drained limit held = drained_within (length held) limit held

-- and leave at most the limit
drained_keeps : (n limit : ℕ) (held : List ℕ) → length held ≤ n → let m = drained_from n limit held in length (drop (m.dropped + m.handed) held) ≤ limit
drained_keeps zero limit [] h = keeps_limit limit [] (ap is_span (no_span limit))
drained_keeps zero limit (x ∷ held) h = absurd (omega arith)
drained_keeps (suc n) limit held h = go (taken_of limit held).span refl (drained_keeps n limit (keeps_of limit held))
  where
    go : (o : Option (List ℕ)) → (taken_of limit held).span ≡ o
        → (length (keeps_of limit held) ≤ n → let m = drained_from n limit (keeps_of limit held) in length (drop (m.dropped + m.handed) (keeps_of limit held)) ≤ limit)
        → let m = drained_by o (moved_of limit held) (drained_from n limit (keeps_of limit held)) in length (drop (m.dropped + m.handed) held) ≤ limit
    go None e k = keeps_limit limit held (ap is_span e)
    go (Some span) e k =
        let b = drained_from n limit (keeps_of limit held) in
        omega (arith, k (omega (arith, span_shorter limit held e)), length-drop (b.dropped + b.handed) (keeps_of limit held), length-drop (goes_of limit held) held, length-drop ((moved_of limit held).dropped + b.dropped + ((moved_of limit held).handed + b.handed)) held)

pub drained_limit : (limit : ℕ) (held : List ℕ) → let m = drained_of limit held in length (drop (m.dropped + m.handed) held) ≤ limit
unfolding drained_of
drained_limit limit held = drained_keeps (length held) limit held (omega arith)

-- what goes by one call and then by another
module _ (s : Scanner) (a b : Moved) where
  far_more : too_far s a ≡ true → too_far s (plus a b) ≡ true
  far_more e = go (too_far s (plus a b)) refl
    where
      go : (t : Bool) → too_far s (plus a b) ≡ t → t ≡ true
      go true f = refl
      go false f =
          let k = near_fits s (plus a b) f in
          let n : too_far s a ≡ false = fits_near s a (record { pushed = omega (arith, k.pushed); handed = omega (arith, k.handed); dropped = omega (arith, k.dropped) }) in
          let z : ◌≡◌ {A = ℕ} 0 1 = cc in absurd (omega arith)

  far_then : (n : ℕ) → too_far s (plus a b) ≡ too_far (holding s n a) b
  unfolding too_far
  far_then n = rw (add_assoc s.pushed a.pushed b.pushed, add_assoc s.handed a.handed b.handed, add_assoc s.dropped a.dropped b.dropped)

  holding_then : (n k : ℕ) → holding (holding s n a) k b ≡ holding s k (plus a b)
  holding_then n k = rw (add_assoc s.pushed a.pushed b.pushed, add_assoc s.handed a.handed b.handed, add_assoc s.dropped a.dropped b.dropped)

-- so many of the held bytes have gone, and what was moved is counted
abbrev pub went_by : Scanner → (store held : List ℕ) → Moved → Effect Bool
went_by s store held m =
    let n = m.dropped + m.handed in
    record { answer = accepted false; scanner = holding s (length (drop n held)) m; store = let_go held n store }

-- what the takes come to, by whether a count would go too far
abbrev Ends : Scanner → (store held : List ℕ) → Moved → Effect Bool → Bool → Type 0
Ends s store held m e true = e.answer ≡ refused 27 []
Ends s store held m e false = e ≡ went_by s store held m

-- one take that hands over no span
ends_take : (s : Scanner) (store held : List ℕ) → held_of s store ≡ accepted held → is_span (taken_of s.limit held).span ≡ false
    → Ends s store held (moved_of s.limit held) (take_call s store) (too_far s (moved_of s.limit held))
ends_take s store held e q = go (too_far s (moved_of s.limit held)) refl
  where
    go : (t : Bool) → too_far s (moved_of s.limit held) ≡ t → Ends s store held (moved_of s.limit held) (take_call s store) t
    go true f = rw (take_far s store held e f)
    go false f = rw (take_near s store held e f, q)

-- behind it there is none
stops : (n : ℕ) (s : Scanner) (store held : List ℕ) → held_of s store ≡ accepted held → is_span (taken_of s.limit held).span ≡ false → takes_from (suc n) s store ≡ take_call s store
stops n s store held e q = go (too_far s (moved_of s.limit held)) refl
  where
    go : (t : Bool) → too_far s (moved_of s.limit held) ≡ t → takes_from (suc n) s store ≡ take_call s store
    go true f = rw (take_far s store held e f)
    go false f = rw (take_near s store held e f, q)

abbrev Drains : ℕ → Type 0
Drains n = (s : Scanner) (store held : List ℕ) → held_of s store ≡ accepted held → length held ≤ n
    → let m = drained_from n s.limit held in Ends s store held m (takes_from n s store) (too_far s m)

-- a take that hands over a span, and those behind it
module _ (n : ℕ) (ih : Drains n) (s : Scanner) (store held : List ℕ) (e : held_of s store ≡ accepted held) (h : length (keeps_of s.limit held) ≤ n) (q : is_span (taken_of s.limit held).span ≡ true) where
  abbrev a : Moved
  a = moved_of s.limit held

  abbrev b : Moved
  b = drained_from n s.limit (keeps_of s.limit held)

  abbrev keeps : List ℕ
  keeps = keeps_of s.limit held

  abbrev on : Effect Bool → Effect Bool
  on t = takes_by t.answer t (takes_from n t.scanner t.store)

  further : (t : Bool) → Ends (holding s (length keeps) a) (let_go held (goes_of s.limit held) store) keeps b (takes_from n (holding s (length keeps) a) (let_go held (goes_of s.limit held) store)) t
      → Ends s store held (plus a b) (takes_from n (holding s (length keeps) a) (let_go held (goes_of s.limit held) store)) t
  further true k = k
  further false k =
      let i : goes_of s.limit held + (b.dropped + b.handed) ≡ a.dropped + b.dropped + (a.handed + b.handed) = omega arith in
      let d : drop (b.dropped + b.handed) keeps ≡ drop (a.dropped + b.dropped + (a.handed + b.handed)) held = drop-drop (b.dropped + b.handed) (goes_of s.limit held) held ∙ ap (λ (j : ℕ). drop j held) i in
      k ∙ rw (d, gone_length s store held e (goes_of s.limit held), holding_then s a b (length keeps) (length (drop (a.dropped + b.dropped + (a.handed + b.handed)) held)))

  behind : Ends s store held (plus a b) (on (take_call s store)) (too_far s (plus a b))
  behind = go (too_far s a) refl
    where
      go : (t : Bool) → too_far s a ≡ t → Ends s store held (plus a b) (on (take_call s store)) (too_far s (plus a b))
      go true f = rw (far_more s a b f, take_far s store held e f)
      go false f =
          rw (take_near s store held e f, q, far_then s a b (length keeps))
          (further (too_far (holding s (length keeps) a) b) (ih (holding s (length keeps) a) (let_go held (goes_of s.limit held) store) keeps (held_gone s store held e (goes_of s.limit held) a) h))

drains : (n : ℕ) → Drains n
drains zero s store [] e h = ends_take s store [] e (ap is_span (no_span s.limit))
drains zero s store (x ∷ held) e h = absurd (omega arith)
drains (suc n) s store held e h = go (taken_of s.limit held).span refl (drains n)
  where
    go : (o : Option (List ℕ)) → (taken_of s.limit held).span ≡ o → Drains n
        → let m = drained_by o (moved_of s.limit held) (drained_from n s.limit (keeps_of s.limit held)) in Ends s store held m (takes_from (suc n) s store) (too_far s m)
    go None q ih = rw (stops n s store held e (ap is_span q)) (ends_take s store held e (ap is_span q))
    go (Some span) q ih = behind n ih s store held e (omega (arith, span_shorter s.limit held q)) (ap is_span q)

-- past 1 to 3: 27, or all of them at once
module _ (s : Scanner) (store held : List ℕ) (e : held_of s store ≡ accepted held) where
  ends : let m = drained_of s.limit held in Ends s store held m (takes s store) (too_far s m)
  unfolding takes drained_of
  ends = rw (held_length s store held e) (drains s.count s store held e (omega (arith, held_length s store held e)))

  pub takes_far : too_far s (drained_of s.limit held) ≡ true → (takes s store).answer ≡ refused 27 []
  takes_far f = rw f at ends

  pub takes_near : too_far s (drained_of s.limit held) ≡ false → takes s store ≡ went_by s store held (drained_of s.limit held)
  takes_near f = rw f at ends

  -- with room in the counts none is refused, and all are done
  pub drain_near : too_far s (drained_of s.limit held) ≡ false → drain_call s store ≡ takes s store
  unfolding drain_call
  drain_near f = rw (takes_near f)

  -- they are one call that lets go what they move together
  pub drain_gone : drain_call s store ≡ gone false s held store (drained_of s.limit held)
  unfolding drain_call
  drain_gone = go (too_far s (drained_of s.limit held)) refl
    where
      go : (t : Bool) → too_far s (drained_of s.limit held) ≡ t → drain_by (takes s store).answer (takes s store) s store ≡ gone false s held store (drained_of s.limit held)
      go true f = rw (takes_far f, counts_not s (drained_of s.limit held) _ f)
      go false f = rw (takes_near f, counts s (drained_of s.limit held) _ f)

  -- in the code's terms
  module _ (m : Moved) (is : m ≡ drained_of s.limit held) where
    pub goes_held : m.dropped + m.handed ≤ s.count
    goes_held = rw is (omega (arith, (goes_drained s.limit held).1, held_length s store held e))

    pub drain_counted : (o : Outcome Scanner) → o ≡ counted_of s (s.count - (m.dropped + m.handed)) m → drain_call s store ≡ counting o false s store (let_go held (m.dropped + m.handed) store)
    drain_counted o told =
        let n : length (drop (m.dropped + m.handed) held) ≡ s.count - (m.dropped + m.handed) = length-drop (m.dropped + m.handed) held ∙ ap (λ (k : ℕ). k - (m.dropped + m.handed)) (held_length s store held e) in
        drain_gone ∙ rw (← is, n, told)

module _ (s : Scanner) (store : List ℕ) {n : ℕ} {vs : List ℕ} (e : held_of s store ≡ refused n vs) where
  pub takes_refused : takes s store ≡ refuses n vs s store
  unfolding takes
  takes_refused = go s.count
    where
      go : (k : ℕ) → takes_from k s store ≡ refuses n vs s store
      go zero = take_refused s store e
      go (suc k) = rw (take_refused s store e)

  pub drain_refused : drain_call s store ≡ refuses n vs s store
  unfolding drain_call
  drain_refused = rw takes_refused

-- the loop: what is left, on top of what was passed, is the whole
abbrev pub passed : (dropped handed : ℕ) → Moved
passed dropped handed = record { pushed = 0; handed = handed; dropped = dropped }

abbrev pub Going : (limit : ℕ) (held : List ℕ) (dropped handed : ℕ) → Type 0
Going limit held dropped handed =
    (k : ℕ) × (length held ≤ dropped + handed + k) × (drained_from (length held) limit held ≡ plus (passed dropped handed) (drained_from k limit (drop (dropped + handed) held)))

pub going_first : (limit : ℕ) (held : List ℕ) → Going limit held 0 0
going_first limit held = (length held, omega arith, simp zero-add)

module _ (limit : ℕ) (held : List ℕ) (dropped handed : ℕ) (h : dropped + handed ≤ length held) where
  abbrev pub left : List ℕ
  left = drop (dropped + handed) held

  pub cut_within : dropped + (moved_of limit left).dropped + (handed + (moved_of limit left).handed) ≤ length held
  cut_within = omega (arith, goes_within limit left, length-drop (dropped + handed) held)

  pub going_ends : is_span (taken_of limit left).span ≡ false → Going limit held dropped handed → passed (dropped + (moved_of limit left).dropped) (handed + (moved_of limit left).handed) ≡ drained_of limit held
  unfolding drained_of
  going_ends q g = go (taken_of limit left).span refl q g.0 g.2
    where
      go : (o : Option (List ℕ)) → (taken_of limit left).span ≡ o → is_span o ≡ false → (k : ℕ) → drained_from (length held) limit held ≡ plus (passed dropped handed) (drained_from k limit left)
          → passed (dropped + (moved_of limit left).dropped) (handed + (moved_of limit left).handed) ≡ drained_from (length held) limit held
      go o f q zero w = sym w
      go None f q (suc k) w = sym (w ∙ ap (λ (o : Option (List ℕ)). plus (passed dropped handed) (drained_by o (moved_of limit left) (drained_from k limit (keeps_of limit left)))) f)
      go (Some span) f q (suc k) w = let z : ◌≡◌ {A = ℕ} 0 1 = cc in absurd (omega arith)

  pub going_on : is_span (taken_of limit left).span ≡ true → Going limit held dropped handed
      → (dropped + handed < dropped + (moved_of limit left).dropped + (handed + (moved_of limit left).handed)) × Going limit held (dropped + (moved_of limit left).dropped) (handed + (moved_of limit left).handed)
  going_on q g = go (taken_of limit left).span refl q g.0 g.1 g.2
    where
      go : (o : Option (List ℕ)) → (taken_of limit left).span ≡ o → is_span o ≡ true → (k : ℕ) → length held ≤ dropped + handed + k
          → drained_from (length held) limit held ≡ plus (passed dropped handed) (drained_from k limit left)
          → (dropped + handed < dropped + (moved_of limit left).dropped + (handed + (moved_of limit left).handed)) × Going limit held (dropped + (moved_of limit left).dropped) (handed + (moved_of limit left).handed)
      go None f q k l w = let z : ◌≡◌ {A = ℕ} 0 1 = cc in absurd (omega arith)
      go (Some span) f q zero l w = absurd (omega (arith, span_shorter limit left f, length-drop (dropped + handed) held))
      go (Some span) f q (suc k) l w =
          let n = (moved_of limit left).dropped + (moved_of limit left).handed in
          let shorter : length (drop n left) < length left = span_shorter limit left f in
          let some_go : 0 < n = omega (arith, length-drop n left) in
          let i : dropped + handed + n ≡ dropped + (moved_of limit left).dropped + (handed + (moved_of limit left).handed) = omega arith in
          let d : keeps_of limit left ≡ drop (dropped + (moved_of limit left).dropped + (handed + (moved_of limit left).handed)) held = drop-drop n (dropped + handed) held ∙ ap (λ (j : ℕ). drop j held) i in
          let v : drained_from (length held) limit held ≡ plus (passed dropped handed) (plus (moved_of limit left) (drained_from k limit (keeps_of limit left))) = w ∙ ap (λ (o : Option (List ℕ)). plus (passed dropped handed) (drained_by o (moved_of limit left) (drained_from k limit (keeps_of limit left)))) f in (
            omega arith,
            (k, omega arith, v ∙ rw (← d, zero-add (0 + (drained_from k limit (keeps_of limit left)).pushed), add_assoc handed (moved_of limit left).handed (drained_from k limit (keeps_of limit left)).handed, add_assoc dropped (moved_of limit left).dropped (drained_from k limit (keeps_of limit left)).dropped)),
          )

-- the cut, by the bytes behind what was passed
module _ (limit : ℕ) (held : List ℕ) (dropped handed : ℕ) (h : dropped + handed ≤ length held) (x : Cut) (e : x ≡ cut_of limit (take (length held - (dropped + handed)) (drop (dropped + handed) held))) where
  cut : x ≡ cut_of limit (drop (dropped + handed) held)
  cut = rw (take_rest held (dropped + handed)) at e

  pub cut_fits : dropped + x.dropped + (handed + x.handed) ≤ length held
  cut_fits = rw cut (cut_within limit held dropped handed h)

  pub cut_last : x.span ≡ false → Going limit held dropped handed → passed (dropped + x.dropped) (handed + x.handed) ≡ drained_of limit held
  cut_last q g = rw cut (going_ends limit held dropped handed h (rw cut at q) g)

  further_on : x.span ≡ true → Going limit held dropped handed → (dropped + handed < dropped + x.dropped + (handed + x.handed)) × Going limit held (dropped + x.dropped) (handed + x.handed)
  further_on q g = rw cut (going_on limit held dropped handed h (rw cut at q) g)

  pub cut_goes : x.span ≡ true → Going limit held dropped handed → dropped + handed < dropped + x.dropped + (handed + x.handed)
  cut_goes q g = (further_on q g).0

  pub cut_on : x.span ≡ true → Going limit held dropped handed → Going limit held (dropped + x.dropped) (handed + x.handed)
  cut_on q g = (further_on q g).1

pub ruleset cuts = (going_first, cut_fits, cut_last, cut_goes, cut_on)
