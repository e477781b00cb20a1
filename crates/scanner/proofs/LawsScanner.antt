-- What is known once 1 to 3 do not apply, and what the calls leave held.
use Prim.Native.Nat.{ℕ, ◌+◌, ◌-◌, ◌≤◌, ◌<◌}
use mathlib.Core.Path.{◌≡◌, refl, sym, ap, ◌∙◌}
use mathlib.Core.Bool.{Bool, true, false}
use mathlib.Core.List.{List, [], ◌++◌}
use native.Mathlib.Omega.{arith}
use lib.Dec.{ltb}
use native.Mathlib.Numerals.{add-one}
use lib.ListN.{length, get_or, take, drop, set, replicate, length-append, length-drop, length-replicate}
use lib.Seq.{take_at, length-take-le, paste, paste-suc}
use borrow.Author.Tests.{ltb-false, lt-ltb, le-ltb}
use Rattle.base.specs.Outcome.{Outcome, accepted, refused, pick, on_accepted, and_then}
use Rattle.held.specs.Going.{let_go}
use Rattle.held.proofs.LawsGoing.{zeroed_length}
use Rattle.scanner.specs.Scanner.{Effect, fresh, holding, GREATEST, too_far, counted_of, refuses, counting, held_of, open_by, open_call, pushing, push_call, checked_told}
use Rattle.scanner.specs.declared.scanner.Scanner.{Scanner}
use Rattle.cutting.specs.declared.deciding.Moved.{Moved}
use Rattle.std.specs.Prelude.{Result, Ok, Err, is_ok}
use Rattle.base.specs.Refusal.{outcome_of}
use Rattle.base.specs.declared.refusal.Refusal.{Refusal}

pub record Admitted (s : Scanner) (store held : List ℕ) : Type 0 where
  pub low : 9 ≤ s.limit
  pub high : s.limit ≤ 65536
  pub room : s.limit + 1 ≤ length store
  pub fits : s.count ≤ length store
  pub first : held ≡ take s.count store

abbrev pub Admits : Scanner → List ℕ → Outcome (List ℕ) → Type 0
Admits s store (refused n vs) = Unit {0}
Admits s store (accepted held) = Admitted s store held

pub held_admits : (s : Scanner) (store : List ℕ) → Admits s store (held_of s store)
unfolding held_of
held_admits s store = go (ltb s.limit 9) refl (ltb 65536 s.limit) refl (ltb (length store) (s.limit + 1)) refl (ltb (length store) s.count) refl
  where
    go : (t : Bool) → ltb s.limit 9 ≡ t → (u : Bool) → ltb 65536 s.limit ≡ u → (v : Bool) → ltb (length store) (s.limit + 1) ≡ v → (w : Bool) → ltb (length store) s.count ≡ w
        → Admits s store (pick t (refused 1 []) (pick u (refused 1 []) (pick v (refused 2 []) (pick w (refused 3 []) (accepted (take s.count store))))))
    go true a u b v c w d = tt
    go false a true b v c w d = tt
    go false a false b true c w d = tt
    go false a false b false c true d = tt
    go false a false b false c false d =
        record { low = omega (arith, ltb-false); high = omega (arith, ltb-false); room = omega (arith, ltb-false); fits = omega (arith, ltb-false); first = refl }

pub admitted : (s : Scanner) (store held : List ℕ) → held_of s store ≡ accepted held → Admitted s store held
admitted s store held e = rw e at (held_admits s store)

-- the code's checks have passed
pub held_fits : (s : Scanner) (store held : List ℕ) → accepted held ≡ held_of s store → s.count ≤ length store
held_fits s store held e = (admitted s store held (sym e)).fits

pub held_count : (s : Scanner) (store held : List ℕ) → accepted held ≡ held_of s store → s.count ≡ length (take s.count store)
held_count s store held e = sym (length-take-le s.count store (held_fits s store held e))

pub ruleset held_known = (held_fits, held_count)

pub passed : (s : Scanner) (store held : List ℕ) (x : Result (Unit {0}) Refusal) → checked_told x held ≡ held_of s store → x ≡ (Ok tt) → held_of s store ≡ accepted held
passed s store held x told e = sym told ∙ ap (λ (y : Result (Unit {0}) Refusal). checked_told y held) e

pub fine : (s : Scanner) (store held : List ℕ) (x : Result (Unit {0}) Refusal) → checked_told x held ≡ held_of s store → x ≡ (Ok tt) → Admitted s store held
fine s store held x told e = admitted s store held (passed s store held x told e)

-- and the other way: 1 to 3 do not apply
admits : (s : Scanner) (store held : List ℕ) → Admitted s store held → held_of s store ≡ accepted held
unfolding held_of
admits s store held a =
    rw (le-ltb s.limit 9 a.low, le-ltb 65536 s.limit a.high, le-ltb (length store) (s.limit + 1) a.room, le-ltb (length store) s.count a.fits, a.first)

-- each of 1 to 3, where those before it do not apply
module _ (s : Scanner) (store : List ℕ) where
  pub low_limit : s.limit < 9 → refused 1 [] ≡ held_of s store
  unfolding held_of
  low_limit h = rw (lt-ltb s.limit 9 h)

  pub high_limit : 9 ≤ s.limit → 65536 < s.limit → refused 1 [] ≡ held_of s store
  unfolding held_of
  high_limit a h = rw (le-ltb s.limit 9 a, lt-ltb 65536 s.limit h)

  pub short_store : 9 ≤ s.limit → s.limit ≤ 65536 → length store ≤ s.limit → refused 2 [] ≡ held_of s store
  unfolding held_of
  short_store a b h = rw (le-ltb s.limit 9 a, le-ltb 65536 s.limit b, lt-ltb (length store) (s.limit + 1) (omega arith))

  pub held_beyond : 9 ≤ s.limit → s.limit ≤ 65536 → s.limit < length store → length store < s.count → refused 3 [] ≡ held_of s store
  unfolding held_of
  held_beyond a b k h = rw (le-ltb s.limit 9 a, le-ltb 65536 s.limit b, le-ltb (length store) (s.limit + 1) (omega arith), lt-ltb (length store) s.count h)

  pub none_applies : 9 ≤ s.limit → s.limit ≤ 65536 → s.limit < length store → s.count ≤ length store → accepted (take s.count store) ≡ held_of s store
  unfolding held_of
  none_applies a b k h = rw (le-ltb s.limit 9 a, le-ltb 65536 s.limit b, le-ltb (length store) (s.limit + 1) (omega arith), le-ltb (length store) s.count h)

pub ruleset checks = (low_limit, high_limit, short_store, held_beyond, none_applies)

-- no count is carried too far
pub record Fits (s : Scanner) (m : Moved) : Type 0 where
  pub pushed : s.pushed + m.pushed ≤ GREATEST
  pub handed : s.handed + m.handed ≤ GREATEST
  pub dropped : s.dropped + m.dropped ≤ GREATEST

module _ (s : Scanner) (m : Moved) where
  pub fits_near : Fits s m → too_far s m ≡ false
  unfolding too_far
  fits_near f = rw (le-ltb GREATEST (s.pushed + m.pushed) f.pushed, le-ltb GREATEST (s.handed + m.handed) f.handed, le-ltb GREATEST (s.dropped + m.dropped) f.dropped)

  pub near_fits : too_far s m ≡ false → Fits s m
  unfolding too_far
  near_fits = go (ltb GREATEST (s.pushed + m.pushed)) refl (ltb GREATEST (s.handed + m.handed)) refl (ltb GREATEST (s.dropped + m.dropped)) refl
    where
      go : (t : Bool) → ltb GREATEST (s.pushed + m.pushed) ≡ t → (u : Bool) → ltb GREATEST (s.handed + m.handed) ≡ u → (v : Bool) → ltb GREATEST (s.dropped + m.dropped) ≡ v
          → pick t true (pick u true v) ≡ false → Fits s m
      go true a u b v c e = let z : ◌≡◌ {A = ℕ} 0 1 = cc in absurd (omega arith)
      go false a true b v c e = let z : ◌≡◌ {A = ℕ} 0 1 = cc in absurd (omega arith)
      go false a false b true c e = let z : ◌≡◌ {A = ℕ} 0 1 = cc in absurd (omega arith)
      go false a false b false c e = record { pushed = ltb-false _ _ a; handed = ltb-false _ _ b; dropped = ltb-false _ _ c }

  pub counts : (n : ℕ) → too_far s m ≡ false → counted_of s n m ≡ accepted (holding s n m)
  unfolding counted_of
  counts n e = rw e

  pub counts_not : (n : ℕ) → too_far s m ≡ true → counted_of s n m ≡ refused 27 []
  unfolding counted_of
  counts_not n e = rw e

-- the counts, one after the other
abbrev counted_by : Scanner → ℕ → (pushed handed dropped : Outcome ℕ) → Outcome Scanner
counted_by s n pushed handed dropped =
    and_then (λ p. and_then (λ h. on_accepted (λ d. record { limit = s.limit; count = n; pushed = p; handed = h; dropped = d }) dropped) handed) pushed

abbrev count_if : Bool → ℕ → Outcome ℕ
count_if t n = pick t (refused 27 []) (accepted n)

pub counted_each : (s : Scanner) (n : ℕ) (m : Moved) → let count = λ (k more : ℕ). count_if (ltb GREATEST (k + more)) (k + more) in
    counted_of s n m ≡ counted_by s n (count s.pushed m.pushed) (count s.handed m.handed) (count s.dropped m.dropped)
unfolding too_far counted_of
counted_each s n m = go (ltb GREATEST (s.pushed + m.pushed)) (ltb GREATEST (s.handed + m.handed)) (ltb GREATEST (s.dropped + m.dropped))
  where
    go : (t u v : Bool) → pick (pick t true (pick u true v)) (refused 27 []) (accepted (holding s n m))
        ≡ counted_by s n (count_if t (s.pushed + m.pushed)) (count_if u (s.handed + m.handed)) (count_if v (s.dropped + m.dropped))
    go true u v = refl
    go false true v = refl
    go false false true = refl
    go false false false = refl

-- these bytes at the front of a store as long are held, whatever was counted
held_front : (s : Scanner) (store held : List ℕ) → held_of s store ≡ accepted held → (n : ℕ) (m : Moved) (xs rest : List ℕ) → length xs ≡ n → length (xs ++ rest) ≡ length store
    → held_of (holding s n m) (xs ++ rest) ≡ accepted xs
held_front s store held e n m xs rest f l =
    let a = admitted s store held e in
    admits (holding s n m) (xs ++ rest) xs (record { low = a.low; high = a.high; room = rw l a.room; fits = rw length-append (omega arith); first = sym (take_at xs rest n f) })

-- an opening, refused or not, counts nothing
pub opened_fresh : (limit : ℕ) (store : List ℕ) → (open_call limit store).scanner ≡ fresh limit
unfolding open_call
opened_fresh limit store = go (held_of (fresh limit) store)
  where
    go : (o : Outcome (List ℕ)) → (open_by o limit store).scanner ≡ fresh limit
    go (refused n vs) = refl
    go (accepted held) = refl

-- and one that is not refused holds nothing
pub held_opened : (limit : ℕ) (store held : List ℕ) → held_of (fresh limit) store ≡ accepted held → held_of (open_call limit store).scanner (open_call limit store).store ≡ accepted []
unfolding open_call
held_opened limit store held e = rw e (held_front (fresh limit) store held e 0 (pushing []) [] (replicate (length store) 0) refl (length-replicate (length store) 0))

-- an opening, by what the checks answer
module _ (limit : ℕ) (store held : List ℕ) where
  abbrev opens : Result (Unit {0}) Refusal → List ℕ → Effect (Unit {0})
  opens x store' = record { answer = outcome_of x; scanner = fresh limit; store = store' }

  pub open_fine : (x : Result (Unit {0}) Refusal) → is_ok x ≡ true → checked_told x held ≡ held_of (fresh limit) store → open_call limit store ≡ opens x (replicate (length store) 0)
  unfolding open_call
  open_fine (Ok passed) t e = rw (← e)
  open_fine (Err r) t e = let z : ◌≡◌ {A = ℕ} 0 1 = cc in absurd (omega arith)

  pub open_refused : (x : Result (Unit {0}) Refusal) → is_ok x ≡ false → checked_told x held ≡ held_of (fresh limit) store → open_call limit store ≡ opens x store
  unfolding open_call
  open_refused (Ok passed) t e = let z : ◌≡◌ {A = ℕ} 0 1 = cc in absurd (omega arith)
  open_refused (Err r) t e = rw (← e)

-- how many stay, in the code's terms
pub stays : (s : Scanner) (store : List ℕ) (n : ℕ) → s.count ≤ length store → length (drop n (take s.count store)) ≡ s.count - n
stays s store n h = rw (length-drop, length-take-le s.count store h)

-- one byte more of a copy
pub copy_step : (d e : List ℕ) (at : ℕ) (s : List ℕ) (j : ℕ) → at + j < length d → j < length s → e ≡ paste d at s j → set e (at + j) (get_or s j 0) ≡ paste d at s (j + 1)
copy_step d e at s j h k p = rw (p, paste-suc d at s j 0 h k, add-one)

-- a push past 1 to 3: 4, or 27, or the piece behind the held bytes
module _ (s : Scanner) (store held piece : List ℕ) (e : held_of s store ≡ accepted held) where
  pub push_full : length store < s.count + length piece → push_call s store piece ≡ refuses 4 [] s store
  unfolding push_call
  push_full h = rw (e, lt-ltb (length store) (s.count + length piece) h)

  pub push_fits : s.count + length piece ≤ length store
      → push_call s store piece ≡ counting (counted_of s (s.count + length piece) (pushing piece)) tt s store (held ++ piece ++ drop (s.count + length piece) store)
  unfolding push_call
  push_fits h = rw (e, le-ltb (length store) (s.count + length piece) h)

  -- with room in the store and in the counts it is stored
  pub push_stored : s.count + length piece ≤ length store → Fits s (pushing piece) → (push_call s store piece).answer ≡ accepted tt
  push_stored h f = rw (push_fits h, counts s (pushing piece) (s.count + length piece) (fits_near s (pushing piece) f))

module _ (s : Scanner) (store held : List ℕ) (e : held_of s store ≡ accepted held) where
  pub held_length : length held ≡ s.count
  held_length = let a = admitted s store held e in ap length a.first ∙ length-take-le s.count store a.fits

  -- the piece behind the held bytes
  module _ (piece : List ℕ) (h : s.count + length piece ≤ length store) where
    pub joined_length : length (held ++ piece ++ drop (s.count + length piece) store) ≡ length store
    joined_length = simp (length-append, held_length, length-drop) (omega arith)

    pub held_joined : (m : Moved) → held_of (holding s (s.count + length piece) m) (held ++ piece ++ drop (s.count + length piece) store) ≡ accepted (held ++ piece)
    held_joined m = held_front s store held e (s.count + length piece) m (held ++ piece) (drop (s.count + length piece) store) (rw (length-append, held_length)) joined_length

  -- the first n go: what stays
  module _ (n : ℕ) where
    pub gone_length : length (let_go held n store) ≡ length store
    gone_length = zeroed_length (drop n held) (length store) (omega (arith, length-drop n held, held_length, (admitted s store held e).fits))

    pub held_gone : (m : Moved) → held_of (holding s (length (drop n held)) m) (let_go held n store) ≡ accepted (drop n held)
    held_gone m = held_front s store held e (length (drop n held)) m (drop n held) (replicate (length store - length (drop n held)) 0) refl gone_length
