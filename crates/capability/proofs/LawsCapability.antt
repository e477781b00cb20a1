-- The ranges held so far, and what the elements that are left come to.
use Prim.Native.Nat.{ℕ, zero, suc, ◌+◌, ◌-◌, ◌*◌, ◌≤◌, ◌<◌}
use mathlib.Core.Path.{◌≡◌, refl, sym}
use mathlib.Core.Bool.{Bool, true, false, ◌||◌, beq}
use mathlib.Core.List.{List, [], ◌∷◌, ◌++◌}
use native.Mathlib.Omega.{arith}
use native.Mathlib.Numerals.{add-one}
use native.Mathlib.Nat.{sub-zero}
use lib.Dec.{eqb, lit≤, lit<}
use lib.ListN.{length, take, drop, get_or, set, drop_of_length-le}
use lib.Seq.{drop-cons, length-take-le, take-suc-set}
use Rattle.base.specs.Outcome.{Outcome, refused, pick}
use Rattle.reading.specs.Items.{item_at}
use Rattle.reading.proofs.LawsItems.{walk_fixed, own_fixed}
use Rattle.reading.proofs.LawsReading.{OneLength, one_length, steady_counted, Whole, Causes, causes, whole_accepted, whole_19, whole_pick, whole_on}
use Rattle.range.specs.declared.range.AmbientRange.{AmbientRange}
use Rattle.capability.specs.Capability.{if_range, Capability, capability_told, capability_report, capability_kind, elements, heard, ranges_from, ranges_of, blank, held, Reported, capability_of, element_of}
use Rattle.capability.specs.declared.capability.NoiseCapability.{NoiseCapability}
use Rattle.std.specs.Prelude.{Option, Some, None, Ok}

-- the places hold so many ranges, two of them every voice value, and are blank behind them
pub data Held : List AmbientRange → ℕ → Type 0 where
  empty : Held (blank ∷ blank ∷ []) 0
  one : (r : AmbientRange) → Held (r ∷ blank ∷ []) 1
  two : (r s : AmbientRange) → ((v : Bool) → heard v (r ∷ s ∷ []) ≡ true) → Held (r ∷ s ∷ []) 2

pub places : {rs : List AmbientRange} {i : ℕ} → Held rs i → (length rs ≡ 2) × (i ≤ 2)
places empty = (refl, lit≤ tt)
places (one r) = (refl, lit≤ tt)
places (two r s d) = (refl, lit≤ tt)

-- of two voice values that differ, each one is one
either : (a b : Bool) → (beq a b || false) ≡ false → (v : Bool) → (beq a v || (beq b v || false)) ≡ true
either true true d v = let z : ◌≡◌ {A = ℕ} 0 1 = cc in absurd (omega arith)
either false false d v = let z : ◌≡◌ {A = ℕ} 0 1 = cc in absurd (omega arith)
either true false d true = refl
either true false d false = refl
either false true d true = refl
either false true d false = refl

-- a voice value not heard yet finds a place, and takes it
pub room : {rs : List AmbientRange} {i : ℕ} (v : Bool) → Held rs i → heard v (take i rs) ≡ false → i < 2
room v empty h = lit< tt
room v (one r) h = lit< tt
room v (two r s d) h = let t = d v in let z : ◌≡◌ {A = ℕ} 0 1 = cc in absurd (omega arith)

more : {rs : List AmbientRange} {i : ℕ} (x : AmbientRange) → Held rs i → heard x.voice (take i rs) ≡ false → Held (set rs i x) (i + 1)
more x empty h = one x
more x (one r) h = two r x (either r.voice x.voice h)
more x (two r s d) h = absurd (omega (arith, room x.voice (two r s d) h))

holds : {rs : List AmbientRange} {n : ℕ} → Held rs n → record { ranges = rs; count = n } ≡ held (take n rs)
holds empty = refl
holds (one r) = refl
holds (two r s d) = refl

-- the search for a voice value, from place k on
module _ (rs : List AmbientRange) (v : Bool) (k : ℕ) where
  pub heard_here : k < length rs → (d : AmbientRange) → beq (get_or rs k d).voice v ≡ true → heard v (drop k rs) ≡ true
  heard_here below d h = rw (drop-cons rs k d below, h)

  pub heard_none : length rs ≤ k → heard v (drop k rs) ≡ false
  heard_none h = rw (drop_of_length-le rs {i = k} h)

-- the elements before i are read: what is left, from here, gives what the whole gives
pub record SoFar (p : List ℕ) (count : ℕ) (rs : List AmbientRange) (i : ℕ) : Type 0 where
  pub within : i ≤ count
  pub held : Held rs i
  pub rest : ranges_from p (take i rs) (count - i) ≡ ranges_from p [] count

pub begun : (p : List ℕ) (count : ℕ) {b : AmbientRange} → b ≡ blank → SoFar p count (b ∷ b ∷ []) 0
begun p count e = rw e (record { within = omega arith; held = empty; rest = rw (sub-zero count) })

module _ {p : List ℕ} {count : ℕ} {rs : List AmbientRange} {i : ℕ} (so : SoFar p count rs i) where
  -- all elements are read
  pub reported : (kind : ℕ) → count ≤ i → Reported (record { answer = Ok kind; report = record { ranges = rs; count = count } }) (ranges_of p kind count)
  unfolding ranges_from
  reported kind h =
      let e : i ≡ count = omega arith in
      let z : count - i ≡ 0 = omega arith in
      rw (← so.rest, z, e) (record { told = refl; report = holds (rw e at so.held) })

  module _ (left : i < count) where
    length_seen : length (take i rs) ≡ i
    length_seen = length-take-le i rs (omega (arith, places so.held))

    one_more : count - i ≡ suc (count - (i + 1))
    one_more = omega arith

    module _ {e : (Option AmbientRange)} (told : e ≡ element_of p (3 + 4 * i)) where
      pub not_range : e ≡ None → ranges_from p [] count ≡ refused 19 []
      unfolding ranges_from
      not_range b = rw (← so.rest, one_more, length_seen, walk_fixed 4 p i 3, ← told, b)

      module _ {r : AmbientRange} (b : e ≡ Some r) where
        pub twice : heard r.voice (take i rs) ≡ true → ranges_from p [] count ≡ refused 19 []
        unfolding ranges_from
        twice h = rw (← so.rest, one_more, length_seen, walk_fixed 4 p i 3, ← told, b, h)

        pub next : heard r.voice (take i rs) ≡ false → SoFar p count (set rs i r) (i + 1)
        unfolding ranges_from
        next h = record {
          within = omega arith;
          held = more r so.held h;
          rest = sym (rw (← so.rest, one_more, length_seen, walk_fixed 4 p i 3, ← told, b, h, add-one i, take-suc-set rs i r (omega (arith, room r.voice so.held h, places so.held))));
        }

-- what is reported of an outcome is reported of the payload that has it
pub reports : {r : NoiseCapability} {o q : Outcome Capability} → Reported r o → q ≡ o → (capability_told r ≡ q) × (r.report ≡ capability_report q)
reports s e = rw e (s.told, s.report)

pub capability_length : OneLength capability_of
unfolding capability_of
capability_length = one_length _ _ _ (steady_counted 2 (own_fixed 4) 0)

ranges_whole : (p : List ℕ) (n : ℕ) (seen : List AmbientRange) → Whole (ranges_from p seen n)
unfolding ranges_from
ranges_whole p zero seen = whole_accepted seen
ranges_whole p (suc n) seen = go (λ r. ranges_whole p n (seen ++ r ∷ [])) (element_of p (item_at (elements p) p (length seen)))
  where
    go : ((r : AmbientRange) → Whole (ranges_from p (seen ++ r ∷ []) n)) → (o : Option AmbientRange)
        → Whole (if_range o (λ r. pick (heard r.voice seen) (refused 19 []) (ranges_from p (seen ++ r ∷ []) n)))
    go rest None = whole_19
    go rest (Some r) = whole_pick (heard r.voice seen) whole_19 (rest r)

pub capability_causes : Causes capability_kind elements capability_of
unfolding capability_of
capability_causes = causes _ _ _ (λ p s. whole_pick (eqb (get_or p 2 0) 0) whole_19 (whole_on _ _ (ranges_whole p (get_or p 2 0) [])))
