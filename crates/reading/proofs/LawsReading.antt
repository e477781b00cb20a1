-- Laws of a reading: what decides, what an accepted one has, and that no other length is right.
use Prim.Native.Nat.{ℕ, ◌+◌, ◌*◌, ◌≤◌, ◌<◌}
use mathlib.Core.Path.{◌≡◌, refl, sym, ap, ◌∙◌}
use mathlib.Core.Bool.{Bool, true, false}
use mathlib.Core.List.{List, [], ◌++◌}
use native.Mathlib.Omega.{arith}
use lib.Dec.{eqb, ltb}
use lib.ListN.{length, get_or, length-append, get_or-append}
use borrow.Author.Tests.{eqb-true, eqb-false, eq-eqb, ne_eqb, ltb-true, ltb-false, lt-ltb, le-ltb}
use Rattle.base.specs.Outcome.{Outcome, accepted, refused, pick, on_accepted, and_then}
use Rattle.reading.specs.Message.{kind_of}
use Rattle.reading.specs.Items.{Size, Items, fixed, counted, item_at, length_by}
use Rattle.reading.specs.Reading.{reading_of, count_reading, Layout, layout, no_layout, by_kind, layout_reading}
use Rattle.reading.proofs.LawsItems.{walk_grows, walk_mono, walk_fixed, apart, Own, walk_longer}

module _ {A : Type 0} (serves : ℕ → Bool) (items : List ℕ → Items) (contents : List ℕ → Outcome A) (p : List ℕ) where
  -- what stands before the contents
  pub record Served : Type 0 where
    pub long : 2 ≤ length p
    pub kind : serves (kind_of p) ≡ true

  pub record Fits : Type 0 where
    pub served : Served
    pub ends : length_by (items p) p ≡ length p

  pub read_short : length p < 2 → reading_of serves items contents p ≡ refused 25 []
  unfolding reading_of
  read_short h = rw (lt-ltb (length p) 2 h)

  pub read_unserved : 2 ≤ length p → serves (kind_of p) ≡ false → reading_of serves items contents p ≡ refused 25 []
  unfolding reading_of
  read_unserved h k = rw (le-ltb (length p) 2 h, k)

  pub read_unfit : Served → (length_by (items p) p ≡ length p → ⊥) → reading_of serves items contents p ≡ refused 26 []
  unfolding reading_of
  read_unfit s n = rw (le-ltb (length p) 2 s.long, s.kind, ne_eqb (length_by (items p) p) (length p) n)

  pub read_fits : Fits → reading_of serves items contents p ≡ contents p
  unfolding reading_of
  read_fits f = rw (le-ltb (length p) 2 f.served.long, f.served.kind, eq-eqb (length_by (items p) p) (length p) f.ends)

  -- a served kind, where the items come to so many bytes
  module _ {len : ℕ} (whole : length_by (items p) p ≡ len) (long : 2 ≤ length p) (kind : serves (kind_of p) ≡ true) where
    pub wrong_length : (length p ≡ len → ⊥) → reading_of serves items contents p ≡ refused 26 []
    wrong_length n = read_unfit (record { long = long; kind = kind }) (λ e. n (sym e ∙ whole))

    pub right_length : length p ≡ len → reading_of serves items contents p ≡ contents p
    right_length e = read_fits (record { served = record { long = long; kind = kind }; ends = whole ∙ sym e })

  -- what decides, for every payload: the kind, then the length, then the contents
  pub data Decided : Type 0 where
    by_kind_lem : (Served → ⊥) → reading_of serves items contents p ≡ refused 25 [] → Decided
    by_length : Served → (length_by (items p) p ≡ length p → ⊥) → reading_of serves items contents p ≡ refused 26 [] → Decided
    by_contents : Fits → reading_of serves items contents p ≡ contents p → Decided

  pub decided : Decided
  decided = go (ltb (length p) 2) refl (serves (kind_of p)) refl (eqb (length_by (items p) p) (length p)) refl
    where
      go : (t : Bool) → ltb (length p) 2 ≡ t → (u : Bool) → serves (kind_of p) ≡ u → (v : Bool) → eqb (length_by (items p) p) (length p) ≡ v → Decided
      go true et u eu v ev = let h = ltb-true (length p) 2 et in by_kind_lem (λ s. absurd (omega (arith, s.long))) (read_short h)
      go false et false eu v ev = by_kind_lem (λ s. let e = s.kind in let z : ◌≡◌ {A = ℕ} 0 1 = cc in absurd (omega arith)) (read_unserved (ltb-false (length p) 2 et) eu)
      go false et true eu false ev = let s : Served = record { long = ltb-false (length p) 2 et; kind = eu } in let n = eqb-false _ _ ev in by_length s n (read_unfit s n)
      go false et true eu true ev = let f : Fits = record { served = record { long = ltb-false (length p) 2 et; kind = eu }; ends = eqb-true _ _ ev } in by_contents f (read_fits f)

  pub was_read : (a : A) → reading_of serves items contents p ≡ accepted a → Fits × (contents p ≡ accepted a)
  was_read a h = go decided
    where
      go : Decided → Fits × (contents p ≡ accepted a)
      go (by_kind_lem n e) = let z : ◌≡◌ {A = ℕ} 0 1 = cc in absurd (omega arith)
      go (by_length s n e) = let z : ◌≡◌ {A = ℕ} 0 1 = cc in absurd (omega arith)
      go (by_contents f e) = (f, sym e ∙ h)

-- an answer that is neither 25 nor 26
pub record Whole {A : Type 0} (o : Outcome A) : Type 0 where
  pub kind : o ≡ refused 25 [] → ⊥
  pub length : o ≡ refused 26 [] → ⊥

pub whole_accepted : {A : Type 0} (a : A) → Whole (accepted a)
whole_accepted a = record { kind = λ e. let z : ◌≡◌ {A = ℕ} 0 1 = cc in absurd (omega arith); length = λ e. let z : ◌≡◌ {A = ℕ} 0 1 = cc in absurd (omega arith) }

pub whole_19 : {A : Type 0} → Whole {A = A} (refused 19 [])
whole_19 = record { kind = λ e. let z : ◌≡◌ {A = ℕ} 19 25 = cc in absurd (omega arith); length = λ e. let z : ◌≡◌ {A = ℕ} 19 26 = cc in absurd (omega arith) }

pub whole_29 : {A : Type 0} → Whole {A = A} (refused 29 [])
whole_29 = record { kind = λ e. let z : ◌≡◌ {A = ℕ} 29 25 = cc in absurd (omega arith); length = λ e. let z : ◌≡◌ {A = ℕ} 29 26 = cc in absurd (omega arith) }

pub whole_pick : {A : Type 0} (t : Bool) {o q : Outcome A} → Whole o → Whole q → Whole (pick t o q)
whole_pick true w v = w
whole_pick false w v = v

pub whole_on : {A B : Type 0} (f : A → B) (o : Outcome A) → Whole o → Whole (on_accepted f o)
whole_on f (accepted a) w = whole_accepted (f a)
whole_on f (refused n vs) w = record {
  kind = λ e. let a : n ≡ 25 = cc in let b : vs ≡ [] = cc in w.kind (rw (a, b));
  length = λ e. let a : n ≡ 26 = cc in let b : vs ≡ [] = cc in w.length (rw (a, b));
}

-- 25 is given for the kind alone, and 26 for the length alone
pub record Causes {A : Type 0} (serves : ℕ → Bool) (items : List ℕ → Items) (reading : List ℕ → Outcome A) : Type 0 where
  pub kind_alone : (p : List ℕ) → reading p ≡ refused 25 [] → 2 ≤ length p → serves (kind_of p) ≡ true → ⊥
  pub length_alone : (p : List ℕ) → reading p ≡ refused 26 [] → (2 ≤ length p) × (serves (kind_of p) ≡ true) × (length_by (items p) p ≡ length p → ⊥)

-- where the contents give neither
pub causes : {A : Type 0} (serves : ℕ → Bool) (items : List ℕ → Items) (contents : List ℕ → Outcome A) → ((p : List ℕ) → serves (kind_of p) ≡ true → Whole (contents p)) → Causes serves items (reading_of serves items contents)
causes serves items contents whole = record {
  kind_alone = λ p h long kind. by_25 p h (record { long = long; kind = kind }) (decided serves items contents p);
  length_alone = λ p h. by_26 p h (decided serves items contents p);
}
  where
    by_25 : (p : List ℕ) → reading_of serves items contents p ≡ refused 25 [] → Served serves items contents p → Decided serves items contents p → ⊥
    by_25 p h s (by_kind_lem n e) = n s
    by_25 p h s (by_length t n e) = let z : ◌≡◌ {A = ℕ} 25 26 = cc in absurd (omega arith)
    by_25 p h s (by_contents f e) = (whole p s.kind).kind (sym e ∙ h)

    by_26 : (p : List ℕ) → reading_of serves items contents p ≡ refused 26 [] → Decided serves items contents p → (2 ≤ length p) × (serves (kind_of p) ≡ true) × (length_by (items p) p ≡ length p → ⊥)
    by_26 p h (by_kind_lem n e) = let z : ◌≡◌ {A = ℕ} 25 26 = cc in absurd (omega arith)
    by_26 p h (by_length s n e) = (s.long, s.kind, n)
    by_26 p h (by_contents f e) = absurd ((whole p f.served.kind).length (sym e ∙ h))

-- items that bytes behind the payload leave as they are
abbrev pub Steady : (List ℕ → Items) → Type 0
Steady items = (p r : List ℕ) → 2 ≤ length p → length_by (items p) p ≤ length p → length_by (items (p ++ r)) (p ++ r) ≡ length_by (items p) p

-- so many, each by its own bytes
pub steady_so_many : (first count : ℕ) {size : Size} → Own size → (behind : ℕ) → Steady (λ p. record { first = first; count = count; size = size; behind = behind })
steady_so_many first count own behind p r long h = ap (λ (m : ℕ). m + behind) (walk_longer own p r count first (omega arith))

pub steady_counted : (place : ℕ) {size : Size} → Own size → (behind : ℕ) → Steady (counted place size behind)
steady_counted place {size} own behind p r long h =
    let n = get_or p place 0 in
    let e : get_or (p ++ r) place 0 ≡ n = get_or-append p r 0 place (omega (arith, walk_grows size p n (place + 1))) in
    ap (λ (m : ℕ). length_by (record { first = place + 1; count = m; size = size; behind = behind }) (p ++ r)) e ∙ steady_so_many (place + 1) n own behind p r long h

pub steady_kind : (len : ℕ → ℕ) → Steady (by_kind len)
steady_kind len p r long h = omega (arith, walk_fixed (len (kind_of (p ++ r))) (p ++ r) 1 0, walk_fixed (len (kind_of p)) p 1 0, ap len (get_or-append p r 0 1 (omega arith)))

-- "bytes run out, are too many": a payload that is whole, with bytes behind it, and cut anywhere behind its kind
pub record OneLength {A : Type 0} (reading : List ℕ → Outcome A) : Type 0 where
  pub too_many : (p r : List ℕ) → Whole (reading p) → 0 < length r → reading (p ++ r) ≡ refused 26 []
  pub run_out : (p r : List ℕ) → Whole (reading (p ++ r)) → 2 ≤ length p → 0 < length r → reading p ≡ refused 26 []

module _ {A : Type 0} (serves : ℕ → Bool) (items : List ℕ → Items) (contents : List ℕ → Outcome A) (steady : Steady items) where
  fits : (p : List ℕ) → Whole (reading_of serves items contents p) → Fits serves items contents p
  fits p w = go (decided serves items contents p)
    where
      go : Decided serves items contents p → Fits serves items contents p
      go (by_kind_lem n e) = absurd (w.kind e)
      go (by_length s n e) = absurd (w.length e)
      go (by_contents f e) = f

  kind_kept : (p r : List ℕ) → 2 ≤ length p → serves (kind_of (p ++ r)) ≡ serves (kind_of p)
  kind_kept p r h = ap serves (get_or-append p r 0 1 (omega arith))

  pub one_length : OneLength (reading_of serves items contents)
  one_length = record {
    too_many = λ p r w n.
        let f = fits p w in
        let s = f.served in
        read_unfit serves items contents (p ++ r) (record { long = omega (arith, s.long, length-append p r); kind = kind_kept p r s.long ∙ s.kind })
        (λ e. omega (arith, n, length-append p r, steady p r s.long (omega (arith, f.ends)), f.ends));
    run_out = λ p r w long n.
        let f = fits (p ++ r) w in
        read_unfit serves items contents p (record { long = long; kind = sym (kind_kept p r long) ∙ f.served.kind })
        (λ e. omega (arith, n, length-append p r, steady p r long (omega (arith, e)), f.ends));
  }

pub layout_length : {A : Type 0} (layouts : ℕ → Layout A) → OneLength (layout_reading layouts)
layout_length layouts = one_length _ _ _ (steady_kind (λ k. (layouts k).len))

-- a reading, and behind it a test that gives neither 25 nor 26
module _ {A B : Type 0} (test : A → Outcome B) (whole : (a : A) → Whole (test a)) where
  was_whole : (o : Outcome A) → Whole (and_then test o) → Whole o
  was_whole (accepted a) w = whole_accepted a
  was_whole (refused n vs) w = record { kind = λ e. w.kind (ap (and_then test) e); length = λ e. w.length (ap (and_then test) e) }

  was_25 : (o : Outcome A) → and_then test o ≡ refused 25 [] → o ≡ refused 25 []
  was_25 (accepted a) e = absurd ((whole a).kind e)
  was_25 (refused n vs) e = let a : n ≡ 25 = cc in let b : vs ≡ [] = cc in rw (a, b)

  was_26 : (o : Outcome A) → and_then test o ≡ refused 26 [] → o ≡ refused 26 []
  was_26 (accepted a) e = absurd ((whole a).length e)
  was_26 (refused n vs) e = let a : n ≡ 26 = cc in let b : vs ≡ [] = cc in rw (a, b)

  pub then_causes : {serves : ℕ → Bool} {items : List ℕ → Items} {reading : List ℕ → Outcome A} → Causes serves items reading → Causes serves items (λ p. and_then test (reading p))
  then_causes {reading = reading} c = record {
    kind_alone = λ p h. c.kind_alone p (was_25 (reading p) h);
    length_alone = λ p h. c.length_alone p (was_26 (reading p) h);
  }

  pub then_length : {reading : List ℕ → Outcome A} → OneLength reading → OneLength (λ p. and_then test (reading p))
  then_length {reading} l = record {
    too_many = λ p r w n. ap (and_then test) (l.too_many p r (was_whole (reading p) w) n);
    run_out = λ p r w long n. ap (and_then test) (l.run_out p r (was_whole (reading (p ++ r)) w) long n);
  }

-- a layout whose contents are whole where its kind is served
pub record WholeLayout {A : Type 0} (l : Layout A) : Type 0 where
  pub contents : l.serves ≡ true → (p : List ℕ) → Whole (l.contents p)

pub either_layout : {A : Type 0} (t : Bool) {l m : Layout A} → WholeLayout l → WholeLayout m → WholeLayout (pick t l m)
either_layout true w v = w
either_layout false w v = v

pub accepted_layout : {A : Type 0} (len : ℕ) (f : List ℕ → A) → WholeLayout (layout len (λ p. accepted (f p)))
accepted_layout len f = record { contents = λ e p. whole_accepted (f p) }

pub no_layout_lem : {A : Type 0} → WholeLayout {A = A} no_layout
no_layout_lem = record { contents = λ e p. let z : ◌≡◌ {A = ℕ} 0 1 = cc in absurd (omega arith) }

pub layout_causes : {A : Type 0} (layouts : ℕ → Layout A) → ((k : ℕ) → WholeLayout (layouts k)) → Causes (λ k. (layouts k).serves) (by_kind (λ k. (layouts k).len)) (layout_reading layouts)
layout_causes layouts whole = causes _ _ _ (λ p s. (whole (kind_of p)).contents s p)

-- a count at a place, and as many items of one size, to the end
module _ {A : Type 0} (serves : ℕ → Bool) (place size : ℕ) (contents : List ℕ → Outcome A) (p : List ℕ) where
  whole : length_by (counted place (fixed size) 0 p) p ≡ place + 1 + size * get_or p place 0
  whole = omega (arith, walk_fixed size p (get_or p place 0) (place + 1))

  pub read_uncounted : 2 ≤ length p → serves (kind_of p) ≡ true → (length p ≡ place + 1 + size * get_or p place 0 → ⊥) → reading_of serves (counted place (fixed size) 0) contents p ≡ refused 26 []
  read_uncounted = wrong_length serves _ contents p whole

  pub read_counted : 2 ≤ length p → serves (kind_of p) ≡ true → length p ≡ place + 1 + size * get_or p place 0 → reading_of serves (counted place (fixed size) 0) contents p ≡ contents p
  read_counted = right_length serves _ contents p whole

  pub was_counted : (a : A) → reading_of serves (counted place (fixed size) 0) contents p ≡ accepted a → (length p ≡ place + 1 + size * get_or p place 0) × (contents p ≡ accepted a)
  was_counted a h = let r = was_read serves _ contents p a h in (sym r.0.ends ∙ whole, r.1)

-- an accepted count: the payload has so many items, each inside, and the bytes behind them
module _ (serves : ℕ → Bool) (place : ℕ) (size : Size) (behind : ℕ) (p : List ℕ) (n : ℕ) (t : count_reading serves place size behind p ≡ accepted n) where
  abbrev start : ℕ → ℕ
  start k = item_at (counted place size behind p) p k

  pub was_count : (get_or p place 0 ≡ n) × (start n + behind ≡ length p)
  was_count =
      let r = was_read serves _ _ p n t in
      let e : get_or p place 0 ≡ n = cc in
      (e, rw e at r.0.ends)

  pub item_begins : (k : ℕ) → k ≤ n → start k + behind ≤ length p
  item_begins k h = omega (arith, walk_mono size p k n (place + 1) h, was_count.1)

  pub item_ends : (k : ℕ) → k < n → start k + size p (start k) + behind ≤ length p
  item_ends k h = omega (arith, apart size p k n (place + 1) h, was_count.1)

-- a payload whose kind gives its length
module _ {A : Type 0} (layouts : ℕ → Layout A) (p : List ℕ) {k : ℕ} (kind : kind_of p ≡ k) (serves : (layouts k).serves ≡ true) (long : 2 ≤ length p) where
  len : length_by (by_kind (λ k. (layouts k).len) p) p ≡ (layouts k).len
  len = rw kind (omega (arith, walk_fixed (layouts k).len p 1 0))

  pub layout_unfit : (length p ≡ (layouts k).len → ⊥) → layout_reading layouts p ≡ refused 26 []
  layout_unfit = wrong_length _ _ _ p len long (rw kind serves)

  pub layout_fits : length p ≡ (layouts k).len → layout_reading layouts p ≡ (layouts k).contents p
  layout_fits e = right_length _ _ _ p len long (rw kind serves) e ∙ ap (λ (k : ℕ). (layouts k).contents p) kind
