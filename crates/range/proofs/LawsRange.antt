-- A level as the machine has it, the levels on the steps of a range, and what the ends of `within_of` are. Assumes nothing.
use Prim.Native.Nat.{ℕ, suc, ◌+◌, ◌-◌, ◌*◌, ◌/◌, ◌%◌, ◌≤◌, ◌<◌, min, max}
use mathlib.Core.Path.{◌≡◌, refl, sym, ap, ◌∙◌}
use mathlib.Core.Bool.{Bool, true, false, true≢false, ◌||◌}
use mathlib.Core.List.{[]}
use mathlib.Core.Logic.{◌↔◌}
use native.Mathlib.Omega.{arith}
use lib.Dec.{T, ltb, leb, eqb}
use lib.IntN.{ℤ, pos, negsuc, nat_abs}
use lib.Signed.{lt_z, non_neg}
use mir.Syntax.{w32}
use mir.Val.{Fits, SFits, to_z, of_z}
use mir.Facts.{to_z-of_z, Fits-nat_abs}
use native.Mathlib.Nat.{suc-mul, add-mul, mul_comm, mul-sub, div-add-mod', mod-lt, mul-mod_left, mul-le-mul_right, lt_of_mul-lt-mul_right}
use borrow.Author.Tests.{ltb-true, ltb-false, leb-true, leb-false, eqb-true, le-ltb, eq-eqb, ne_eqb}
use Rattle.base.specs.Outcome.{accepted, refused, pick}
use Rattle.range.specs.Range.{admits_of, within_of, between, first_from, last_to}
use Rattle.range.specs.declared.range.AmbientRange.{AmbientRange}
use Rattle.std.specs.Prelude.{Option, Some, None}

negative_no : (r : AmbientRange) (z : ℤ) → lt_z z (pos 0) ≡ true → accepted false ≡ admits_of r z
unfolding admits_of
negative_no r (pos n) h = absurd (omega (arith, ltb-true n 0 h))
negative_no r (negsuc n) h = refl

not_negative : (z : ℤ) → lt_z z (pos 0) ≡ false → (z ≡ pos (nat_abs z)) × T (non_neg z)
not_negative (pos n) h = (refl, tt)
not_negative (negsuc n) h = absurd (true≢false h)

-- a level as the machine has it
module _ (z : ℤ) (fits : SFits w32 z) where
  -- below zero it is not admitted
  pub below_zero : (r : AmbientRange) → lt_z (to_z w32 (of_z w32 z)) (pos 0) ≡ true → accepted false ≡ admits_of r z
  below_zero r h = negative_no r z (rw (to_z-of_z {w = w32} fits) at h)

  module _ (h : lt_z (to_z w32 (of_z w32 z)) (pos 0) ≡ false) where
    -- any other is the number that it is cast to
    pub admits_cast : (r : AmbientRange) → admits_of r z ≡ admits_of r (pos (nat_abs (to_z w32 (of_z w32 z))))
    admits_cast r = ap (admits_of r) (sym (to_z-of_z {w = w32} fits) ∙ (not_negative (to_z w32 (of_z w32 z)) h).0)

    -- and the cast keeps it
    pub casts : T (non_neg (to_z w32 (of_z w32 z))) × Fits w32 (nat_abs (to_z w32 (of_z w32 z)))
    casts = ((not_negative (to_z w32 (of_z w32 z)) h).1, rw (to_z-of_z {w = w32} fits) (Fits-nat_abs tt fits))

-- a level that is a whole number of steps above `low`
pub record OnSteps (low step level : ℕ) : Type 0 where
  pub count : ℕ
  pub is : level ≡ low + count * step

module _ {low step : ℕ} where
  pub steps_up : {l : ℕ} → OnSteps low step l → low ≤ l
  steps_up s = omega arith

  -- a level on the steps that is less than a step above another is not above it: the one law behind both ends
  pub no_nearer : {l m : ℕ} → OnSteps low step l → OnSteps low step m → l < m + step → l ≤ m
  no_nearer s t h =
      let c : s.count * step < suc t.count * step = omega (arith, suc-mul t.count step) in
      let k : s.count < suc t.count = lt_of_mul-lt-mul_right step c in
      let j : s.count ≤ t.count = omega arith in
      omega (arith, mul-le-mul_right step j)

  -- the steps from a level on the steps are the same ones, from there on
  pub steps_on : {l m : ℕ} → OnSteps low step l → OnSteps l step m → OnSteps low step m
  steps_on s t = record { count = s.count + t.count; is = omega (arith, add-mul s.count t.count step) }

  pub steps_from : {l m : ℕ} → OnSteps low step l → OnSteps low step m → l ≤ m → OnSteps l step m
  steps_from s t h =
      let c : (t.count - s.count) * step ≡ t.count * step - s.count * step = rw (mul_comm (t.count - s.count) step, mul_comm t.count step, mul_comm s.count step) (mul-sub step t.count s.count) in
      record { count = t.count - s.count; is = omega arith }

  -- the test that `admits_of` makes
  pub on_steps : (l : ℕ) → low ≤ l → OnSteps low step l ↔ ((l - low) % step ≡ 0)
  on_steps l h = (test, λ e. record { count = (l - low) / step; is = omega (arith, div-add-mod' (l - low) step) })
    where
      test : OnSteps low step l → (l - low) % step ≡ 0
      test s = let e : l - low ≡ s.count * step = omega arith in rw e (mul-mod_left s.count step)

-- where the step is above 0, exactly the levels on the steps from min, up to max, are admitted
pub admits_steps : (r : AmbientRange) (n : ℕ) → 0 < r.step → (admits_of r (pos n) ≡ accepted true) ↔ (OnSteps r.min r.step n × (n ≤ r.max))
unfolding admits_of
admits_steps r n some_step = (go (ltb n r.min) refl (ltb r.max n) refl (eqb r.step 0) (eqb ((n - r.min) % r.step) 0) refl, given)
  where
    go : (t : Bool) → ltb n r.min ≡ t → (u : Bool) → ltb r.max n ≡ u → (v w : Bool) → eqb ((n - r.min) % r.step) 0 ≡ w
        → pick (t || u) (accepted false) (pick v (refused 22 []) (accepted w)) ≡ accepted true → OnSteps r.min r.step n × (n ≤ r.max)
    go true et u eu v w ew e = let z : ◌≡◌ {A = ℕ} 0 1 = cc in absurd (omega arith)
    go false et true eu v w ew e = let z : ◌≡◌ {A = ℕ} 0 1 = cc in absurd (omega arith)
    go false et false eu true w ew e = let z : ◌≡◌ {A = ℕ} 0 1 = cc in absurd (omega arith)
    go false et false eu false false ew e = let z : ◌≡◌ {A = ℕ} 0 1 = cc in absurd (omega arith)
    go false et false eu false true ew e = ((on_steps n (ltb-false n r.min et)).1 (eqb-true ((n - r.min) % r.step) 0 ew), ltb-false r.max n eu)

    given : OnSteps r.min r.step n × (n ≤ r.max) → admits_of r (pos n) ≡ accepted true
    given h =
        let low = steps_up h.0 in
        rw (
          le-ltb n r.min low,
          le-ltb r.max n h.1,
          ne_eqb r.step 0 (λ e. omega arith),
          eq-eqb ((n - r.min) % r.step) 0 ((on_steps n low).0 h.0),
        )

-- the least level on the steps that is not below `lo`
pub record Least (low step lo level : ℕ) : Type 0 where
  pub on : OnSteps low step level
  pub reaches : lo ≤ level
  pub least : (m : ℕ) → OnSteps low step m → lo ≤ m → level ≤ m

-- the greatest level on the steps that is not above `top`
pub record Greatest (low step top level : ℕ) : Type 0 where
  pub on : OnSteps low step level
  pub reaches : level ≤ top
  pub greatest : (m : ℕ) → OnSteps low step m → m ≤ top → m ≤ level

-- the nearest level on the steps is less than a step from its bound
module _ (low step : ℕ) (some_step : 0 < step) where
  pub first_nearest : (lo : ℕ) → Least low step lo (first_from low step lo)
  unfolding first_from
  first_nearest lo = go (leb lo low) refl
    where
      go : (t : Bool) → leb lo low ≡ t → Least low step lo (pick t low (low + (lo - low + (step - 1)) / step * step))
      go true e = record { on = record { count = 0; is = omega arith }; reaches = leb-true lo low e; least = λ m s h. steps_up s }
      go false e =
          let x = lo - low + (step - 1) in
          let above : low < lo = leb-false lo low e in
          let on : OnSteps low step (low + x / step * step) = record { count = x / step; is = refl } in
          record {
            on = on;
            reaches = omega (arith, div-add-mod' x step, mod-lt x some_step);
            least = λ m s h. no_nearer on s (omega (arith, div-add-mod' x step));
          }

  pub last_nearest : (top : ℕ) → low ≤ top → Greatest low step top (last_to low step top)
  last_nearest top h =
      let x = top - low in
      let on : OnSteps low step (last_to low step top) = record { count = x / step; is = refl } in
      record {
        on = on;
        reaches = omega (arith, div-add-mod' x step);
        greatest = λ m s l. no_nearer s on (omega (arith, div-add-mod' x step, mod-lt x some_step));
      }

-- a level of a range: on its steps, of at least 1, and not above its top
pub record Level (r : AmbientRange) (n : ℕ) : Type 0 where
  pub on : OnSteps r.min (max 1 r.step) n
  pub upto : n ≤ r.max

-- where the step is above 0, exactly these are admitted
pub admits_level : (r : AmbientRange) (n : ℕ) → 0 < r.step → (admits_of r (pos n) ≡ accepted true) ↔ Level r n
admits_level r n some_step =
    let k : max 1 r.step ≡ r.step = omega arith in
    let (forth, back) = admits_steps r n some_step in
    (λ e. record { on = rw k (forth e).0; upto = (forth e).1 }, λ l. back (rw k at l.on, l.upto))

-- r' is r narrowed to the bounds lo and hi: its ends are the least and the greatest level on r's steps within r and these bounds
pub record Narrowing (r r' : AmbientRange) (lo hi : ℕ) : Type 0 where
  pub first : Least r.min (max 1 r.step) lo r'.min
  pub last : Greatest r.min (max 1 r.step) (min r.max hi) r'.max
  pub ordered : r'.min ≤ r'.max
  pub same : (r'.voice ≡ r.voice) × (r'.step ≡ r.step)

-- a level of a range that lies in a pair of bounds
pub record LevelIn (r : AmbientRange) (lo hi n : ℕ) : Type 0 where
  pub level : Level r n
  pub reaches : lo ≤ n
  pub upto : n ≤ hi

module _ (r : AmbientRange) (lo hi : ℕ) where
  -- what `within` gives: none where no level lies in the bounds, else the range narrowed to them
  pub within_cases : (P : Option AmbientRange → Type 0) → (((n : ℕ) → ¬ (LevelIn r lo hi n)) → P None) → ((r' : AmbientRange) → Narrowing r r' lo hi → P (Some r')) → P (within_of r lo hi)
  unfolding within_of
  within_cases P empty narrowed = go (ltb top r.min) refl
    where
      step : ℕ
      step = max 1 r.step

      top : ℕ
      top = min r.max hi

      first : ℕ
      first = first_from r.min step lo

      last : ℕ
      last = last_to r.min step top

      some_step : 0 < step
      some_step = omega arith

      least : Least r.min step lo first
      least = first_nearest r.min step some_step lo

      ends : (u : Bool) → ltb last first ≡ u → Greatest r.min step top last → P (pick u None (Some (record { voice = r.voice; min = first; max = last; step = r.step })))
      ends true e greatest = empty (λ n l. omega (arith, ltb-true last first e, least.least n l.level.on l.reaches, greatest.greatest n l.level.on (omega (arith, l.level.upto, l.upto))))
      ends false e greatest = narrowed _ (record { first = least; last = greatest; ordered = ltb-false last first e; same = (refl, refl) })

      go : (t : Bool) → ltb top r.min ≡ t → P (pick t None (between r first last))
      go true e = empty (λ n l. omega (arith, ltb-true top r.min e, steps_up l.level.on, l.level.upto, l.upto))
      go false e = ends (ltb last first) refl (last_nearest r.min step some_step top (ltb-false top r.min e))
