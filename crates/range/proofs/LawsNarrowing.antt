-- A range narrowed to one pair of bounds and then to another: 02, C-21. Assumes nothing.
use Prim.Native.Nat.{ℕ, ◌≤◌, ◌<◌, min, max}
use mathlib.Core.Path.{◌≡◌, refl, ap, ◌∙◌}
use mathlib.Core.Logic.{◌↔◌}
use native.Mathlib.Omega.{arith}
use lib.IntN.{ℤ, pos, negsuc}
use Rattle.range.specs.Range.{admits_of, within_of}
use Rattle.range.specs.Narrowing.{then_within, Admits, LiesIn}
use Rattle.range.specs.declared.range.AmbientRange.{AmbientRange}
use Rattle.range.proofs.LawsRange.{OnSteps, steps_up, steps_on, steps_from, Level, LevelIn, admits_level, Narrowing, within_cases}
use Rattle.std.specs.Prelude.{Option, Some, None}

-- `s` has the voice and the step of `r`, and the levels P and no others; its ends are among them
record Keeps (r : AmbientRange) (P : ℕ → Type 0) (s : AmbientRange) : Type 0 where
  same : (s.voice ≡ r.voice) × (s.step ≡ r.step)
  ends : P s.min × P s.max
  levels : (n : ℕ) → Level s n ↔ P n

-- what is left of a range that keeps the levels P: none where there is no such level
abbrev Left : AmbientRange → (ℕ → Type 0) → Option AmbientRange → Type 0
Left r P None = (n : ℕ) → ¬ (P n)
Left r P (Some s) = Keeps r P s

-- the levels that are kept decide what is left
left_same : (r : AmbientRange) (P : ℕ → Type 0) (o p : Option AmbientRange) → Left r P o → Left r P p → o ≡ p
left_same r P None None h k = refl
left_same r P None (Some t) h k = absurd (h _ k.ends.0)
left_same r P (Some s) None h k = absurd (k _ h.ends.0)
left_same r P (Some s) (Some t) h k =
    let first : s.min ≡ t.min = omega (arith, steps_up ((h.levels t.min).1 k.ends.0).on, steps_up ((k.levels s.min).1 h.ends.0).on) in
    let last : s.max ≡ t.max = omega (arith, ((h.levels t.max).1 k.ends.1).upto, ((k.levels s.max).1 h.ends.1).upto) in
    let is : ◌≡◌ {A = AmbientRange} (record { voice = s.voice; min = s.min; max = s.max; step = s.step }) (record { voice = t.voice; min = t.min; max = t.max; step = t.step }) = cc in
    ap Some is

-- and so the same levels, of ranges with one voice and step, leave the same
left_alike : (r s : AmbientRange) (P Q : ℕ → Type 0) → (s.voice ≡ r.voice) × (s.step ≡ r.step) → ((n : ℕ) → P n ↔ Q n) → (o : Option AmbientRange) → Left s P o → Left r Q o
left_alike r s P Q e q None h = λ n l. h n ((q n).1 l)
left_alike r s P Q e q (Some t) h =
    record {
      same = (h.same.0 ∙ e.0, h.same.1 ∙ e.1);
      ends = ((q _).0 h.ends.0, (q _).0 h.ends.1);
      levels = λ n. (λ l. (q n).0 ((h.levels n).0 l), λ l. (h.levels n).1 ((q n).1 l));
    }

module _ (r : AmbientRange) (lo hi : ℕ) where
  -- `within` keeps the levels that lie in the bounds
  within_left : Left r (LevelIn r lo hi) (within_of r lo hi)
  within_left = within_cases r lo hi (Left r (LevelIn r lo hi)) (λ h. h) narrowed
    where
      narrowed : (s : AmbientRange) → Narrowing r s lo hi → Keeps r (LevelIn r lo hi) s
      narrowed s w =
          record {
            same = w.same;
            ends = (inside s.min w.first.on (omega arith) w.ordered, inside s.max w.last.on w.ordered (omega arith));
            levels = λ n. (forth n, back n);
          }
        where
          steps : max 1 s.step ≡ max 1 r.step
          steps = ap (max 1) w.same.1

          inside : (n : ℕ) → OnSteps r.min (max 1 r.step) n → s.min ≤ n → n ≤ s.max → LevelIn r lo hi n
          inside n on a b =
              record {
                level = record { on = on; upto = omega (arith, w.last.reaches) };
                reaches = omega (arith, w.first.reaches);
                upto = omega (arith, w.last.reaches);
              }

          forth : (n : ℕ) → Level s n → LevelIn r lo hi n
          forth n l = inside n (steps_on w.first.on (rw steps at l.on)) (steps_up l.on) l.upto

          back : (n : ℕ) → LevelIn r lo hi n → Level s n
          back n l =
              record {
                on = rw steps (steps_from w.first.on l.level.on (w.first.least n l.level.on l.reaches));
                upto = w.last.greatest n l.level.on (omega (arith, l.level.upto, l.upto));
              }

module _ (r : AmbientRange) (lo hi lo' hi' : ℕ) where
  -- narrowing to one pair and then to the other is narrowing once to the higher low and the lower high
  pub narrowing_twice : then_within (within_of r lo hi) lo' hi' ≡ within_of r (max lo lo') (min hi hi')
  narrowing_twice = left_same r Both _ _ (again (within_of r lo hi) (within_left r lo hi)) (within_left r (max lo lo') (min hi hi'))
    where
      Both : ℕ → Type 0
      Both = LevelIn r (max lo lo') (min hi hi')

      one : {n : ℕ} → Both n → LevelIn r lo hi n
      one l = record { level = l.level; reaches = omega (arith, l.reaches); upto = omega (arith, l.upto) }

      again : (o : Option AmbientRange) → Left r (LevelIn r lo hi) o → Left r Both (then_within o lo' hi')
      again None h = λ n l. h n (one l)
      again (Some s) h = left_alike r s (LevelIn s lo' hi') Both h.same (λ n. (forth n, back n)) (within_of s lo' hi') (within_left s lo' hi')
        where
          forth : (n : ℕ) → LevelIn s lo' hi' n → Both n
          forth n l =
              let i = (h.levels n).0 l.level in
              record { level = i.level; reaches = omega (arith, i.reaches, l.reaches); upto = omega (arith, i.upto, l.upto) }

          back : (n : ℕ) → Both n → LevelIn s lo' hi' n
          back n l = record { level = (h.levels n).1 (one l); reaches = omega (arith, l.reaches); upto = omega (arith, l.upto) }

-- and so in either order
pub either_order : (r : AmbientRange) (lo hi lo' hi' : ℕ) → then_within (within_of r lo hi) lo' hi' ≡ then_within (within_of r lo' hi') lo hi
either_order r lo hi lo' hi' =
    let lows : max lo' lo ≡ max lo lo' = omega arith in
    let highs : min hi' hi ≡ min hi hi' = omega arith in
    rw (narrowing_twice r lo hi lo' hi', narrowing_twice r lo' hi' lo hi, lows, highs)

-- no level below zero is admitted
not_below : (o : Option AmbientRange) (n : ℕ) → ¬ (Admits o (negsuc n))
unfolding admits_of
not_below None n a = a
not_below (Some s) n a = let z : ◌≡◌ {A = ℕ} 0 1 = cc in omega arith

-- a level lies in both pairs exactly when it lies between the higher low and the lower high
both_pairs : (lo hi lo' hi' : ℕ) (z : ℤ) → LiesIn (max lo lo') (min hi hi') z ↔ (LiesIn lo hi z × LiesIn lo' hi' z)
both_pairs lo hi lo' hi' (pos n) = (λ (a, b). ((omega arith, omega arith), (omega arith, omega arith)), λ ((a, b), (c, d)). (omega arith, omega arith))
both_pairs lo hi lo' hi' (negsuc n) = (λ a. absurd a, λ b. b.0)

module _ (r : AmbientRange) (some_step : 0 < r.step) where
  -- what is left admits the levels that are kept
  kept : (P : ℕ → Type 0) (n : ℕ) (o : Option AmbientRange) → Left r P o → Admits o (pos n) ↔ P n
  kept P n None h = (λ a. absurd a, h n)
  kept P n (Some s) h =
      let (forth, back) = admits_level s n (omega (arith, h.same.1)) in
      (λ a. (h.levels n).0 (forth a), λ p. back ((h.levels n).1 p))

  module _ (lo hi : ℕ) where
    -- such a level of a range: one that it admits and that lies in the bounds
    such : (n : ℕ) → LevelIn r lo hi n ↔ (Admits (Some r) (pos n) × LiesIn lo hi (pos n))
    such n =
        let (forth, back) = admits_level r n some_step in
        (λ l. (back l.level, (l.reaches, l.upto)), λ (a, (b, c)). record { level = forth a; reaches = b; upto = c })

    -- narrowed once, a range admits exactly the levels that it admitted and that lie in the bounds
    pub admitted_once : (z : ℤ) → Admits (within_of r lo hi) z ↔ (Admits (Some r) z × LiesIn lo hi z)
    admitted_once (negsuc n) = (λ a. absurd (not_below (within_of r lo hi) n a), λ b. absurd b.1)
    admitted_once (pos n) =
        let (forth, back) = kept (LevelIn r lo hi) n (within_of r lo hi) (within_left r lo hi) in
        (λ a. (such n).0 (forth a), λ b. back ((such n).1 b))

    -- none comes exactly when there is no such level
    pub none_once : (within_of r lo hi ≡ None) ↔ ((z : ℤ) → ¬ (Admits (Some r) z × LiesIn lo hi z))
    none_once = (λ e z b. rw e at ((admitted_once z).1 b), λ f. go f (within_of r lo hi) (within_left r lo hi))
      where
        go : ((z : ℤ) → ¬ (Admits (Some r) z × LiesIn lo hi z)) → (o : Option AmbientRange) → Left r (LevelIn r lo hi) o → o ≡ None
        go f None h = refl
        go f (Some s) h = absurd (f (pos s.min) ((such s.min).0 h.ends.0))

  module _ (lo hi lo' hi' : ℕ) where
    -- narrowed twice, exactly those that it admitted and that lie in both pairs
    pub admitted_twice : (z : ℤ) → Admits (then_within (within_of r lo hi) lo' hi') z ↔ (Admits (Some r) z × LiesIn lo hi z × LiesIn lo' hi' z)
    admitted_twice z =
        let (forth, back) = admitted_once (max lo lo') (min hi hi') z in
        let (apart, together) = both_pairs lo hi lo' hi' z in
        rw (narrowing_twice r lo hi lo' hi') (λ a. let (b, l) = forth a in let (i, j) = apart l in (b, i, j), λ (b, i, j). back (b, together (i, j)))

    -- and none comes exactly when there is no such level
    pub none_twice : (then_within (within_of r lo hi) lo' hi' ≡ None) ↔ ((z : ℤ) → ¬ (Admits (Some r) z × LiesIn lo hi z × LiesIn lo' hi' z))
    none_twice =
        let (forth, back) = none_once (max lo lo') (min hi hi') in
        rw (narrowing_twice r lo hi lo' hi')
        (λ e z (b, i, j). forth e z (b, (both_pairs lo hi lo' hi' z).1 (i, j)), λ f. back (λ z (b, l). let (i, j) = (both_pairs lo hi lo' hi' z).0 l in f z (b, i, j)))
