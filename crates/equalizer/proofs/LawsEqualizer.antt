-- Where the steps stand, and the bounds of a gain.
use Prim.Native.Nat.{ℕ, suc, ◌-◌, ◌≤◌, ◌<◌}
use mathlib.Core.Path.{◌≡◌, refl, ap}
use mathlib.Core.Bool.{cond, Bool, true, false}
use mathlib.Core.List.{List}
use native.Mathlib.Omega.{arith}
use lib.Dec.{eqb, ltb, le→leb, lit≤}
use lib.IntN.{ℤ, pos, negsuc, sub_ℕ, ◌-ℤ◌}
use lib.ListN.{length, drop, length-drop}
use lib.Signed.{◌≤ℤ◌, le_z_yes}
use mir.Syntax.{w32}
use mir.Val.{SFits, to_z, of_z}
use mir.Facts.{to_z_pos}
use borrow.Author.Tests.{ltb-true, ltb-false}
use Rattle.base.specs.Outcome.{Outcome, accepted, refused}
use Rattle.reading.specs.Items.{fixed, counted}
use Rattle.reading.proofs.LawsItems.{own_fixed}
use Rattle.reading.proofs.LawsReading.{was_counted, OneLength, one_length, steady_counted, Causes, causes, whole_accepted}
use Rattle.equalizer.specs.Equalizer.{equalizer_of, steps_of, bias_of}
use Rattle.equalizer.specs.declared.equalizer.EqReport.{EqReport}
use Rattle.equalizer.specs.declared.equalizer.EqShape.{EqShape}
use Rattle.equalizer.specs.declared.equalizer.EqShape.TheVariants.{ClearBassAndFive, TenBands, Unknown}

-- the steps of a report stand from offset 4 on, as many as it counts
pub steps_place : (p : List ℕ) (r : EqReport) → equalizer_of p ≡ accepted r → (steps_of p ≡ drop 4 p) × (length (steps_of p) ≡ r.count)
unfolding steps_of equalizer_of
steps_place p r e =
    let w = was_counted _ 3 1 _ p r e in
    rw e (refl, omega (arith, w.0, ap count_in w.1, length-drop 4 p))
  where
    count_in : Outcome EqReport → ℕ
    count_in (accepted r) = r.count
    count_in (refused n vs) = 0

pub equalizer_length : OneLength equalizer_of
unfolding equalizer_of
equalizer_length = one_length _ _ _ (steady_counted 3 (own_fixed 1) 0)

pub equalizer_causes : Causes (λ kind. eqb kind 0x00) (counted 3 (fixed 1) 0) equalizer_of
unfolding equalizer_of
equalizer_causes = causes _ _ _ (λ p s. whole_accepted _)

-- a shape's bias is 6 or 10
by_bias : (P : ℤ → Type 0) → P (pos 6) → P (pos 10) → (s : EqShape) → P (bias_of s)
by_bias P six ten ClearBassAndFive = ten
by_bias P six ten TenBands = six
by_bias P six ten Unknown = ten

-- between -10 and 249, and so it fits
pub record Bounded (g : ℤ) : Type 0 where
  pub least : negsuc 9 ≤ℤ g
  pub most : g ≤ℤ pos 249
  pub sfits : SFits w32 g

-- a byte less the bias
module _ (step bias : ℕ) (h : step < 256) (six : 6 ≤ bias) (ten : bias ≤ 10) where
  by_sign : (t : Bool) → ltb step bias ≡ t → Bounded (cond t (negsuc (bias - suc step)) (pos (step - bias)))
  by_sign true e = let l = ltb-true step bias e in record { least = le_z_yes (le→leb (bias - suc step) 9 (omega arith)); most = le_z_yes tt; sfits = record { sfits = omega arith } }
  by_sign false e = let l = ltb-false step bias e in record { least = le_z_yes tt; most = le_z_yes (le→leb (step - bias) 249 (omega arith)); sfits = record { sfits = omega arith } }

  bounded : Bounded (sub_ℕ step bias)
  bounded = by_sign (ltb step bias) refl

pub gain_bounded : (s : EqShape) (step : ℕ) → step < 256 → Bounded (pos step -ℤ bias_of s)
gain_bounded s step h = by_bias (λ b. Bounded (pos step -ℤ b)) (bounded step 6 h (lit≤ tt) (lit≤ tt)) (bounded step 10 h (lit≤ tt) (lit≤ tt)) s

-- the operands as the machine has them
pub operands : (s : EqShape) (step : ℕ) → step < 256 → to_z w32 step -ℤ to_z w32 (of_z w32 (bias_of s)) ≡ pos step -ℤ bias_of s
operands s step h =
    rw (to_z_pos w32 {n = step} (omega arith), by_bias (λ b. to_z w32 (of_z w32 b) ≡ b) refl refl s)
