use Rattle.equalizer.specs.Equalizer.{bias_of}
use Rattle.equalizer.proofs.LawsEqualizer.{gain_bounded, operands}
use mir.Facts.{to_z-of_z}
use lib.IntN.{pos, ◌-ℤ◌}
use Prim.Native.Nat.{◌<◌}
use mathlib.Core.Path.{ap}
use native.Mathlib.Omega.{arith}
use Rattle.equalizer.proofs.equalizer.gain.Goals as goal

pub overflow_sub-result : goal.overflow_sub-result
overflow_sub-result c = let a = c.args in let h : a.step < 256 = omega arith in rw (c.bias.ensures, operands c.of.result a.step h) (gain_bounded c.of.result a.step h).sfits

pub returns : goal.returns
returns c = let a = c.args in
    let h : a.step < 256 = omega arith in
    let g = gain_bounded c.of.result a.step h in
    rw (c.bias.ensures, operands c.of.result a.step h, to_z-of_z g.sfits)
    (record { value = ap (λ s. pos a.step -ℤ bias_of s) c.of.ensures; lower_bound = (g.least, g.most) })
