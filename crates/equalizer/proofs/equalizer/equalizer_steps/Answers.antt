use Rattle.reading.proofs.LawsReading.{was_counted}
use Rattle.equalizer.specs.Equalizer.{equalizer_of, steps_of}
use lib.ListN.{length, drop, length-drop}
use lib.Seq.{take_all}
use Prim.Native.Nat.{◌-◌}
use mathlib.Core.Path.{sym}
use native.Mathlib.Omega.{arith}
use Rattle.equalizer.proofs.equalizer.equalizer_steps.Goals as goal

pub slice_bounds-result-count : goal.slice_bounds-result-count
unfolding equalizer_of
slice_bounds-result-count c = omega (arith, was_counted _ 3 1 _ c.args.payload.now _ (sym (rw c.in-Ok.is at c.decode_equalizer.ensures)))

pub slice_bounds-result-start : goal.slice_bounds-result-start
unfolding equalizer_of
slice_bounds-result-start c = omega (arith, was_counted _ 3 1 _ c.args.payload.now _ (sym (rw c.in-Ok.is at c.decode_equalizer.ensures)))

pub returns-in-Ok : goal.returns-in-Ok
unfolding steps_of
returns-in-Ok c = let p = c.args.payload.now in
    rw (← c.decode_equalizer.ensures, c.in-Ok.is) (take_all (length p - 4) (drop 4 p) (simp length-drop (omega arith)))

pub returns-in-Err : goal.returns-in-Err
unfolding steps_of
returns-in-Err c = rw (← c.decode_equalizer.ensures, c.in-Err.is)
