use Prim.Native.Nat.{◌-◌, ◌≤◌}
use lib.ListN.{length, drop}
use Rattle.escaping.specs.Escaping.{unescape_of}
use Rattle.escaping.proofs.LawsUnescaping.{Filling}
use Rattle.escaping.proofs.escaping.unescape.Given as goal

abbrev pub invariant-loop-i : goal.invariant-loop-i
invariant-loop-i l = (l.i ≤ length l.src) × (l.at ≤ l.i) × (length l.src ≤ length l.initial.out) × Filling (unescape_of l.src) (unescape_of (drop l.i l.src)) l.initial.out l.out l.at

abbrev pub decreases-loop-i : goal.decreases-loop-i
decreases-loop-i l = length l.src - l.i
