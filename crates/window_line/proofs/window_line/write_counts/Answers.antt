use Prim.Native.Nat.{◌≤◌}
use mathlib.Core.Path.{refl}
use native.Mathlib.Omega.{arith}
use lib.ListN.{length}
use Rattle.base.proofs.LawsWriting.{write_fits}
use Rattle.window_line.specs.WindowLine.{counts_line}
use Rattle.window_line.proofs.LawsWindowLine.{line_length, line_stored}
use Rattle.window_line.proofs.window_line.write_counts.Goals as goal

pub returns : goal.returns
returns c =
    let a = c.args in
    let fits : length (counts_line a.counts) ≤ length a.out.now = omega (arith, line_length a.counts) in
    rw (write_fits 7 {bytes = counts_line a.counts} {out = a.out.now} fits
    (line_stored a.counts c.put_named-a.ensures c.put_named-b.ensures c.put_named-c.ensures c.put_named-end.ensures))
    (record { result_value = refl; out_after = refl })
