-- What a skip counts, and what it leaves.
use Rattle.std.proofs.Common.{◌≡◌, ℕ, ◌+◌, ◌-◌, ◌≤◌, min, List, length, sym, ap, arith, length-take, length-drop}
use Rattle.base.specs.Outcome.{accepted}
use Rattle.cutting.specs.declared.deciding.Moved.{Moved}
use Rattle.scanner.specs.Scanner.{held_of, gone}
use Rattle.scanner.specs.Skipping.{skipping, skip_call}
use Rattle.scanner.specs.declared.scanner.Scanner.{Scanner}
use Rattle.scanner.proofs.LawsScanner.{held_length}

pub skip_within : (held : List ℕ) (dropped handed : ℕ) → let m = skipping held dropped handed in m.dropped + m.handed ≤ length held
skip_within held dropped handed = simp (length-take, length-drop) (omega arith)

-- no more than are held, in the code's terms
skip_counts : (held : List ℕ) (dropped handed d h : ℕ) → d ≡ min dropped (length held) → h ≡ min handed (length held - d)
    → skipping held dropped handed ≡ record { pushed = 0; handed = h; dropped = d }
skip_counts held dropped handed d h e f = simp (length-take, length-drop, f, e) (ap (λ (k : ℕ). record { pushed = 0; handed = k; dropped = min dropped (length held) }) (omega arith))

pub skip_gone : (s : Scanner) (store held : List ℕ) (dropped handed d h : ℕ) → held_of s store ≡ accepted held → d ≡ min dropped s.count → h ≡ min handed (s.count - d)
    → skip_call s store dropped handed ≡ gone tt s held store (record { pushed = 0; handed = h; dropped = d })
unfolding skip_call
skip_gone s store held dropped handed d h e f g =
    let n : s.count ≡ length held = sym (held_length s store held e) in
    rw e (ap (λ (m : Moved). gone tt s held store m) (skip_counts held dropped handed d h (rw n at f) (rw n at g)))
