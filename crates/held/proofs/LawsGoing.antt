-- The store once the first bytes are gone and what is behind is cleared.
use Rattle.std.proofs.Common.{◌≡◌, ℕ, ◌+◌, ◌-◌, ◌≤◌, min, List, length, take, drop, sym, ◌∙◌, arith, length-append, length-take, length-drop}
use Rattle.std.proofs.lemmas.List.{take_min, drop_min, drop-take, length-replicate}
use Rattle.std.specs.List.{copy_within}
use lib.Seq.{take_at}
use Rattle.base.specs.Writing.{zeroed_from}
use Rattle.held.specs.Going.{zeroed, let_go}

module _ (d : List ℕ) (count n from to : ℕ) (t : to ≡ min count (length d)) (f : from ≡ min n to) where
  part_held : take (to - from) (drop from d) ≡ drop n (take count d)
  part_held =
      let e : from + (to - from) ≡ to = omega arith in
      sym (drop-take from (to - from) d) ∙ rw (e, f, t, take_min, ← length-take count d) (drop_min n (take count d))

  pub let_go_end : (e : List ℕ) → length e ≡ length d → e ≡ copy_within d from to 0 → zeroed_from (to - from) e ≡ let_go (take count d) n d
  unfolding zeroed_from
  let_go_end e l p =
      let k : length (take (to - from) (drop from d)) ≡ to - from = simp (length-take, length-drop) (omega arith) in
      let m : to - from ≡ length (drop n (take count d)) = simp (length-drop, length-take) (omega arith) in
      rw (l, p, take_at (take (to - from) (drop from d)) (drop (0 + (to - from)) d) (to - from) k, part_held, m)

pub zeroed_length : (xs : List ℕ) (n : ℕ) → length xs ≤ n → length (zeroed xs n) ≡ n
zeroed_length xs n h = simp (length-append, length-replicate) (omega arith)
