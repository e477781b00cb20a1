-- The buffer while its bytes move to the front, and behind a read. Assumes nothing.
use Rattle.std.proofs.Common.{◌≡◌, ℕ, ◌+◌, ◌-◌, ◌≤◌, min, List, length, take, drop, sym, ap, ◌∙◌, arith, length-drop, drop_of_length-le}
use Rattle.std.specs.List.{copy_within}
use Rattle.std.proofs.lemmas.List.{drop-take}
use Rattle.std.proofs.lemmas.List.Edits.{take-paste}
use lib.ListN.{length-take}
use lib.Seq.{take-take, take_at, slice, length-slice, length-take-le}
use borrow.Rule.Slice.PartMut.{put_mid}
use Rattle.base.proofs.LawsTests.{by_ltb}
use Rattle.base.proofs.LawsWriting.{put_rest}
use Rattle.line_input.specs.declared.state.Input.{Input}
use Rattle.line_input.specs.State.{held_of}
use Rattle.line_input.specs.Filling.{at_front, Filled}
use Rattle.line_input.proofs.LawsFinding.{take_short}

pub shift_none : (buf : List ℕ) (from to : ℕ) → from ≡ 0 → take (to - from) buf ≡ slice from to buf
shift_none buf from to e = let z : to - 0 ≡ to = omega arith in rw (e, z)

-- a part is copied to the front
pub shift_all : (buf : List ℕ) (from to : ℕ) → from ≤ to → to ≤ length buf → take (to - from) (copy_within buf from to 0) ≡ slice from to buf
shift_all buf from to h k =
    let n = to - from in
    let e : from + n ≡ to = omega arith in
    let z : n ≡ 0 + n = omega arith in
    ap (λ (m : ℕ). take m (copy_within buf from to 0)) z ∙ take-paste buf 0 (drop from buf) n (omega arith) (omega (arith, length-drop from buf))
    ∙ sym (drop-take from n buf) ∙ ap (λ (m : ℕ). drop from (take m buf)) e

drop_short : (n : ℕ) (xs : List ℕ) → drop (min n (length xs)) xs ≡ drop n xs
drop_short n xs =
    by_ltb (λ _. drop (min n (length xs)) xs ≡ drop n xs) n (length xs)
    (λ h. let e : min n (length xs) ≡ n = omega arith in rw e)
    (λ h. let e : length xs ≤ min n (length xs) = omega arith in rw (drop_of_length-le xs e, drop_of_length-le xs h))

-- the part that goes to the front is what is held
module _ (i : Input) (buf : List ℕ) {to from : ℕ} (t : to ≡ min i.end (length buf)) (f : from ≡ min i.at to) where
  pub held_part : slice from to buf ≡ held_of i buf
  held_part = rw (f, t, take_short, ← length-take i.end buf) (drop_short i.at (take i.end buf))

  pub held_length : to - from ≡ length (held_of i buf)
  held_length = sym (length-slice from to buf (omega arith)) ∙ ap length held_part

-- what a read leaves of the bytes before it
pub kept_before : (n : ℕ) (buf read : List ℕ) → n ≤ length buf → take n (put_mid n (length buf - n) buf read) ≡ take n buf
kept_before n buf read h = rw (put_rest n buf read) (take_at (take n buf) read n (length-take-le n buf h))

-- with bytes read behind those at the front
module _ (i : Input) (buf front : List ℕ) {f : Input} (e : f ≡ at_front i (length (held_of i buf))) (held : held_of f front ≡ held_of i buf) where
  pub front_room : f.end ≤ length front
  front_room =
      let n : f.end ≡ length (held_of i buf) = ap (λ (j : Input). j.end) e in
      let g : f.at ≡ 0 = ap (λ (j : Input). j.at) e in
      omega (arith, ap length (rw g at held), length-take f.end front)

  keeps : (r : Input) (after : List ℕ) → r.at ≡ f.at → f.end ≤ r.end → take f.end after ≡ take f.end front → take (length (held_of i buf)) (held_of r after) ≡ held_of i buf
  keeps r after a h t =
      let z : r.at ≡ 0 = cc in
      let n : f.end ≡ length (held_of i buf) = ap (λ (j : Input). j.end) e in
      let g : f.at ≡ 0 = ap (λ (j : Input). j.at) e in
      rw (z, ← n, take-take f.end r.end after h, t) (rw g at held)

  pub filled : {r : Input} {after : List ℕ} → r.at ≡ f.at → r.seen ≡ f.seen → r.number ≡ f.number → r.skips ≡ f.skips → f.end ≤ r.end → r.end ≤ length after
      → take f.end after ≡ take f.end front → Filled i buf r after
  filled {r} {after} a s n k h w t = record { keeps = keeps r after a h t; front = cc; within = w; seen = cc; number = cc; skips = cc }
