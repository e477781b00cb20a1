-- The search for a newline, and where a line that is handed over lies. Assumes nothing.
use Prim.Native.Nat.{ℕ, suc, ◌+◌, ◌≤◌, ◌<◌, min, max}
use mathlib.Core.Path.{◌≡◌, refl, ap, sym, ◌∙◌}
use mathlib.Core.Bool.{Bool, true, false}
use mathlib.Core.List.{List, [], ◌∷◌}
use native.Mathlib.Numerals.{add-one}
use native.Mathlib.Omega.{arith}
use lib.ListN.{length, take, drop, get_or, drop_of_length-le, length-take, length-drop}
use lib.Seq.{drop-cons, take_all}
use borrow.Author.Tests.{eq-eqb, ne_eqb}
use Rattle.base.specs.Outcome.{pick}
use Rattle.base.proofs.LawsTests.{by_eqb, by_ltb}
use Rattle.line_input.specs.declared.state.Input.{Input}
use Rattle.line_input.specs.declared.finding.Next.TheVariants.{More, End, Failed}
use Rattle.line_input.specs.Finding.{Lies, newline_at, line_end, passed, fills_all, too_long, line_of, line_done, skips_to, at_end, all_seen, waiting_of, unfinished_of, ends_at, next_of}

-- a test that came out one way; `rw` would change the field that was tested in every record of the goal
module _ {A : Type 0} (t : Bool) (a b : A) where
  pub so : t ≡ true → pick t a b ≡ a
  so e = ap (λ u. pick u a b) e

  pub not_so : t ≡ false → pick t a b ≡ b
  not_so e = ap (λ u. pick u a b) e

module _ (held : List ℕ) (i : ℕ) where
  pub newline_here : i < length held → get_or held i 0 ≡ 0x0A → newline_at i (drop i held) ≡ i + 1
  unfolding newline_at
  newline_here h e = rw (drop-cons held i 0 h, eq-eqb (get_or held i 0) 0x0A e, add-one i)

  pub newline_on : i < length held → ¬ (get_or held i 0 ≡ 0x0A) → newline_at i (drop i held) ≡ newline_at (i + 1) (drop (i + 1) held)
  unfolding newline_at
  newline_on h n = rw (drop-cons held i 0 h, ne_eqb (get_or held i 0) 0x0A n, add-one i)

  pub newline_none : length held ≤ i → newline_at i (drop i held) ≡ 0
  unfolding newline_at
  newline_none h = rw (drop_of_length-le held h)

-- a newline that is found stands behind the place where the search began
newline_lies : (at : ℕ) (bytes : List ℕ) → ¬ (newline_at at bytes ≡ 0) → (at < newline_at at bytes) × (newline_at at bytes ≤ at + length bytes)
unfolding newline_at
newline_lies at [] = λ n. absurd (n refl)
newline_lies at (b ∷ bs) =
    by_eqb (λ t. ¬ (pick t (suc at) (newline_at (suc at) bs) ≡ 0) → (at < pick t (suc at) (newline_at (suc at) bs)) × (pick t (suc at) (newline_at (suc at) bs) ≤ at + suc (length bs))) b 0x0A
    (λ _ _. (omega arith, omega arith))
    (λ _ n. let l = newline_lies (suc at) bs n in (omega arith, omega arith))

line_end_lies : (i : Input) (held : List ℕ) → ¬ (line_end i held ≡ 0) → (i.at < line_end i held) × (line_end i held ≤ length held)
unfolding line_end
line_end_lies i held n =
    let from = max i.at i.seen in
    let l = newline_lies from (drop from held) n in
    (omega arith, omega (arith, length-drop from held))

module _ (i : Input) (end room : ℕ) (e : end ≤ room) where
  at_end_lies : Lies (at_end i end).next room
  at_end_lies = by_ltb (λ t. Lies (pick t (line_of i end) (record { next = End; input = i })).next room) i.at end (λ h. (h, e)) (λ _. tt)

  waiting_lies : Lies (waiting_of i end).next room
  unfolding waiting_of
  waiting_lies = go i.failed i.ended
    where
      go : (f t : Bool) → Lies (pick f (record { next = Failed; input = i }) (pick t (at_end i end) (record { next = More; input = all_seen i end }))).next room
      go true t = tt
      go false true = at_end_lies
      go false false = tt

  unfinished_lies : Lies (unfinished_of i end room).next room
  unfolding unfinished_of
  unfinished_lies = go i.skips (fills_all i.at end room)
    where
      go : (s f : Bool) → Lies (pick s (waiting_of i end) (pick f (too_long i.number (skips_to i end)) (waiting_of i end))).next room
      go true f = waiting_lies
      go false true = tt
      go false false = waiting_lies

  ends_lies : (to : ℕ) → (¬ (to ≡ 0) → (i.at < to) × (to ≤ end)) → Lies (ends_at i to end room).next room
  ends_lies to l =
      by_eqb (λ t. Lies (pick t (unfinished_of i end room) (pick (fills_all i.at to room) (too_long i.number (line_done i to)) (line_of i to))).next room) to 0
      (λ _. unfinished_lies)
      (λ n. go (fills_all i.at to room) (l n))
    where
      go : (f : Bool) → (i.at < to) × (to ≤ end) → Lies (pick f (too_long i.number (line_done i to)) (line_of i to)).next room
      go true l = tt
      go false l = (l.0, omega arith)

pub lies : (i : Input) (buf : List ℕ) → Lies (next_of i buf).next (length buf)
unfolding next_of
lies i buf =
    let held = take i.end buf in
    ends_lies (passed i held) (length held) (length buf) (omega (arith, length-take i.end buf)) (line_end (passed i held) held) (line_end_lies (passed i held) held)

module _ (i : Input) (held : List ℕ) where
  pub passed_none : i.skips ≡ false → i ≡ passed i held
  unfolding passed
  passed_none e = sym (not_so i.skips _ _ e)

  pub passed_all : i.skips ≡ true → {to : ℕ} → to ≡ line_end i held → to ≡ 0 → skips_to i (length held) ≡ passed i held
  unfolding passed
  passed_all e {to} l z = sym (so i.skips _ _ e ∙ so _ _ _ (eq-eqb (line_end i held) 0 (sym l ∙ z)))

  pub passed_line : i.skips ≡ true → {to : ℕ} → to ≡ line_end i held → ¬ (to ≡ 0) → line_done i to ≡ passed i held
  unfolding passed
  passed_line e {to} l n = rw l (sym (so i.skips _ _ e ∙ not_so _ _ _ (ne_eqb (line_end i held) 0 (rw l at n))))

pub take_short : (n : ℕ) (xs : List ℕ) → take (min n (length xs)) xs ≡ take n xs
take_short n xs =
    by_ltb (λ _. take (min n (length xs)) xs ≡ take n xs) n (length xs)
    (λ h. let e : min n (length xs) ≡ n = omega arith in rw e)
    (λ h. take_all (min n (length xs)) xs (omega arith) ∙ sym (take_all n xs h))

-- the answer, by the place where the line that has begun ends
module _ (i : Input) (buf : List ℕ) {end to : ℕ} {p : Input} (short : end ≡ min i.end (length buf)) (begun : p ≡ passed i (take end buf)) (ends : to ≡ line_end p (take end buf)) where
  next_ends : next_of i buf ≡ ends_at p to end (length buf)
  unfolding next_of
  next_ends =
      let same : take end buf ≡ take i.end buf = rw short (take_short i.end buf) in
      let all : end ≡ length (take i.end buf) = omega (arith, length-take i.end buf) in
      rw (ends, begun, same, all)

  pub next_unfinished : to ≡ 0 → unfinished_of p end (length buf) ≡ next_of i buf
  next_unfinished z = sym (next_ends ∙ so _ _ _ (eq-eqb to 0 z))

  pub next_too_long : ¬ (to ≡ 0) → fills_all p.at to (length buf) ≡ true → too_long p.number (line_done p to) ≡ next_of i buf
  next_too_long n f = sym (next_ends ∙ not_so _ _ _ (ne_eqb to 0 n) ∙ so _ _ _ f)

  pub next_is_line : ¬ (to ≡ 0) → fills_all p.at to (length buf) ≡ false → line_of p to ≡ next_of i buf
  next_is_line n f = sym (next_ends ∙ not_so _ _ _ (ne_eqb to 0 n) ∙ not_so _ _ _ f)
