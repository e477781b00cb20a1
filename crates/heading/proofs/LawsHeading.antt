-- The header without a work area is unpack's, and how its loop goes. Assumes nothing.
use Rattle.std.proofs.Common.{◌≡◌, ℕ, ◌+◌, ◌-◌, ◌<◌, ◌≤◌, Bool, true, false, eqb, ltb, List, [], ◌∷◌, length, get_or, drop, sym, refl, ap, ◌∙◌, add-one, drop_of_length-le, drop-cons, le-ltb}
use Rattle.base.specs.Outcome.{accepted, refused, pick, on_accepted}
use Rattle.escaping.specs.Escaping.{START, END, unescape_of}
use Rattle.framing.specs.Framing.{header_of, inner, inner_of, marked, then_checked, unpack_by, unpack_call}
use Rattle.framing.proofs.LawsFraming.{mark_short, marked_good, marked_bad, told_of}
use Rattle.heading.specs.Heading.{header_read}
use Rattle.heading.specs.Pass.{step_of, end_of}
use Rattle.heading.specs.declared.pass.Pass.{Pass}
use Rattle.heading.proofs.LawsPass.{rest_of, rest_more, rest_refused, rest_end}

-- one turn of the loop, from place i
module _ (src : List ℕ) (i : ℕ) (p : Pass) (h : i < length src) where
  here : drop i src ≡ get_or src i 0 ∷ drop (i + 1) src
  here = rw (drop-cons src i 0 h, add-one i)

  pub turn : {q : Pass} → step_of p (get_or src i 0) ≡ accepted q → rest_of p (drop i src) ≡ rest_of q (drop (i + 1) src)
  turn e = ap (rest_of p) here ∙ rest_more p (get_or src i 0) (drop (i + 1) src) e

  pub turned_away_lem : {n : ℕ} {vs : List ℕ} → step_of p (get_or src i 0) ≡ refused n vs → rest_of p (drop i src) ≡ refused n vs
  turned_away_lem e = ap (rest_of p) here ∙ rest_refused p (get_or src i 0) (drop (i + 1) src) e

pub turn_end : (src : List ℕ) (i : ℕ) (p : Pass) → length src ≤ i → rest_of p (drop i src) ≡ end_of p
turn_end src i p h = ap (rest_of p) (drop_of_length-le src h) ∙ rest_end p

-- a function goes through the tests of the markers
marked_through : {A B : Type 0} (g : A → B) (refuse : ℕ → A) (f : List ℕ) (next : A) → g (marked refuse f next) ≡ marked (λ n. g (refuse n)) f (g next)
unfolding marked
marked_through g refuse f next = go (ltb (length f) 9) (eqb (get_or f 0 0) START) (eqb (get_or f (length f - 1) 0) END)
  where
    go : (t u v : Bool) → g (pick t (refuse 8) (pick u (pick v next (refuse 10)) (refuse 9))) ≡ pick t (g (refuse 8)) (pick u (pick v (g next) (g (refuse 10))) (g (refuse 9)))
    go true u v = refl
    go false false v = refl
    go false true false = refl
    go false true true = refl

head_marked : (f : List ℕ) → header_read f ≡ marked (λ n. refused n []) f (on_accepted header_of (then_checked (unescape_of (inner f))))
unfolding header_read
head_marked f = marked_through (on_accepted header_of) (λ n. refused n []) f (then_checked (unescape_of (inner f)))

-- the markers, as unpack tries them
module _ (f : List ℕ) where
  pub head_short : length f < 9 → header_read f ≡ refused 8 []
  head_short h = head_marked f ∙ mark_short _ f _ h

  pub head_unmarked : {n : ℕ} {vs : List ℕ} → refused n vs ≡ inner_of f → header_read f ≡ refused n vs
  head_unmarked m = let e = marked_bad (λ n. refused n []) f (on_accepted header_of (then_checked (unescape_of (inner f)))) m in head_marked f ∙ e.1 ∙ rw e.0

  pub head_inner : {bytes : List ℕ} → accepted bytes ≡ inner_of f → header_read f ≡ on_accepted header_of (then_checked (unescape_of bytes))
  head_inner m = let e = marked_good (λ n. refused n []) f (on_accepted header_of (then_checked (unescape_of (inner f)))) m in head_marked f ∙ e.1 ∙ rw e.0

-- the header that is read is what unpack answers in a work area that is long enough
pub header_unpacked : (f w : List ℕ) → length f - 2 ≤ length w → (unpack_call f w).answer ≡ header_read f
unfolding unpack_call
header_unpacked f w room =
    let o = then_checked (unescape_of (inner f)) in
    marked_through (λ e. e.answer) (λ n. record { answer = refused n []; work = w }) f (pick (ltb (length w) (length f - 2)) (record { answer = refused 11 []; work = w }) (unpack_by o (length w)))
    ∙ rw (le-ltb (length w) (length f - 2) room, told_of o (length w)) (sym (head_marked f))
