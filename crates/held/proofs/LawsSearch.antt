-- What the search for the markers finds.
use Prim.Native.Nat.{ℕ, suc, ◌+◌, ◌≤◌, ◌<◌}
use mathlib.Core.Path.{◌≡◌, refl, sym, ap, ◌∙◌}
use mathlib.Core.Bool.{Bool, true, false}
use mathlib.Core.List.{List, [], ◌∷◌, ◌++◌}
use native.Mathlib.Omega.{arith}
use native.Mathlib.Numerals.{add-one}
use lib.Dec.{eqb}
use lib.ListN.{length, take, drop, get_or, drop_of_length-le, length-append, length-drop, take-append-drop}
use lib.Seq.{drop-cons, take-append_seam, drop-append_seam, drop-append-add, drop-append-le, take-append-le, append_snoc, length-take-le}
pub use Rattle.std.proofs.lemmas.List.{take_rest}
use borrow.Author.Tests.{eq-eqb, eqb-true}
pub use Rattle.escaping.proofs.LawsFree.{Free, free_append}
use Rattle.base.specs.Outcome.{pick}
use Rattle.held.specs.Spans.{START, END}
use Rattle.held.specs.Search.{Parted, part, later, Seen, no_start, no_end, both, seen, seen_start, seen_end, span_of, spot_by, bytes_by, sight_by, sight_of, first_by, first_of}
use Rattle.held.specs.declared.search.Spot.{Spot}
use Rattle.held.specs.declared.search.Sight.{Sight}
use Rattle.held.specs.declared.search.Sight.TheVariants.{NoStart, NoEnd, Both}
use Rattle.std.specs.Prelude.{Option, Some, None}

pub free_after : (b : ℕ) (xs ys : List ℕ) → Free b (xs ++ ys) → Free b ys
free_after b [] ys f = f
free_after b (x ∷ xs) ys f = free_after b xs ys f.1

-- what a search answers, by cases of its answer
abbrev pub Parts : ℕ → List ℕ → Option Parted → Type 0
Parts b xs None = Free b xs
Parts b xs (Some p) = (xs ≡ p.before ++ (b ∷ p.rest)) × Free b p.before

parts_later : (b x : ℕ) (xs : List ℕ) → eqb x b ≡ false → (o : Option Parted) → Parts b xs o → Parts b (x ∷ xs) (later x o)
parts_later b x xs e None f = (e, f)
parts_later b x xs e (Some p) f = (ap (λ (l : List ℕ). x ∷ l) f.0, (e, f.1))

pub parts : (b : ℕ) (xs : List ℕ) → Parts b xs (part b xs)
parts b [] = tt
parts b (x ∷ xs) = let more = parts b xs in go more (eqb x b) refl
  where
    go : Parts b xs (part b xs) → (t : Bool) → eqb x b ≡ t → Parts b (x ∷ xs) (pick t (Some (record { before = []; rest = xs })) (later x (part b xs)))
    go more true e = (ap (λ (y : ℕ). y ∷ xs) (eqb-true x b e), tt)
    go more false e = parts_later b x xs e (part b xs) more

-- the loop of a search
pub first_cons : (b x : ℕ) (xs : List ℕ) → first_of b (x ∷ xs) ≡ pick (eqb x b) 0 (suc (first_of b xs))
first_cons b x xs = go (eqb x b) (part b xs)
  where
    go : (t : Bool) (o : Option Parted) → first_by (suc (length xs)) (pick t (Some (record { before = []; rest = xs })) (later x o)) ≡ pick t 0 (suc (first_by (length xs) o))
    go true o = refl
    go false None = refl
    go false (Some p) = refl

pub first_drop : (b : ℕ) (s : List ℕ) (i : ℕ) → i < length s → first_of b (drop i s) ≡ pick (eqb (get_or s i 0) b) 0 (suc (first_of b (drop (i + 1) s)))
first_drop b s i h = ap (first_of b) (drop-cons s i 0 h) ∙ rw add-one (first_cons b (get_or s i 0) (drop (suc i) s))

pub first_end : (b : ℕ) (s : List ℕ) (i : ℕ) → length s ≤ i → i + first_of b (drop i s) ≡ i
first_end b s i h = rw (drop_of_length-le s h) (omega arith)

-- from the place back to what is searched for
abbrev split_at : ℕ → List ℕ → Parted
split_at i xs = record { before = take i xs; rest = drop (i + 1) xs }

none_by : (b : ℕ) (xs : List ℕ) (o : Option Parted) → Parts b xs o → length xs ≤ first_by (length xs) o → o ≡ None
none_by b xs None f h = refl
none_by b xs (Some p) f h = absurd (omega (arith, simp length-append at (ap length f.0)))

some_by : (b : ℕ) (xs : List ℕ) (o : Option Parted) → Parts b xs o → first_by (length xs) o < length xs → o ≡ Some (split_at (first_by (length xs) o) xs)
some_by b xs None f h = absurd (omega arith)
some_by b xs (Some p) f h =
    rw (f.0, take-append_seam, drop-append-add)

within_by : (b : ℕ) (xs : List ℕ) (o : Option Parted) → Parts b xs o → first_by (length xs) o ≤ length xs
within_by b xs None f = omega arith
within_by b xs (Some p) f = omega (arith, simp length-append at (ap length f.0))

pub first_within : (b : ℕ) (xs : List ℕ) → first_of b xs ≤ length xs
first_within b xs = within_by b xs (part b xs) (parts b xs)

not_there : (b : ℕ) (xs : List ℕ) → length xs ≤ first_of b xs → part b xs ≡ None
not_there b xs h = none_by b xs (part b xs) (parts b xs) h

there : (b : ℕ) (xs : List ℕ) (i : ℕ) → i ≡ first_of b xs → i < length xs → part b xs ≡ Some (split_at i xs)
there b xs i e h = some_by b xs (part b xs) (parts b xs) (rw (← e) h) ∙ ap (λ (n : ℕ). Some (split_at n xs)) (sym e)

-- the two searches give the sight
module _ (held : List ℕ) where
  pub sees_no_start : length held ≤ first_of START held → NoStart ≡ sight_of held
  unfolding seen
  sees_no_start h = rw (not_there START held h)

  module _ (at : ℕ) (h : at < length held) (e : at ≡ first_of START held) where
    abbrev behind : List ℕ
    behind = drop (at + 1) held

    before_start : length (take at held) ≡ at
    before_start = length-take-le at held (omega arith)

    pub sees_no_end : length behind ≤ first_of END behind → NoEnd at ≡ sight_of held
    unfolding seen
    sees_no_end k = rw (there START held at e h, not_there END behind k, before_start)

    pub sees_both : (i : ℕ) → i < length behind → i ≡ first_of END behind → Both at (i + 2) ≡ sight_of held
    unfolding seen
    sees_both i k f =
        let m : length (take i behind) ≡ i = length-take-le i behind (omega arith) in
        rw (there START held at e h, there END behind i f k, before_start, length-append, m) (ap (Both at) (omega arith))

pub ruleset sights = (sees_no_start, sees_no_end, sees_both, take_rest)

-- the held bytes, by what is seen of them
abbrev pub Sees : List ℕ → Seen → Type 0
Sees held no_start = Free START held
Sees held (no_end before rest) = (held ≡ before ++ (START ∷ rest)) × Free START before × Free END rest
Sees held (both before between rest) = (held ≡ before ++ (START ∷ between ++ (END ∷ rest))) × Free START before × Free END between

pub sees : (held : List ℕ) → Sees held (seen held)
unfolding seen
sees held = start (part START held) (parts START held)
  where
    behind : (before rest : List ℕ) → held ≡ before ++ (START ∷ rest) → Free START before → (o : Option Parted) → Parts END rest o → Sees held (seen_end before rest o)
    behind before rest e f None g = (e, f, g)
    behind before rest e f (Some q) g = (e ∙ ap (λ (l : List ℕ). before ++ (START ∷ l)) g.0, f, g.1)

    start : (o : Option Parted) → Parts START held o → Sees held (seen_start o)
    start None f = f
    start (Some p) f = behind p.before p.rest f.0 f.1 (part END p.rest) (parts END p.rest)

-- and the other way: these bytes are seen so
part_free : (b : ℕ) (xs ys : List ℕ) → Free b xs → part b (xs ++ (b ∷ ys)) ≡ Some (record { before = xs; rest = ys })
part_free b [] ys f = rw (eq-eqb b b refl)
part_free b (x ∷ xs) ys f = rw (f.0, part_free b xs ys f.1)

pub seen_both : (before between rest : List ℕ) → Free START before → Free END between → seen (before ++ (START ∷ between ++ (END ∷ rest))) ≡ both before between rest
unfolding seen
seen_both before between rest f g = rw (part_free START before (between ++ (END ∷ rest)) f, part_free END between rest g)

-- the spot of a span is where its bytes stand
abbrev pub PartOf : List ℕ → List ℕ → Option Spot → Type 0
PartOf held bytes None = bytes ≡ []
PartOf held bytes (Some sp) = (sp.at + sp.len ≤ length held) × (bytes ≡ take sp.len (drop sp.at held))

pub span_length : (before between rest : List ℕ) → length (before ++ (START ∷ between ++ (END ∷ rest))) ≡ length before + length (span_of between) + length rest
span_length before between rest = simp length-append (omega arith)

span_there : (before between rest : List ℕ) → take (length (span_of between)) (drop (length before) (before ++ (START ∷ between ++ (END ∷ rest)))) ≡ span_of between
span_there before between rest = rw (drop-append_seam, ← append_snoc between END rest) (ap (λ (l : List ℕ). START ∷ l) (take-append_seam (between ++ (END ∷ [])) rest))

pub spot_part : (held : List ℕ) (x : Seen) → Sees held x → PartOf held (bytes_by x) (spot_by x)
spot_part held no_start f = refl
spot_part held (no_end before rest) f = refl
spot_part held (both before between rest) f = (omega (arith, ap length f.0, span_length before between rest), rw (f.0, span_there))

-- a part of the first bytes is a part of the whole
pub part_whole : (xs held : List ℕ) (count : ℕ) → held ≡ take count xs → count ≤ length xs → (bytes : List ℕ) (o : Option Spot) → PartOf held bytes o → PartOf xs bytes o
part_whole xs held count e k bytes None p = p
part_whole xs held count e k bytes (Some sp) p =
    let n : length held ≡ count = ap length e ∙ length-take-le count xs k in
    let x : xs ≡ held ++ drop count xs = rw (e, take-append-drop) in
    let y = ap (take sp.len) (drop-append-le sp.at held (drop count xs) (omega arith)) ∙ take-append-le sp.len (drop sp.at held) (drop count xs) (omega (arith, length-drop sp.at held)) in
    (omega arith, p.1 ∙ sym (ap (λ (l : List ℕ). take sp.len (drop sp.at l)) x ∙ y))

-- the sight lies within the held bytes
abbrev pub Within : ℕ → Sight → Type 0
Within n NoStart = Unit {0}
Within n (NoEnd at) = at ≤ n
Within n (Both at len) = at + len ≤ n

pub sight_within : (held : List ℕ) → Within (length held) (sight_of held)
sight_within held = go (seen held) (sees held)
  where
    go : (x : Seen) → Sees held x → Within (length held) (sight_by x)
    go no_start f = tt
    go (no_end before rest) f = omega (arith, simp length-append at (ap length f.0))
    go (both before between rest) f = omega (arith, ap length f.0, span_length before between rest)
