-- The acks of spans: how the walk over them goes, how many there are and how long. Assumes nothing.
use Rattle.std.proofs.Common.{◌≡◌, ℕ, zero, suc, ◌+◌, ◌-◌, ◌*◌, ◌/◌, ◌%◌, ◌<◌, ◌≤◌, Bool, true, false, ltb, List, [], ◌∷◌, ◌++◌, length, take, drop, sym, refl, ap, ◌∙◌, append_assoc, append-nil, add-zero, arith, length-append, length-drop, drop-drop, drop_at, ltb-false, ltb-true, Option, Some, None}
use lib.Seq.{append_snoc}
use Rattle.base.specs.Sum.{total}
use Rattle.base.specs.Writing.{write_call}
use Rattle.base.proofs.LawsWriting.{Begins}
use Rattle.escaping.specs.Escaping.{each_of, escaped_byte, escape_of}
use Rattle.escaping.proofs.LawsEscaping.{escaped_width, no_shorter}
use Rattle.framing.specs.Framing.{body_of, frame_of, pack_call, ack_call}
use Rattle.heading.specs.Heading.{header_read}
use Rattle.heading.proofs.LawsHeading.{head_short}
use Rattle.held.specs.Spans.{END, spans}
use Rattle.held.specs.Search.{Seen, no_start, no_end, both, seen, span_of, sight_by, sight_of}
use Rattle.held.specs.declared.search.Sight.{Sight}
use Rattle.held.specs.declared.search.Sight.TheVariants.{NoStart, NoEnd, Both}
use Rattle.held.proofs.LawsSearch.{Sees, sees, spot_part, span_length}
use Rattle.held.proofs.LawsSpans.{holds}
use Rattle.masked_log.specs.Demand3.{NoneAbove, joined}
use Rattle.acks.specs.Acks.{due_in, ack_frame, acks_by, acks_of, acks_in, span_ack}

-- 01's ack is a frame
pub ack_writes : (seq : ℕ) (out : List ℕ) → ack_call seq out ≡ write_call (ack_frame seq) out
unfolding pack_call ack_frame
ack_writes seq out = refl

-- its bytes: only the sequence and the checksum may need an escape
abbrev pub answer : ℕ → ℕ
answer seq = (257 - seq) % 256

abbrev pub ack_body : ℕ → List ℕ
ack_body seq = 1 ∷ answer seq ∷ 0 ∷ 0 ∷ 0 ∷ 0 ∷ (1 + answer seq) % 256 ∷ []

ack_body_lem : (seq : ℕ) → ack_frame seq ≡ frame_of (ack_body seq)
unfolding ack_frame body_of total
ack_body_lem seq = rw (add-zero (answer seq))

pub ack_length : (seq : ℕ) → length (ack_frame seq) ≡ 2 + length (escape_of (ack_body seq))
unfolding frame_of
ack_length seq = ap length (ack_body_lem seq) ∙ simp length-append (omega arith)

plain_one : escaped_byte 1 ≡ 1 ∷ []
unfolding escaped_byte
plain_one = refl

plain_zero : escaped_byte 0 ≡ 0 ∷ []
unfolding escaped_byte
plain_zero = refl

ack_few : (a b : ℕ) → length (escape_of (1 ∷ a ∷ 0 ∷ 0 ∷ 0 ∷ 0 ∷ b ∷ [])) ≤ 9
unfolding each_of
ack_few a b = simp (plain_one, plain_zero, length-append) (omega (arith, escaped_width a, escaped_width b))

-- "at most 11 bytes for each", and at least 9
pub ack_width : (seq : ℕ) → (9 ≤ length (ack_frame seq)) × (length (ack_frame seq) ≤ 11)
ack_width seq = (omega (arith, ack_length seq, no_shorter (ack_body seq)), omega (arith, ack_length seq, ack_few (answer seq) ((1 + answer seq) % 256)))

-- a span's ack, by what is due
module _ (span : List ℕ) {d : (Option ℕ)} (told : d ≡ due_in (header_read span)) where
  pub span_nothing : d ≡ None → span_ack span ≡ []
  unfolding span_ack
  span_nothing is = rw (← told, is)

  pub span_owed : {seq : ℕ} → d ≡ Some seq → span_ack span ≡ ack_frame seq
  unfolding span_ack
  span_owed {seq} is = rw (← told, is) (append-nil (ack_frame seq))

joined_append : (xs ys : List (List ℕ)) → joined (xs ++ ys) ≡ joined xs ++ joined ys
joined_append [] ys = refl
joined_append (x ∷ xs) ys = ap (λ (l : List ℕ). x ++ l) (joined_append xs ys) ∙ sym (append_assoc x (joined xs) (joined ys))

-- the bytes behind the next span
behind : (held before between rest : List ℕ) → Sees held (both before between rest) → rest ≡ drop (length before + length (span_of between)) held
behind held before between rest f =
    let e : held ≡ (before ++ span_of between) ++ rest = f.0 ∙ rw (append_assoc, ← append_snoc between END rest) in
    sym (rw e (drop_at (before ++ span_of between) rest _ (length-append before (span_of between))))

-- the acks of held bytes, by what is seen of them
abbrev AcksBy : List ℕ → Sight → Type 0
AcksBy held NoStart = acks_in held ≡ []
AcksBy held (NoEnd at) = acks_in held ≡ []
AcksBy held (Both at len) = (at + len ≤ length held) × (0 < len) × (acks_in held ≡ span_ack (take len (drop at held)) ++ acks_in (drop (at + len) held))

acks_by_lem : (held : List ℕ) → AcksBy held (sight_of held)
unfolding acks_in span_ack
acks_by_lem held = go (seen held) (sees held)
  where
    go : (x : Seen) → Sees held x → AcksBy held (sight_by x)
    go no_start f = ap (λ (ss : List (List ℕ)). joined (acks_of ss)) (holds held no_start f).gives
    go (no_end before rest) f = ap (λ (ss : List (List ℕ)). joined (acks_of ss)) (holds held (no_end before rest) f).gives
    go (both before between rest) f =
        let p = spot_part held (both before between rest) f in
        let b = behind held before between rest f in (
          p.0,
          omega arith,
          ap (λ (ss : List (List ℕ)). joined (acks_of ss)) (holds held (both before between rest) f).0
              ∙ joined_append (acks_by (due_in (header_read (span_of between)))) (acks_of (spans rest))
              ∙ rw (← p.1, ← b),
        )

-- a span with an ack has 9 bytes or more
one_ack : (span : List ℕ) → 9 * length (acks_by (due_in (header_read span))) ≤ length span
one_ack span = go (ltb (length span) 9) refl
  where
    at_most_one : (o : Option ℕ) → 9 ≤ length span → 9 * length (acks_by o) ≤ length span
    at_most_one None h = omega arith
    at_most_one (Some seq) h = omega arith

    go : (t : Bool) → ltb (length span) 9 ≡ t → 9 * length (acks_by (due_in (header_read span))) ≤ length span
    go true e = rw (head_short span (ltb-true (length span) 9 e)) (omega arith)
    go false e = at_most_one (due_in (header_read span)) (ltb-false (length span) 9 e)

acks_few : (n : ℕ) (held : List ℕ) → length held ≤ n → 9 * length (acks_of (spans held)) ≤ length held
acks_few zero [] h = omega arith
acks_few zero (x ∷ held) h = absurd (omega arith)
acks_few (suc n) held h = go (seen held) (sees held) (acks_few n)
  where
    go : (x : Seen) → Sees held x → ((rest : List ℕ) → length rest ≤ n → 9 * length (acks_of (spans rest)) ≤ length rest) → 9 * length (acks_of (spans held)) ≤ length held
    go no_start f k = rw (holds held no_start f).gives (omega arith)
    go (no_end before rest) f k = rw (holds held (no_end before rest) f).gives (omega arith)
    go (both before between rest) f k =
        let l : length held ≡ length before + length (span_of between) + length rest = ap length f.0 ∙ span_length before between rest in
        rw ((holds held (both before between rest) f).0, length-append (acks_by (due_in (header_read (span_of between)))) (acks_of (spans rest)))
        (omega (arith, one_ack (span_of between), k rest (omega arith)))

-- "With h bytes held at the start it writes at most h divided by 9 acks, cut to a whole number, and at most 11 bytes for each"
pub at_most_acks : (held : List ℕ) → length (acks_of (spans held)) ≤ length held / 9
at_most_acks held = omega (arith, acks_few (length held) held (omega arith))

pub at_most_eleven : (ss : List (List ℕ)) → NoneAbove 11 (acks_of ss)
at_most_eleven [] = tt
at_most_eleven (span ∷ ss) = go (due_in (header_read span)) (at_most_eleven ss)
  where
    go : (o : Option ℕ) → NoneAbove 11 (acks_of ss) → NoneAbove 11 (acks_by o ++ acks_of ss)
    go None k = k
    go (Some seq) k = ((ack_width seq).1, k)

-- so they are at most so many bytes together
joined_bound : (ls : List (List ℕ)) → NoneAbove 11 ls → length (joined ls) ≤ 11 * length ls
joined_bound [] k = omega arith
joined_bound (l ∷ ls) k = rw (length-append l (joined ls)) (omega (arith, k.0, joined_bound ls k.1))

pub acks_bound : (held : List ℕ) → length (acks_in held) ≤ 11 * (length held / 9)
unfolding acks_in
acks_bound held = omega (arith, at_most_acks held, joined_bound (acks_of (spans held)) (at_most_eleven (spans held)))

-- one turn of the walk, from the bytes passed: no span is left, or the next one
module _ (held : List ℕ) (past : ℕ) {x : Sight} (told : x ≡ sight_of (drop past held)) where
  here : {y : Sight} → x ≡ y → AcksBy (drop past held) y
  here is = rw (← is, told) (acks_by_lem (drop past held))

  pub no_start_lem : x ≡ NoStart → acks_in (drop past held) ≡ []
  no_start_lem is = here is

  pub no_end_lem : {at : ℕ} → x ≡ NoEnd at → acks_in (drop past held) ≡ []
  no_end_lem is = here is

  module _ {at len : ℕ} (is : x ≡ Both at len) (h : past ≤ length held) where
    pub next_within : past + at + len ≤ length held
    next_within = omega (arith, (here is).0, length-drop past held)

    pub next_further : past < past + at + len
    next_further = omega (arith, (here is).1)

    pub next_begins : Begins (acks_in (drop past held)) (span_ack (take (past + at + len - (past + at)) (drop (past + at) held))) (acks_in (drop (past + at + len) held))
    next_begins =
        let n : past + at + len - (past + at) ≡ len = omega arith in
        let k : past + (at + len) ≡ past + at + len = omega arith in
        record { splits = (here is).2 ∙ rw (n, drop-drop at past held, drop-drop (at + len) past held, k) }
