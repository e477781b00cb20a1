-- The spans of a stream: joined streams, and the spans of held bytes.
use Prim.Native.Nat.{ℕ, ◌<◌}
use mathlib.Core.Path.{◌≡◌, refl, sym, ap, ◌∙◌}
use mathlib.Core.List.{List, [], ◌∷◌, ◌++◌, append_assoc, append-nil}
use lib.ListN.{length}
use lib.Seq.{append_snoc}
use Rattle.escaping.specs.Escaping.{escape_of}
use Rattle.framing.specs.Framing.{frame_of}
use Rattle.escaping.proofs.LawsFree.{escaped_no_end}
use Rattle.frame.proofs.LawsRoundTrip.{one_span}
use Rattle.held.specs.Spans.{START, END, Place, outside, inside, move, closed, after, spans_from, spans}
use Rattle.held.specs.Search.{Seen, no_start, no_end, both, span_of}
use Rattle.held.proofs.LawsSearch.{Free, Sees}

-- joined streams
pub after_append : (p : Place) (xs ys : List ℕ) → after p (xs ++ ys) ≡ after (after p xs) ys
after_append p [] ys = refl
after_append p (x ∷ xs) ys = after_append (move p x) xs ys

pub spans_append : (p : Place) (xs ys : List ℕ) → spans_from p (xs ++ ys) ≡ spans_from p xs ++ spans_from (after p xs) ys
spans_append p [] ys = refl
spans_append p (x ∷ xs) ys = ap (λ (l : List (List ℕ)). closed p x ++ l) (spans_append (move p x) xs ys) ∙ sym (append_assoc (closed p x) (spans_from (move p x) xs) (spans_from (after (move p x) xs) ys))

-- these bytes give these spans, and lead to this place
pub record Leads (p : Place) (bs : List ℕ) (out : List (List ℕ)) (q : Place) : Type 0 where
  pub gives : spans_from p bs ≡ out
  pub place : after p bs ≡ q

leads_append : {p q r : Place} {xs ys : List ℕ} {out more : List (List ℕ)} → Leads p xs out q → Leads q ys more r → Leads p (xs ++ ys) (out ++ more) r
leads_append {p} {q} {r} {xs} {ys} a b =
    record { gives = rw (spans_append p xs ys, a.gives, a.place, b.gives); place = rw (after_append p xs ys, a.place, b.place) }

-- no START: still outside; no END: still inside, these bytes more
spans_before : (xs : List ℕ) → Free START xs → Leads outside xs [] outside
spans_before [] f = record { gives = refl; place = refl }
spans_before (x ∷ xs) f =
    let r = spans_before xs f.1 in
    record { gives = rw f.0 r.gives; place = rw f.0 r.place }

pub spans_within : (s xs : List ℕ) → Free END xs → Leads (inside s) xs [] (inside (s ++ xs))
spans_within s [] f = record { gives = refl; place = rw append-nil }
spans_within s (x ∷ xs) f =
    let r = spans_within (s ++ (x ∷ [])) xs f.1 in
    record { gives = rw f.0 r.gives; place = rw (f.0, ← append_snoc s x xs) r.place }

-- from outside over a START, from inside over an END
over_start : (xs : List ℕ) → Free START xs → Leads outside (xs ++ (START ∷ [])) [] (inside (START ∷ []))
over_start xs f = leads_append (spans_before xs f) (record { gives = refl; place = refl })

pub over_end : (s xs : List ℕ) → Free END xs → Leads (inside s) (xs ++ (END ∷ [])) ((s ++ xs ++ (END ∷ [])) ∷ []) outside
over_end s xs f = leads_append (spans_within s xs f) (record { gives = refl; place = refl })

-- a span by itself: its bytes are its only span
spans_frame : (xs : List ℕ) → Free END xs → Leads outside (span_of xs) (span_of xs ∷ []) outside
spans_frame xs f = leads_append (over_start [] tt) (over_end (START ∷ []) xs f)

-- a packed frame is one span
pub spans_packed : (body : List ℕ) → spans (frame_of body) ≡ frame_of body ∷ []
spans_packed body = rw (one_span body).0 (spans_frame (escape_of body) (escaped_no_end body)).gives

leads_on : {p q : Place} {xs : List ℕ} {out : List (List ℕ)} → Leads p xs out q → (ys : List ℕ) → (spans_from p (xs ++ ys) ≡ out ++ spans_from q ys) × (after p (xs ++ ys) ≡ after q ys)
leads_on {p} {q} {xs} {out} l ys = (rw (spans_append p xs ys, l.gives, l.place), rw (after_append p xs ys, l.place))

-- the spans of the held bytes and the place after them, by what is seen of them
abbrev pub Holds : List ℕ → Seen → Type 0
Holds held no_start = Leads outside held [] outside
Holds held (no_end before rest) = Leads outside held [] (inside (START ∷ rest))
Holds held (both before between rest) = (spans held ≡ span_of between ∷ spans rest) × (after outside held ≡ after outside rest)

pub holds : (held : List ℕ) (x : Seen) → Sees held x → Holds held x
holds held no_start f = spans_before held f
holds held (no_end before rest) f =
    let e : held ≡ before ++ (START ∷ []) ++ rest = f.0 ∙ sym (append_snoc before START rest) in
    rw e (leads_append (over_start before f.1) (spans_within (START ∷ []) rest f.2))
holds held (both before between rest) f =
    let e : held ≡ before ++ (START ∷ []) ++ (between ++ (END ∷ [])) ++ rest = f.0 ∙ simp append_assoc in
    rw e (leads_on (leads_append (over_start before f.1) (over_end (START ∷ []) between f.2)) rest)

-- a stream a, the bytes h held of it, and its spans not yet taken. In step: they are the spans of h, and the places agree.
-- Lost: more than the bound was cleared from a START on, so that the span a is in is longer than that, and h has no END
pub data Phase (bound : ℕ) (a h : List ℕ) (left : List (List ℕ)) : Type 0 where
  in_step : left ≡ spans h → after outside a ≡ after outside h → Phase bound a h left
  lost : left ≡ [] → (s : List ℕ) → after outside a ≡ inside s → bound < length s → Free END h → Phase bound a h left
