-- Packing and unpacking undo each other. Assumes nothing.
use Prim.Native.Nat.{ℕ, zero, suc, ◌+◌, ◌-◌, ◌*◌, ◌/◌, ◌%◌, ◌≤◌, ◌<◌}
use mathlib.Core.Path.{◌≡◌, refl, sym, ap, ◌∙◌}
use mathlib.Core.Bool.{Bool, true, false}
use mathlib.Core.List.{List, [], ◌∷◌, ◌++◌, append_assoc}
use native.Mathlib.Nat.{div-div-eq-div-mul}
use native.Mathlib.Omega.{arith}
use lib.ListN.{length, take, drop, get_or, length-append}
use lib.Seq.{take_at, take-suc, take_all, get_or_at, length-take-le}
use lib.Dec.{ltb, eqb}
use borrow.Author.Tests.{le-ltb, eq-eqb, ne_eqb, ltb-false, eqb-true, eqb-false}
use Rattle.base.specs.Outcome.{Outcome, accepted, refused, pick}
use Rattle.base.specs.DataType.{to_wire}
use Rattle.base.specs.Sum.{checksum_of}
use Rattle.escaping.specs.Escaping.{START, END, SENTRY, escaped_byte, each_of, escape_of, then_byte, escapee_then, unescape_of}
use Rattle.framing.specs.Framing.{length_field, summed_of, body_of, frame_of, length_of, carried, summed, body_checked, then_checked, inner, marked, unpack_of, payload_of, repacked, header_of, unpack_by, unpack_call}
use Rattle.framing.specs.declared.framing.Header.{Header}
use Rattle.base.specs.declared.data_type.DataType.{DataType}
use Rattle.base.proofs.LawsDataType.{Yielded, returns}
use Rattle.escaping.proofs.LawsEscaping.{each_byte, special, plain_byte, no_shorter}
use Rattle.escaping.proofs.LawsUnescaping.{unescape_ind}
use Rattle.framing.proofs.LawsFraming.{mark_next, unpack_long}
use Rattle.escaping.proofs.LawsFree.{Free, Bytes, escaped_no_start, escaped_no_end}

-- unescaping undoes escaping
unescape_byte : (rest : List ℕ) (b : ℕ) → unescape_of (escaped_byte b ++ rest) ≡ then_byte b (unescape_of rest)
unfolding unescape_of escapee_then
unescape_byte rest =
    each_byte (λ b e. unescape_of (e ++ rest) ≡ then_byte b (unescape_of rest)) refl refl refl (λ b _ n _. rw (ne_eqb b SENTRY n))

unescape_escape : (bytes : List ℕ) → unescape_of (escape_of bytes) ≡ accepted bytes
unfolding each_of unescape_of
unescape_escape [] = refl
unescape_escape (b ∷ bs) = unescape_byte (escape_of bs) b ∙ ap (then_byte b) (unescape_escape bs)

-- a frame's parts: its first byte, what stands inside, its last
module _ (body : List ℕ) where
  frame_length : length (frame_of body) ≡ length (escape_of body) + 2
  unfolding frame_of
  frame_length = omega (arith, length-append (escape_of body) (END ∷ []))

  frame_inner : inner (frame_of body) ≡ escape_of body
  unfolding frame_of
  frame_inner = take_at (escape_of body) (END ∷ []) (length (frame_of body) - 1 - 1) (omega (arith, frame_length))

  frame_last : get_or (frame_of body) (length (frame_of body) - 1) 0 ≡ END
  unfolding frame_of
  frame_last = get_or_at (START ∷ escape_of body) END [] 0 (length (frame_of body) - 1) (omega (arith, frame_length))

  unpack_framed : 7 ≤ length body → unpack_of (frame_of body) ≡ body_checked body
  unfolding frame_of
  unpack_framed h =
      mark_next _ (frame_of body) _ (omega (arith, frame_length, no_shorter body)) refl frame_last
      ∙ ap (λ (xs : List ℕ). then_checked (unescape_of xs)) frame_inner ∙ ap then_checked (unescape_escape body)

-- the length field reads back, and four bytes are the field of what they read as
pub field_back : (n : ℕ) → n ≤ 4294967295 → n / 16777216 % 256 * 16777216 + n / 65536 % 256 * 65536 + n / 256 % 256 * 256 + n % 256 ≡ n
field_back n h =
    let top : n / 16777216 % 256 ≡ n / 16777216 = omega arith in
    let low : n / 256 * 256 + n % 256 ≡ n = omega arith in
    let mid : n / 65536 * 256 + n / 256 % 256 ≡ n / 256 = rw (← div-div-eq-div-mul n 256 256) (whole (n / 256)) in
    let high : n / 16777216 * 256 + n / 65536 % 256 ≡ n / 65536 = rw (← div-div-eq-div-mul n 65536 256) (whole (n / 65536)) in
    rw top (joined n (n / 256) (n / 65536) (n / 16777216) (n % 256) (n / 256 % 256) (n / 65536 % 256) low mid high)
  where
    whole : (x : ℕ) → x / 256 * 256 + x % 256 ≡ x
    whole x = omega arith

    joined : (n q1 q2 q3 m0 m1 m2 : ℕ) → q1 * 256 + m0 ≡ n → q2 * 256 + m1 ≡ q1 → q3 * 256 + m2 ≡ q2 → q3 * 16777216 + m2 * 65536 + m1 * 256 + m0 ≡ n
    joined n q1 q2 q3 m0 m1 m2 a b c = omega arith

digit : (x d : ℕ) → d < 256 → ((x * 256 + d) / 256 ≡ x) × ((x * 256 + d) % 256 ≡ d)
digit x d h = (omega arith, omega arith)

pub field_of : (a b c d : ℕ) → a < 256 → b < 256 → c < 256 → d < 256 → length_field (a * 16777216 + b * 65536 + c * 256 + d) ≡ a ∷ b ∷ c ∷ d ∷ []
field_of a b c d ha hb hc hd =
    let n = a * 16777216 + b * 65536 + c * 256 + d in
    let e : n ≡ ((a * 256 + b) * 256 + c) * 256 + d = omega arith in
    let p : n / 256 ≡ (a * 256 + b) * 256 + c = ap (λ (k : ℕ). k / 256) e ∙ (digit ((a * 256 + b) * 256 + c) d hd).0 in
    let q : n / 65536 ≡ a * 256 + b = sym (div-div-eq-div-mul n 256 256) ∙ ap (λ (k : ℕ). k / 256) p ∙ (digit (a * 256 + b) c hc).0 in
    let r : n / 16777216 ≡ a = sym (div-div-eq-div-mul n 65536 256) ∙ ap (λ (k : ℕ). k / 256) q ∙ (digit a b hb).0 in
    let d0 : n / 16777216 % 256 ≡ a = omega (arith, r) in
    let d1 : n / 65536 % 256 ≡ b = ap (λ (k : ℕ). k % 256) q ∙ (digit a b hb).1 in
    let d2 : n / 256 % 256 ≡ c = ap (λ (k : ℕ). k % 256) p ∙ (digit (a * 256 + b) c hc).1 in
    let d3 : n % 256 ≡ d = ap (λ (k : ℕ). k % 256) e ∙ (digit ((a * 256 + b) * 256 + c) d hd).1 in
    rw (d0, d1, d2, d3)

-- a body that was made so passes its checks
module _ (kind seq : ℕ) (p : List ℕ) where
  pub body_length : length (body_of kind seq p) ≡ 7 + length p
  unfolding body_of
  body_length = omega (arith, length-append (summed_of kind seq p) (checksum_of (summed_of kind seq p) ∷ []))

  summed_back : summed (body_of kind seq p) ≡ summed_of kind seq p
  unfolding body_of
  summed_back = take_at (summed_of kind seq p) (checksum_of (summed_of kind seq p) ∷ []) (length (body_of kind seq p) - 1) (omega (arith, body_length))

  carried_back : carried (body_of kind seq p) ≡ checksum_of (summed_of kind seq p)
  unfolding body_of
  carried_back = get_or_at (summed_of kind seq p) (checksum_of (summed_of kind seq p)) [] 0 (length (body_of kind seq p) - 1) (omega (arith, body_length))

  length_back : length p ≤ 4294967295 → length_of (body_of kind seq p) ≡ length p
  unfolding body_of
  length_back h = field_back (length p) h

  checked_back : length p ≤ 4294967295 → body_checked (body_of kind seq p) ≡ accepted (body_of kind seq p)
  unfolding body_checked
  checked_back h =
      let n = length (body_of kind seq p) in
      rw (
        le-ltb n 7 (omega (arith, body_length)),
        eq-eqb (carried (body_of kind seq p)) (checksum_of (summed (body_of kind seq p))) (carried_back ∙ ap checksum_of (sym summed_back)),
        eq-eqb (length_of (body_of kind seq p)) (n - 7) (omega (arith, length_back h, body_length)),
      )

  pub round_trip : length p ≤ 4294967295 → unpack_of (frame_of (body_of kind seq p)) ≡ accepted (body_of kind seq p)
  round_trip h = unpack_framed (body_of kind seq p) (omega (arith, body_length)) ∙ checked_back h

-- for the calls: unpacking what pack wrote gives back sequence, payload, and every type that a wire byte reads as
pub record Back (t : DataType) (seq : ℕ) (p after : List ℕ) (answer : Outcome Header) : Type 0 where
  pub told : answer ≡ accepted (record { data_type = t; seq = seq; len = length p })
  pub payload : take (length p) (drop 6 after) ≡ p

module _ (kind seq : ℕ) (p : List ℕ) (h : length p ≤ 4294967295) where
  long : 9 ≤ length (frame_of (body_of kind seq p))
  long = omega (arith, frame_length (body_of kind seq p), no_shorter (body_of kind seq p), body_length kind seq p)

  starts : get_or (frame_of (body_of kind seq p)) 0 0 ≡ START
  unfolding frame_of
  starts = refl

  pub unpack_call_lem : (work : List ℕ) → length (frame_of (body_of kind seq p)) - 2 ≤ length work
      → unpack_call (frame_of (body_of kind seq p)) work ≡ unpack_by (accepted (body_of kind seq p)) (length work)
  unpack_call_lem work room =
      unpack_long (frame_of (body_of kind seq p)) work long starts (frame_last (body_of kind seq p)) room
      ∙ ap (λ (o : Outcome (List ℕ)). unpack_by o (length work)) (round_trip kind seq p h)

told_back : (t : DataType) (seq : ℕ) (p : List ℕ) → Yielded t → accepted (header_of (body_of (to_wire t) seq p)) ≡ accepted (record { data_type = t; seq = seq; len = length p })
unfolding body_of
told_back t seq p y = let e : length (body_of (to_wire t) seq p) - 7 ≡ length p = omega (arith, body_length (to_wire t) seq p) in rw (e, returns t y)

payload_back : (kind seq : ℕ) (p rest : List ℕ) → take (length p) (drop 6 (body_of kind seq p ++ rest)) ≡ p
unfolding body_of
payload_back kind seq p rest =
    let c = checksum_of (summed_of kind seq p) in
    ap (take (length p)) (append_assoc p (c ∷ []) rest) ∙ take_at p ((c ∷ []) ++ rest) (length p) refl

pub payload_of_body : (kind seq : ℕ) (p : List ℕ) → payload_of (body_of kind seq p) ≡ p
unfolding body_of
payload_of_body kind seq p = take_at p (checksum_of (summed_of kind seq p) ∷ []) (length (body_of kind seq p) - 7) (omega (arith, body_length kind seq p))

pub unpack_packed : (t : DataType) (seq : ℕ) (p work : List ℕ) → Yielded t → length p ≤ 4294967295
    → length (frame_of (body_of (to_wire t) seq p)) - 2 ≤ length work
    → Back t seq p (unpack_call (frame_of (body_of (to_wire t) seq p)) work).work (unpack_call (frame_of (body_of (to_wire t) seq p)) work).answer
unpack_packed t seq p work y h room =
    rw (unpack_call_lem (to_wire t) seq p h work room)
    record { told = told_back t seq p y; payload = payload_back (to_wire t) seq p _ }

-- escaping undoes unescaping where no marker stands raw
abbrev Escapes : List ℕ → Outcome (List ℕ) → Type 0
Escapes xs (accepted bs) = escape_of bs ≡ xs
Escapes xs (refused n vs) = Unit {0}

escapes_then : (xs : List ℕ) (b : ℕ) (o : Outcome (List ℕ)) → Escapes xs o → Escapes (escaped_byte b ++ xs) (then_byte b o)
unfolding each_of
escapes_then xs b (accepted bs) e = ap (λ (r : List ℕ). escaped_byte b ++ r) e
escapes_then xs b (refused n vs) e = tt

escape_none : escape_of [] ≡ []
unfolding each_of
escape_none = refl

escapes : (xs : List ℕ) → Free START xs → Free END xs → Escapes xs (unescape_of xs)
escapes =
    unescape_ind (λ xs o. Free START xs → Free END xs → Escapes xs o) (λ _ _. escape_none) (λ _ _. tt) (λ _ _ _ _. tt)
    (λ e xs o k l h fs fe. escaped_pair e xs o k l (h fs.1.1 fe.1.1))
    (λ b xs o n h fs fe. rw (plain_byte b (eqb-false b END fe.0) n (eqb-false b START fs.0)) at (escapes_then xs b o (h fs.1 fe.1)))
  where
    escaped_pair : (e : ℕ) (xs : List ℕ) (o : Outcome (List ℕ)) → 0x2C ≤ e → e < 0x2F → Escapes xs o → Escapes (SENTRY ∷ e ∷ xs) (then_byte (e + 16) o)
    escaped_pair e xs o k l h =
        let i : e + 16 - 16 ≡ e = omega arith in
        rw (special (e + 16) (omega arith) (omega arith), i) at (escapes_then xs (e + 16) o h)

-- what is unescaped from bytes is bytes
abbrev BytesIn : Outcome (List ℕ) → Type 0
BytesIn (accepted bs) = Bytes bs
BytesIn (refused n vs) = Unit {0}

bytes_then : (b : ℕ) (o : Outcome (List ℕ)) → b < 256 → BytesIn o → BytesIn (then_byte b o)
bytes_then b (accepted bs) h k = (h, k)
bytes_then b (refused n vs) h k = tt

unescape_bytes : (xs : List ℕ) → Bytes xs → BytesIn (unescape_of xs)
unescape_bytes =
    unescape_ind (λ xs o. Bytes xs → BytesIn o) (λ _. tt) (λ _. tt) (λ _ _ _. tt) (λ e xs o k l h by. bytes_then (e + 16) o (omega arith) (h by.1.1))
    (λ b xs o n h by. bytes_then b o by.0 (h by.1))

-- what an accepted body has shown
pub record Checked (b body : List ℕ) : Type 0 where
  pub same : b ≡ body
  pub long : 7 ≤ length b
  pub sum : carried b ≡ checksum_of (summed b)
  pub len : length_of b ≡ length b - 7

checked_facts : (b : List ℕ) {body : List ℕ} → body_checked b ≡ accepted body → Checked b body
unfolding body_checked
checked_facts b {body} = go (ltb (length b) 7) refl (eqb (carried b) (checksum_of (summed b))) refl (eqb (length_of b) (length b - 7)) refl
  where
    go : (t : Bool) → ltb (length b) 7 ≡ t → (u : Bool) → eqb (carried b) (checksum_of (summed b)) ≡ u → (v : Bool) → eqb (length_of b) (length b - 7) ≡ v
        → pick t (refused 14 []) (pick u (pick v (accepted b) (refused 16 (length_of b ∷ (length b - 7) ∷ []))) (refused 15 (carried b ∷ checksum_of (summed b) ∷ []))) ≡ accepted body
        → Checked b body
    go true et u eu v ev e = let z : ◌≡◌ {A = ℕ} 0 1 = cc in absurd (omega arith)
    go false et false eu v ev e = let z : ◌≡◌ {A = ℕ} 0 1 = cc in absurd (omega arith)
    go false et true eu false ev e = let z : ◌≡◌ {A = ℕ} 0 1 = cc in absurd (omega arith)
    go false et true eu true ev e =
        record {
          same = cc;
          long = ltb-false (length b) 7 et;
          sum = eqb-true (carried b) (checksum_of (summed b)) eu;
          len = eqb-true (length_of b) (length b - 7) ev;
        }

-- a checked body is made of its own parts
made : (k s l0 l1 l2 l3 c : ℕ) (p : List ℕ) → l0 < 256 → l1 < 256 → l2 < 256 → l3 < 256 → l0 * 16777216 + l1 * 65536 + l2 * 256 + l3 ≡ length p
    → c ≡ checksum_of (k ∷ s ∷ l0 ∷ l1 ∷ l2 ∷ l3 ∷ p) → body_of k s p ≡ k ∷ s ∷ l0 ∷ l1 ∷ l2 ∷ l3 ∷ (p ++ (c ∷ []))
unfolding body_of
made k s l0 l1 l2 l3 c p h0 h1 h2 h3 el ec =
    let f : length_field (length p) ≡ l0 ∷ l1 ∷ l2 ∷ l3 ∷ [] = ap length_field (sym el) ∙ field_of l0 l1 l2 l3 h0 h1 h2 h3 in
    ap (λ (fs : List ℕ). (k ∷ s ∷ fs ++ p) ++ (checksum_of (k ∷ s ∷ fs ++ p) ∷ [])) f
    ∙ ap (λ (x : ℕ). k ∷ s ∷ l0 ∷ l1 ∷ l2 ∷ l3 ∷ (p ++ (x ∷ []))) (sym ec)

pub body_parts : (b : List ℕ) → Bytes b → Checked b b → body_of (get_or b 0 0) (get_or b 1 0) (payload_of b) ≡ b
body_parts (k ∷ s ∷ l0 ∷ l1 ∷ l2 ∷ l3 ∷ rest) by c =
    let j = length rest - 1 in
    let long : 1 ≤ length rest = omega (arith, c.long) in
    let i7 : length (k ∷ s ∷ l0 ∷ l1 ∷ l2 ∷ l3 ∷ rest) - 7 ≡ j = omega arith in
    let i1 : length (k ∷ s ∷ l0 ∷ l1 ∷ l2 ∷ l3 ∷ rest) - 1 ≡ suc (suc (suc (suc (suc (suc j))))) = omega arith in
    let jn : j < length rest = omega arith in
    let jl : j ≤ length rest = omega arith in
    let sj : suc j ≡ length rest = omega arith in
    let whole : take j rest ++ (get_or rest j 0 ∷ []) ≡ rest = sym (take-suc rest j 0 jn) ∙ take_all (suc j) rest (omega arith) in
    let el : l0 * 16777216 + l1 * 65536 + l2 * 256 + l3 ≡ length (take j rest) = omega (arith, c.len, length-take-le j rest jl) in
    let ec : get_or rest j 0 ≡ checksum_of (k ∷ s ∷ l0 ∷ l1 ∷ l2 ∷ l3 ∷ take j rest) = rw i1 at c.sum in
    rw i7
    (made k s l0 l1 l2 l3 (get_or rest j 0) (take j rest) by.1.1.0 by.1.1.1.0 by.1.1.1.1.0 by.1.1.1.1.1.0 el ec
    ∙ ap (λ (r : List ℕ). k ∷ s ∷ l0 ∷ l1 ∷ l2 ∷ l3 ∷ r) whole)
body_parts (k ∷ s ∷ l0 ∷ l1 ∷ l2 ∷ []) by c = absurd (omega (arith, c.long))
body_parts (k ∷ s ∷ l0 ∷ l1 ∷ []) by c = absurd (omega (arith, c.long))
body_parts (k ∷ s ∷ l0 ∷ []) by c = absurd (omega (arith, c.long))
body_parts (k ∷ s ∷ []) by c = absurd (omega (arith, c.long))
body_parts (k ∷ []) by c = absurd (omega (arith, c.long))
body_parts [] by c = absurd (omega (arith, c.long))

-- what an accepted frame has shown
pub record Accepted (f body : List ℕ) : Type 0 where
  pub framed : f ≡ START ∷ inner f ++ (END ∷ [])
  pub unescaped : unescape_of (inner f) ≡ accepted body
  pub checked : Checked body body

pub between : (f : List ℕ) → 9 ≤ length f → get_or f 0 0 ≡ START → get_or f (length f - 1) 0 ≡ END → f ≡ START ∷ inner f ++ (END ∷ [])
between [] long s e = absurd (omega arith)
between (x ∷ xs) long s e =
    let j = length xs - 1 in
    let i : suc (length xs) - 1 ≡ suc j = omega arith in
    let l : suc (length xs) - 1 - 1 ≡ j = omega arith in
    let jn : j < length xs = omega arith in
    let last : get_or xs j 0 ≡ END = rw i at e in
    let whole : take j xs ++ (get_or xs j 0 ∷ []) ≡ xs = sym (take-suc xs j 0 jn) ∙ take_all (suc j) xs (omega arith) in
    rw (l, s) (ap (λ (r : List ℕ). START ∷ r) (sym whole ∙ ap (λ (y : ℕ). take j xs ++ (y ∷ [])) last))

checked_by : (o : Outcome (List ℕ)) {body : List ℕ} → then_checked o ≡ accepted body → (o ≡ accepted body) × Checked body body
checked_by (refused n vs) e = let z : ◌≡◌ {A = ℕ} 0 1 = cc in absurd (omega arith)
checked_by (accepted b) {body} e =
    let c = checked_facts b e in
    (ap accepted c.same, rw c.same at c)

pub accepted_facts : (f : List ℕ) {body : List ℕ} → unpack_of f ≡ accepted body → Accepted f body
unfolding marked
accepted_facts f {body} = go (ltb (length f) 9) refl (eqb (get_or f 0 0) START) refl (eqb (get_or f (length f - 1) 0) END) refl
  where
    go : (t : Bool) → ltb (length f) 9 ≡ t → (u : Bool) → eqb (get_or f 0 0) START ≡ u → (v : Bool) → eqb (get_or f (length f - 1) 0) END ≡ v
        → pick t (refused 8 []) (pick u (pick v (then_checked (unescape_of (inner f))) (refused 10 [])) (refused 9 [])) ≡ accepted body → Accepted f body
    go true et u eu v ev e = let z : ◌≡◌ {A = ℕ} 0 1 = cc in absurd (omega arith)
    go false et false eu v ev e = let z : ◌≡◌ {A = ℕ} 0 1 = cc in absurd (omega arith)
    go false et true eu false ev e = let z : ◌≡◌ {A = ℕ} 0 1 = cc in absurd (omega arith)
    go false et true eu true ev e =
        let c = checked_by (unescape_of (inner f)) e in
        record {
          framed = between f (ltb-false (length f) 9 et) (eqb-true (get_or f 0 0) START eu) (eqb-true (get_or f (length f - 1) 0) END ev);
          unescaped = c.0;
          checked = c.1;
        }

pub bytes_drop : (n : ℕ) (xs : List ℕ) → Bytes xs → Bytes (drop n xs)
bytes_drop zero xs by = by
bytes_drop (suc n) [] by = tt
bytes_drop (suc n) (x ∷ xs) by = bytes_drop n xs by.1

pub bytes_take : (n : ℕ) (xs : List ℕ) → Bytes xs → Bytes (take n xs)
bytes_take zero xs by = tt
bytes_take (suc n) [] by = tt
bytes_take (suc n) (x ∷ xs) by = (by.0, bytes_take n xs by.1)

-- the body of a frame of bytes is bytes
pub unpack_bytes : (f body : List ℕ) → Bytes f → unpack_of f ≡ accepted body → Bytes body
unpack_bytes f body by e =
    let inside : Bytes (inner f) = bytes_take (length f - 1 - 1) (drop 1 f) (bytes_drop 1 f by) in
    rw (accepted_facts f e).unescaped at (unescape_bytes (inner f) inside)

-- and so is the frame of a body of bytes
pub bytes_append : (xs ys : List ℕ) → Bytes xs → Bytes ys → Bytes (xs ++ ys)
bytes_append [] ys bx by = by
bytes_append (x ∷ xs) ys bx by = (bx.0, bytes_append xs ys bx.1 by)

escape_bytes : (bs : List ℕ) → Bytes bs → Bytes (escape_of bs)
unfolding each_of
escape_bytes [] by = tt
escape_bytes (b ∷ bs) by = bytes_append (escaped_byte b) (escape_of bs) (of_byte b by.0) (escape_bytes bs by.1)
  where
    of_byte : (b : ℕ) → b < 256 → Bytes (escaped_byte b)
    of_byte =
        each_byte (λ b e. b < 256 → Bytes e) (λ _. (omega arith, (omega arith, tt))) (λ _. (omega arith, (omega arith, tt))) (λ _. (omega arith, (omega arith, tt)))
        (λ b _ _ _ h. (h, tt))

pub frame_bytes : (body : List ℕ) → Bytes body → Bytes (frame_of body)
unfolding frame_of
frame_bytes body by = (omega arith, bytes_append (escape_of body) (END ∷ []) (escape_bytes body by) (omega arith, tt))

pub body_bytes : (kind seq : ℕ) (p : List ℕ) → kind < 256 → seq < 256 → Bytes p → Bytes (body_of kind seq p)
unfolding body_of
body_bytes kind seq p k s by =
    let n = length p in
    bytes_append (summed_of kind seq p) (checksum_of (summed_of kind seq p) ∷ []) (k, (s, (below n 16777216, (below n 65536, (below n 256, (omega arith, by)))))) (omega arith, tt)
  where
    below : (n d : ℕ) → n / d % 256 < 256
    below n d = omega arith

-- "Raw `3E` or `3C` inside is accepted by `unpack`; packing again then differs, exactly in that case"
pub repack_same : (f body : List ℕ) → Bytes f → unpack_of f ≡ accepted body → Free START (inner f) → Free END (inner f) → repacked body ≡ f
unfolding frame_of
repack_same f body by e fs fe =
    let a = accepted_facts f e in
    let bs : Bytes body = unpack_bytes f body by e in
    let es : escape_of body ≡ inner f = rw a.unescaped at (escapes (inner f) fs fe) in
    ap frame_of (body_parts body bs a.checked) ∙ ap (λ (xs : List ℕ). START ∷ xs ++ (END ∷ [])) es ∙ sym a.framed

pub repack_free : (f body : List ℕ) → repacked body ≡ f → Free START (inner f) × Free END (inner f)
repack_free f body e =
    let b = body_of (get_or body 0 0) (get_or body 1 0) (payload_of body) in
    let i : inner f ≡ escape_of b = ap inner (sym e) ∙ frame_inner b in
    rw i (escaped_no_start b, escaped_no_end b)

-- "A packed frame is one span": START, bytes that hold neither marker, END
pub one_span : (body : List ℕ) → (frame_of body ≡ START ∷ escape_of body ++ (END ∷ [])) × (Free START (escape_of body) × Free END (escape_of body))
unfolding frame_of
one_span body = (refl, (escaped_no_start body, escaped_no_end body))
