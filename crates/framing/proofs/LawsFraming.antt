-- Laws of packing and unpacking, one for each return of the code. Assumes nothing.
use Rattle.std.proofs.Common.{◌≡◌, ℕ, ◌+◌, ◌-◌, ◌*◌, ◌%◌, ◌<◌, ◌≤◌, Bool, true, false, eqb, ltb, List, [], ◌∷◌, ◌++◌, length, get_or, take, drop, refl, ap, ◌∙◌, arith, length-append, length-drop, length-take, length-take-le, get_or-take, take-take, take_at, ltb-false, le-ltb, lt-ltb, ne_eqb}
use Rattle.base.specs.Outcome.{Outcome, accepted, refused, pick, on_accepted}
use Rattle.base.specs.DataType.{to_wire}
use Rattle.base.specs.Sum.{checksum_of}
use Rattle.base.specs.Writing.{WriteEffect, zeros, zeroed_from, write_call}
use Rattle.base.specs.Stored.{Stored}
use Rattle.escaping.specs.Escaping.{START, END, escaped_byte, escape_of, unescape_of, unescape_left, unescape_call}
use Rattle.framing.specs.Framing.{length_field, body_of, frame_of, pack_call, length_of, carried, summed, header_of, body_checked, then_checked, inner, inner_of, marked, unpack_of, unpack_by, unpack_call}
use Rattle.framing.specs.declared.framing.Header.{Header}
use Rattle.base.specs.declared.data_type.DataType.{DataType}
use Rattle.base.proofs.LawsSum.{checksum_append}
use Rattle.escaping.proofs.LawsEscaping.{each_append, each_width, escaped_width}
use Rattle.escaping.proofs.LawsUnescaping.{unescape_shorter}

-- a frame, written part by part
module _ (h p : List ℕ) (s : ℕ) where
  pub frame_parts : frame_of (h ++ p ++ (s ∷ [])) ≡ START ∷ (escape_of h ++ escape_of p ++ escape_of (s ∷ [])) ++ (END ∷ [])
  unfolding frame_of
  frame_parts = rw (each_append escaped_byte (h ++ p) (s ∷ []), each_append escaped_byte h p)

  pub parts_length : length (frame_of (h ++ p ++ (s ∷ []))) ≡ 2 + length (escape_of h) + length (escape_of p) + length (escape_of (s ∷ []))
  parts_length = ap length frame_parts ∙ simp length-append (omega arith)

  pub parts_width : length (frame_of (h ++ p ++ (s ∷ []))) ≤ 4 + 2 * length h + 2 * length p
  parts_width = omega (arith, parts_length, each_width escaped_byte escaped_width h, each_width escaped_byte escaped_width p, each_width escaped_byte escaped_width (s ∷ []))

  pub frame_stored : {out after : List ℕ} {n : ℕ} → Stored ((START ∷ []) ++ escape_of h ++ escape_of p ++ escape_of (s ∷ []) ++ (END ∷ [])) out 0 after n → Stored (frame_of (h ++ p ++ (s ∷ []))) out 0 after n
  frame_stored t = rw frame_parts t

pub pack_long : (kind : DataType) (seq : ℕ) (p out : List ℕ) → 4294967295 < length p → pack_call kind seq p out ≡ record { answer = refused 17 []; out = out }
unfolding pack_call
pack_long kind seq p out h = rw (lt-ltb 4294967295 (length p) h)

pub pack_by : (kind : DataType) (w seq sum : ℕ) (field p out : List ℕ) → length p ≤ 4294967295 → w ≡ to_wire kind → field ≡ length_field (length p)
    → sum ≡ (checksum_of (w ∷ seq ∷ field) + checksum_of p) % 256
    → pack_call kind seq p out ≡ write_call (frame_of ((w ∷ seq ∷ field) ++ p ++ (sum ∷ []))) out
unfolding pack_call body_of
pack_by kind w seq sum field p out h e f k =
    rw (le-ltb 4294967295 (length p) h, k, ← checksum_append (w ∷ seq ∷ field) p, f, e)

-- 8, 9, 10, or what follows
module _ {A : Type 0} (refuse : ℕ → A) (f : List ℕ) (next : A) where
  pub mark_short : length f < 9 → marked refuse f next ≡ refuse 8
  unfolding marked
  mark_short h = rw (lt-ltb (length f) 9 h)

  module _ (long : 9 ≤ length f) where
    pub mark_start : (get_or f 0 0 ≡ START → ⊥) → marked refuse f next ≡ refuse 9
    unfolding marked
    mark_start n = rw (le-ltb (length f) 9 long, ne_eqb (get_or f 0 0) START n)

    module _ (s : get_or f 0 0 ≡ START) where
      pub mark_end : (get_or f (length f - 1) 0 ≡ END → ⊥) → marked refuse f next ≡ refuse 10
      unfolding marked
      mark_end n = rw (le-ltb (length f) 9 long, s, ne_eqb (get_or f (length f - 1) 0) END n)

      pub mark_next : get_or f (length f - 1) 0 ≡ END → marked refuse f next ≡ next
      unfolding marked
      mark_next e = rw (le-ltb (length f) 9 long, s, e)

  -- the tests go alike whatever they lead to
  marked_both : (P : Outcome (List ℕ) → A → Type 0) → P (accepted (inner f)) next → ((n : ℕ) → P (refused n []) (refuse n)) → P (inner_of f) (marked refuse f next)
  unfolding marked
  marked_both P good bad = go (ltb (length f) 9) (eqb (get_or f 0 0) START) (eqb (get_or f (length f - 1) 0) END)
    where
      go : (t u v : Bool) → P (pick t (refused 8 []) (pick u (pick v (accepted (inner f)) (refused 10 [])) (refused 9 []))) (pick t (refuse 8) (pick u (pick v next (refuse 10)) (refuse 9)))
      go true u v = bad 8
      go false false v = bad 9
      go false true false = bad 10
      go false true true = good

  pub marked_good : {bytes : List ℕ} → accepted bytes ≡ inner_of f → (bytes ≡ inner f) × (marked refuse f next ≡ next)
  marked_good {bytes} = marked_both (λ o a. accepted bytes ≡ o → (bytes ≡ inner f) × (a ≡ next)) (λ e. (cc, refl)) (λ n e. (cc, cc))

  pub marked_bad : {n : ℕ} {vs : List ℕ} → refused n vs ≡ inner_of f → (vs ≡ []) × (marked refuse f next ≡ refuse n)
  marked_bad {n} {vs} = marked_both (λ o a. refused n vs ≡ o → (vs ≡ []) × (a ≡ refuse n)) (λ e. (cc, cc)) (λ m e. (cc, let k : m ≡ n = cc in ap refuse k))

pub length_inner : (f : List ℕ) → length (inner f) ≡ length f - 2
length_inner f = simp (length-take, length-drop) (omega arith)

-- an unescaping by its outcome, where t says that the output is too short
abbrev ran : Bool → List ℕ → Outcome (List ℕ) → WriteEffect
ran t w o = pick t (record { answer = refused 11 []; out = w }) (record { answer = on_accepted length o; out = unescape_left o w })

-- in a work area that is long enough, by the frame's outcome
pub unpack_long : (f w : List ℕ) → 9 ≤ length f → get_or f 0 0 ≡ START → get_or f (length f - 1) 0 ≡ END → length f - 2 ≤ length w → unpack_call f w ≡ unpack_by (unpack_of f) (length w)
unfolding unpack_call
unpack_long f w long s e room =
    mark_next _ f _ long s e
    ∙ rw (le-ltb (length w) (length f - 2) room, mark_next (λ n. refused n []) f (then_checked (unescape_of (inner f))) long s e)

-- the call once the markers are seen, by how unescaping the inner bytes ended
pub record Opened (f w : List ℕ) (n : ℕ) (out : List ℕ) : Type 0 where
  pub within : n ≤ length out
  pub same : length out ≡ length w
  pub call : unpack_call f w ≡ unpack_by (body_checked (take n out)) (length out)

module _ (f w : List ℕ) where
  pub unpack_unmarked : {n : ℕ} {vs : List ℕ} → refused n vs ≡ inner_of f → unpack_call f w ≡ record { answer = refused n vs; work = w }
  unfolding unpack_call
  unpack_unmarked m = let e = marked_bad (λ n. record { answer = refused n []; work = w }) f _ m in e.1 ∙ rw e.0

  module _ {bytes : List ℕ} (m : accepted bytes ≡ inner_of f) where
    opened : unpack_call f w ≡ pick (ltb (length w) (length bytes)) (record { answer = refused 11 []; work = w }) (unpack_by (then_checked (unescape_of bytes)) (length w))
    unfolding unpack_call
    opened = let e = marked_good (λ n. record { answer = refused n []; work = w }) f _ m in e.1 ∙ rw (e.0, length_inner f)

    pub unpack_not : {n : ℕ} {vs after : List ℕ} → refused n vs ≡ (unescape_call bytes w).answer → after ≡ (unescape_call bytes w).out
        → unpack_call f w ≡ record { answer = refused n vs; work = after }
    unfolding unescape_call
    unpack_not {n} {vs} {after} p q = opened ∙ go (ltb (length w) (length bytes)) (unescape_of bytes) p q
      where
        go : (t : Bool) (o : Outcome (List ℕ))
            → refused n vs ≡ (ran t w o).answer
            → after ≡ (ran t w o).out
            → pick t (record { answer = refused 11 []; work = w }) (unpack_by (then_checked o) (length w)) ≡ record { answer = refused n vs; work = after }
        go true o p q = let en : n ≡ 11 = cc in let ev : vs ≡ [] = cc in rw (en, ev, q)
        go false (accepted bs) p q = cc
        go false (refused m us) p q = let en : n ≡ m = cc in let ev : vs ≡ us = cc in rw (en, ev, q)

    pub unpack_body : {n : ℕ} {after : List ℕ} → accepted n ≡ (unescape_call bytes w).answer → after ≡ (unescape_call bytes w).out → Opened f w n after
    unfolding unescape_call
    unpack_body {n} {after} p q = go (ltb (length w) (length bytes)) refl (unescape_of bytes) refl p q
      where
        go : (t : Bool) → ltb (length w) (length bytes) ≡ t → (o : Outcome (List ℕ)) → unescape_of bytes ≡ o
            → accepted n ≡ (ran t w o).answer
            → after ≡ (ran t w o).out
            → Opened f w n after
        go true et o eo p q = record { within = cc; same = cc; call = cc }
        go false et (refused m us) eo p q = record { within = cc; same = cc; call = cc }
        go false et (accepted bs) eo p q =
            let k : n ≡ length bs = cc in
            let r : length bs ≤ length w = omega (arith, unescape_shorter bytes eo, ltb-false (length w) (length bytes) et) in
            let l : length after ≡ length w = ap length q ∙ simp (length-append, length-drop) (omega arith) in
            record { within = omega arith; same = l; call = opened ∙ rw (et, eo, l, q, k, take_at bs (drop (length bs) w) (length bs) refl) }

-- a body that stands in the first n bytes of a work area, by what is told of it
pub told_of : (o : Outcome (List ℕ)) (room : ℕ) → (unpack_by o room).answer ≡ on_accepted header_of o
told_of (accepted body) room = refl
told_of (refused n vs) room = refl

-- a body whose checksum does not fit
module _ (w : List ℕ) (n : ℕ) (within : n ≤ length w) (k : 7 ≤ n) {d s : ℕ} (ed : d ≡ get_or w (n - 1) 0) (es : s ≡ checksum_of (take (n - 1) w)) where
  pub check_sum : (d ≡ s → ⊥) → unpack_by (body_checked (take n w)) (length w) ≡ record { answer = refused 15 (d ∷ s ∷ []); work = zeros w }
  unfolding body_checked
  check_sum ne =
      let i : n - 1 < n = omega arith in
      let j : n - 1 ≤ n = omega arith in
      rw (length-take-le n w within, get_or-take n w (n - 1) 0 i, take-take (n - 1) n w j, ← ed, ← es, le-ltb n 7 k, ne_eqb d s ne)

-- a body is accepted as it is, or refused
checked_cases : (body : List ℕ) (P : Outcome (List ℕ) → Type 0) → P (accepted body) → ((k : ℕ) (vs : List ℕ) → P (refused k vs)) → P (body_checked body)
unfolding body_checked
checked_cases body P good bad = go (ltb (length body) 7) (eqb (carried body) (checksum_of (summed body))) (eqb (length_of body) (length body - 7))
  where
    go : (t u v : Bool) → P (pick t (refused 14 []) (pick u (pick v (accepted body) (refused 16 (length_of body ∷ (length body - 7) ∷ []))) (refused 15 (carried body ∷ checksum_of (summed body) ∷ []))))
    go true u v = bad 14 []
    go false false v = bad 15 _
    go false true false = bad 16 _
    go false true true = good

module _ (w : List ℕ) (n : ℕ) where
  pub left_good : {h : Header} → n ≤ length w → accepted h ≡ on_accepted header_of (body_checked (take n w)) → (unpack_by (body_checked (take n w)) (length w)).work ≡ zeroed_from n w
  unfolding zeroed_from
  left_good {h} le =
      checked_cases (take n w) (λ o. accepted h ≡ on_accepted header_of o → (unpack_by o (length w)).work ≡ zeroed_from n w)
      (λ _. rw (length-take-le n w le)) (λ k vs e. cc)

  pub left_bad : {k : ℕ} {vs : List ℕ} → refused k vs ≡ on_accepted header_of (body_checked (take n w)) → (unpack_by (body_checked (take n w)) (length w)).work ≡ zeros w
  left_bad {k} {vs} =
      checked_cases (take n w) (λ o. refused k vs ≡ on_accepted header_of o → (unpack_by o (length w)).work ≡ zeros w)
      (λ e. cc) (λ _ _ _. refl)
