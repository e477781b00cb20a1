-- What a pass knows is what the body's bytes so far show. Assumes nothing.
use Rattle.std.proofs.Common.{◌≡◌, ℕ, zero, suc, ◌+◌, ◌-◌, ◌%◌, ◌<◌, ◌≤◌, Bool, true, false, eqb, ltb, ◌⊎◌, List, [], ◌∷◌, ◌++◌, length, get_or, take, sym, refl, ap, ◌∙◌, inl, inr, append_assoc, append-nil, arith, length-append, take_all, take-suc, take_at, le-ltb, lt-ltb, eq-eqb, ne_eqb}
use lib.Seq.{get_or_at}
use Rattle.base.specs.Outcome.{Outcome, accepted, refused, pick, on_accepted}
use Rattle.base.specs.Sum.{total, checksum_of}
use Rattle.base.proofs.LawsTests.{by_eqb, by_ltb}
use Rattle.base.proofs.LawsSum.{checksum_append}
use Rattle.escaping.specs.Escaping.{SENTRY, then_byte, escapee_then, unescape_of, escapee_of}
use Rattle.escaping.proofs.LawsUnescaping.{escapee, bad_escapee}
use Rattle.framing.specs.Framing.{header_of, length_of, summed, carried, body_checked, then_checked}
use Rattle.framing.specs.declared.framing.Header.{Header}
use Rattle.heading.specs.Pass.{begun, awaiting, with_byte, step_of, end_of}
use Rattle.heading.specs.declared.pass.Pass.{Pass}

pub record Seen (done : List ℕ) (p : Pass) : Type 0 where
  pub count : p.count ≡ length done
  pub kind : p.kind ≡ get_or done 0 0
  pub seq : p.seq ≡ get_or done 1 0
  pub len0 : p.len0 ≡ get_or done 2 0
  pub len1 : p.len1 ≡ get_or done 3 0
  pub len2 : p.len2 ≡ get_or done 4 0
  pub len3 : p.len3 ≡ get_or done 5 0
  pub sum : p.sum ≡ checksum_of (summed done)
  pub last : p.last ≡ carried done

seen_none : Seen [] begun
unfolding total
seen_none = record { count = refl; kind = refl; seq = refl; len0 = refl; len1 = refl; len2 = refl; len3 = refl; sum = refl; last = refl }

eqb_suc : (m n : ℕ) → eqb (suc m) (suc n) ≡ eqb m n
eqb_suc m n = by_eqb (λ t. eqb (suc m) (suc n) ≡ t) m n (λ e. eq-eqb (suc m) (suc n) (ap suc e)) (λ k. ne_eqb (suc m) (suc n) (λ e. k (omega arith)))

-- a byte at the end changes what stands at its own place
get_d_snoc : (xs : List ℕ) (b j : ℕ) → pick (eqb (length xs) j) b (get_or xs j 0) ≡ get_or (xs ++ (b ∷ [])) j 0
get_d_snoc [] b zero = refl
get_d_snoc [] b (suc j) = rw (ne_eqb 0 (suc j) (λ e. omega arith))
get_d_snoc (x ∷ xs) b zero = rw (ne_eqb (suc (length xs)) 0 (λ e. omega arith))
get_d_snoc (x ∷ xs) b (suc j) = rw (eqb_suc (length xs) j) (get_d_snoc xs b j)

module _ (xs : List ℕ) (b : ℕ) where
  snoc_length : length (xs ++ (b ∷ [])) ≡ length xs + 1
  snoc_length = length-append xs (b ∷ [])

  summed_snoc : summed (xs ++ (b ∷ [])) ≡ xs
  summed_snoc = take_at xs (b ∷ []) (length (xs ++ (b ∷ [])) - 1) (omega (arith, snoc_length))

  carried_snoc : carried (xs ++ (b ∷ [])) ≡ b
  carried_snoc = get_or_at xs b [] 0 (length (xs ++ (b ∷ [])) - 1) (omega (arith, snoc_length))

-- all but the last, and the last
sum_all : (xs : List ℕ) → (checksum_of (summed xs) + carried xs) % 256 ≡ checksum_of xs
unfolding total
sum_all [] = refl
sum_all (x ∷ xs) =
    let n = length xs in
    let i : length (x ∷ xs) - 1 ≡ n = omega arith in
    let whole : take n (x ∷ xs) ++ (get_or (x ∷ xs) n 0 ∷ []) ≡ x ∷ xs = sym (take-suc (x ∷ xs) n 0 (omega arith)) ∙ take_all (suc n) (x ∷ xs) (omega arith) in
    let e = checksum_append (take n (x ∷ xs)) (get_or (x ∷ xs) n 0 ∷ []) in
    rw i (omega (arith, sym (ap checksum_of whole) ∙ e))

seen_more : {done : List ℕ} {p : Pass} → Seen done p → (b : ℕ) → length done + 1 < 18446744073709551616 → Seen (done ++ (b ∷ [])) (with_byte p b)
seen_more {done} {p} s b fits =
    record {
      count = rw s.count (omega (arith, snoc_length done b));
      kind = rw (s.count, s.kind) (get_d_snoc done b 0);
      seq = rw (s.count, s.seq) (get_d_snoc done b 1);
      len0 = rw (s.count, s.len0) (get_d_snoc done b 2);
      len1 = rw (s.count, s.len1) (get_d_snoc done b 3);
      len2 = rw (s.count, s.len2) (get_d_snoc done b 4);
      len3 = rw (s.count, s.len3) (get_d_snoc done b 5);
      sum = rw (s.sum, s.last, sum_all done, summed_snoc done b);
      last = sym (carried_snoc done b);
    }

seen_awaiting : {done : List ℕ} {p : Pass} → Seen done p → Seen done (awaiting p)
seen_awaiting s =
    record {
      count = s.count;
      kind = s.kind;
      seq = s.seq;
      len0 = s.len0;
      len1 = s.len1;
      len2 = s.len2;
      len3 = s.len3;
      sum = s.sum;
      last = s.last;
    }

-- the end of a pass is the test of its body
seen_end : {done : List ℕ} {p : Pass} → Seen done p → p.sentry ≡ false → end_of p ≡ on_accepted header_of (body_checked done)
unfolding end_of body_checked
seen_end {done} {p} s e =
    rw (e, s.count, s.kind, s.seq, s.len0, s.len1, s.len2, s.len3, s.sum, s.last)
    (go (ltb (length done) 7) (eqb (carried done) (checksum_of (summed done))) (eqb (length_of done) (length done - 7)))
  where
    go : (t u v : Bool) → pick t (refused 14 []) (pick u (pick v (accepted (header_of done)) (refused 16 (length_of done ∷ (length done - 7) ∷ []))) (refused 15 (carried done ∷ checksum_of (summed done) ∷ [])))
        ≡ on_accepted header_of (pick t (refused 14 []) (pick u (pick v (accepted done) (refused 16 (length_of done ∷ (length done - 7) ∷ []))) (refused 15 (carried done ∷ checksum_of (summed done) ∷ []))))
    go true u v = refl
    go false false v = refl
    go false true false = refl
    go false true true = refl

-- one step, by what the byte is
module _ (p : Pass) (b : ℕ) where
  module _ (e : p.sentry ≡ true) where
    pub step_escapee : 0x2C ≤ b → b < 0x2F → step_of p b ≡ accepted (with_byte p (b + 16))
    unfolding step_of
    step_escapee h k = rw (e, le-ltb b 0x2C h, lt-ltb b 0x2F k)

    pub step_bad : (b < 0x2C) ⊎ (0x2F ≤ b) → step_of p b ≡ refused 13 (b ∷ [])
    unfolding step_of
    step_bad (inl h) = rw (e, lt-ltb b 0x2C h)
    step_bad (inr h) = let k : 0x2C ≤ b = omega arith in rw (e, le-ltb b 0x2C k, le-ltb b 0x2F h)

  module _ (e : p.sentry ≡ false) where
    pub step_sentry : b ≡ SENTRY → step_of p b ≡ accepted (awaiting p)
    unfolding step_of
    step_sentry h = rw (e, eq-eqb b SENTRY h)

    pub step_plain : (b ≡ SENTRY → ⊥) → step_of p b ≡ accepted (with_byte p b)
    unfolding step_of
    step_plain n = rw (e, ne_eqb b SENTRY n)

-- what the bytes that are left come to, from here
abbrev and_then : {A B : Type 0} → Outcome A → (A → Outcome B) → Outcome B
and_then (accepted a) f = f a
and_then (refused n vs) f = refused n vs

unfoldable pub rest_of : Pass → List ℕ → Outcome Header
rest_of p [] = end_of p
rest_of p (b ∷ bs) = and_then (step_of p b) (λ q. rest_of q bs)

-- after a SENTRY, or not
abbrev undone_from : Bool → List ℕ → Outcome (List ℕ)
undone_from true xs = escapee_of xs
undone_from false xs = unescape_of xs

abbrev behind : List ℕ → Outcome (List ℕ) → Outcome (List ℕ)
behind done o = on_accepted (λ bs. done ++ bs) o

behind_byte : (done : List ℕ) (b : ℕ) (o : Outcome (List ℕ)) → behind done (then_byte b o) ≡ behind (done ++ (b ∷ [])) o
behind_byte done b (accepted bs) = ap accepted (sym (append_assoc done (b ∷ []) bs))
behind_byte done b (refused n vs) = refl

-- the header of the body that these bytes complete
abbrev read_behind : List ℕ → Outcome (List ℕ) → Outcome Header
read_behind done o = on_accepted header_of (then_checked (behind done o))

-- a byte of the body goes by
read_more : (done : List ℕ) (b : ℕ) (o : Outcome (List ℕ)) {r : Outcome Header} → r ≡ read_behind (done ++ (b ∷ [])) o → r ≡ read_behind done (then_byte b o)
read_more done b o e = e ∙ ap (λ (x : Outcome (List ℕ)). on_accepted header_of (then_checked x)) (sym (behind_byte done b o))

rest_read : (xs done : List ℕ) (p : Pass) (t : Bool) → p.sentry ≡ t → Seen done p → length done + length xs < 18446744073709551616
    → rest_of p xs ≡ read_behind done (undone_from t xs)
unfolding rest_of unescape_of end_of
rest_read [] done p false e s fits = seen_end s e ∙ ap (λ (xs : List ℕ). on_accepted header_of (body_checked xs)) (sym (append-nil done))
rest_read [] done p true e s fits = rw e
rest_read (b ∷ bs) done p false e s fits =
    by_eqb (λ t. rest_of p (b ∷ bs) ≡ read_behind done (pick t (escapee_of bs) (then_byte b (unescape_of bs)))) b SENTRY
    (λ h. rw (step_sentry p b e h) (rest_read bs done (awaiting p) true refl (seen_awaiting s) (omega arith)))
    (λ n. rw (step_plain p b e n) (read_more done b (unescape_of bs) (rest_read bs (done ++ (b ∷ [])) (with_byte p b) false refl (seen_more s b (omega arith)) (omega (arith, snoc_length done b)))))
rest_read (b ∷ bs) done p true e s fits =
    by_ltb (λ t. rest_of p (b ∷ bs) ≡ read_behind done (escapee_then b (unescape_of bs))) b 0x2C
    (λ h. rw (step_bad p b e (inl h), bad_escapee b (unescape_of bs) (inl h)))
    (λ h. by_ltb (λ t. rest_of p (b ∷ bs) ≡ read_behind done (escapee_then b (unescape_of bs))) b 0x2F
    (λ k. rw (step_escapee p b e h k, escapee b (unescape_of bs) h k) (read_more done (b + 16) (unescape_of bs) (rest_read bs (done ++ ((b + 16) ∷ [])) (with_byte p (b + 16)) false refl (seen_more s (b + 16) (omega arith)) (omega (arith, snoc_length done (b + 16))))))
    (λ k. rw (step_bad p b e (inr k), bad_escapee b (unescape_of bs) (inr k))))

-- from the first byte on, and one byte further
pub pass_read : (xs : List ℕ) → length xs < 18446744073709551616 → rest_of begun xs ≡ on_accepted header_of (then_checked (unescape_of xs))
pass_read xs fits = rest_read xs [] begun false refl seen_none (omega arith) ∙ ap (λ (o : Outcome (List ℕ)). on_accepted header_of (then_checked o)) (nothing (unescape_of xs))
  where
    nothing : (o : Outcome (List ℕ)) → behind [] o ≡ o
    nothing (accepted bs) = refl
    nothing (refused n vs) = refl

pub rest_more : (p : Pass) (b : ℕ) (bs : List ℕ) {q : Pass} → step_of p b ≡ accepted q → rest_of p (b ∷ bs) ≡ rest_of q bs
unfolding rest_of
rest_more p b bs e = rw e

pub rest_refused : (p : Pass) (b : ℕ) (bs : List ℕ) {n : ℕ} {vs : List ℕ} → step_of p b ≡ refused n vs → rest_of p (b ∷ bs) ≡ refused n vs
unfolding rest_of
rest_refused p b bs e = rw e

pub rest_end : (p : Pass) → rest_of p [] ≡ end_of p
unfolding rest_of
rest_end p = refl
