-- Loops and chains of calls that store bytes in a lent output. Assumes nothing.
use Rattle.std.proofs.Common.{◌≡◌, ℕ, suc, ◌+◌, ◌-◌, ◌<◌, ◌≤◌, Bool, true, false, ltb, List, [], ◌∷◌, ◌++◌, length, get_or, take, drop, set, replicate, sym, refl, ap, ◌∙◌, append_assoc, append-nil, add-zero, zero-add, add-one, arith, length-append, length-drop, take-append-drop, drop_of_length-le, take_all, drop-cons, drop-drop, ltb-false, ltb-true, le-ltb, lt-ltb}
use native.Mathlib.Nat.{sub-zero}
use lib.Seq.{sets, sets-eq, length-sets}
use borrow.Rule.Slice.PartMut.{put_mid}
use Rattle.base.specs.Outcome.{accepted, refused, pick}
use Rattle.base.specs.Writing.{WriteEffect, over, zeros, zeroed_from, write_or, write_call}
use Rattle.base.specs.Stored.{Stored}

sets_append : (xs ys out : List ℕ) (at : ℕ) → sets out at (xs ++ ys) ≡ sets (sets out at xs) (at + length xs) ys
sets_append [] ys out at = rw (add-zero at)
sets_append (x ∷ xs) ys out at = sets_append xs ys (set out at x) (suc at) ∙ ap (λ (k : ℕ). sets (sets (set out at x) (suc at) xs) k ys) (omega arith)

pub front : (xs out : List ℕ) → length xs ≤ length out → sets out 0 xs ≡ over xs out
front xs out h = sets-eq xs out 0 (omega arith) ∙ ap (λ (k : ℕ). xs ++ drop k out) (zero-add (length xs))

-- rest is xs and then more
pub record Begins (rest xs more : List ℕ) : Type 0 where
  pub splits : rest ≡ xs ++ more

-- from i on: the byte there, or the bytes up to e, and then what is behind
pub byte_begins : (src : List ℕ) (i : ℕ) → i < length src → Begins (drop i src) (get_or src i 0 ∷ []) (drop (i + 1) src)
byte_begins src i h = record { splits = rw (drop-cons src i 0, add-one) }

pub part_begins : (src : List ℕ) (i e : ℕ) → i ≤ e → Begins (drop i src) (take (e - i) (drop i src)) (drop e src)
part_begins src i e h =
    let e' : i + (e - i) ≡ e = omega arith in
    let behind : drop (e - i) (drop i src) ≡ drop e src = drop-drop (e - i) i src ∙ ap (λ (n : ℕ). drop n src) e' in
    record { splits = sym (take-append-drop (e - i) (drop i src)) ∙ ap (λ (xs : List ℕ). take (e - i) (drop i src) ++ xs) behind }

-- what is still to come, stored from here on, gives what the whole gives from the base
pub record Writing (whole rest out₀ : List ℕ) (base : ℕ) (out : List ℕ) (at : ℕ) : Type 0 where
  pub bytes : sets out at rest ≡ sets out₀ base whole
  pub place : at + length rest ≡ base + length whole
  pub room : at + length rest ≤ length out
  pub same : length out ≡ length out₀

pub begin : {whole out : List ℕ} {base : ℕ} → base + length whole ≤ length out → Writing whole whole out base out base
begin h = record { bytes = refl; place = refl; room = h; same = refl }

module _ {whole rest out₀ out xs more : List ℕ} {base at : ℕ} (w : Writing whole rest out₀ base out at) (b : Begins rest xs more) where
  both : length rest ≡ length xs + length more
  both = ap length b.splits ∙ length-append xs more

  pub room_for : at + length xs ≤ length out
  room_for = omega (arith, both, w.room)

  pub step : {after : List ℕ} {next : ℕ} → Stored xs out at after next → Writing whole more out₀ base after next
  step {after} {next} s =
      record {
        bytes =
            ap (λ (o : List ℕ). sets o next more) s.bytes ∙ ap (λ (k : ℕ). sets (sets out at xs) k more) s.place
            ∙ sym (sets_append xs more out at) ∙ ap (sets out at) (sym b.splits) ∙ w.bytes;
        place = omega (arith, both, w.place, s.place);
        room = omega (arith, both, w.room, s.place, ap length s.bytes, length-sets out at xs);
        same = ap length s.bytes ∙ length-sets out at xs ∙ w.same;
      }

pub stored : {whole rest out₀ out : List ℕ} {base at : ℕ} → Writing whole rest out₀ base out at → rest ≡ [] → Stored whole out₀ base out at
stored {whole} {rest} {out₀} {out} {base} {at} w e =
    record { bytes = ap (sets out at) (sym e) ∙ w.bytes; place = omega (arith, w.place, ap length e) }

pub put : {x : ℕ} {out : List ℕ} {at : ℕ} → Stored (x ∷ []) out at (set out at x) (at + 1)
put = record { bytes = refl; place = refl }

pub put_two : {x y : ℕ} {out : List ℕ} {at : ℕ} → Stored (x ∷ y ∷ []) out at (set (set out at x) (at + 1) y) (at + 2)
put_two {x} {y} {out} {at} = record { bytes = ap (λ (k : ℕ). set (set out at x) k y) (add-one at); place = refl }

pub then : {xs ys out mid after : List ℕ} {at p q : ℕ} → Stored xs out at mid p → Stored ys mid p after q → Stored (xs ++ ys) out at after q
then {xs} {ys} {out} {mid} {after} {at} {p} {q} s t =
    record {
      bytes =
          t.bytes ∙ ap (λ (o : List ℕ). sets o p ys) s.bytes ∙ ap (λ (k : ℕ). sets (sets out at xs) k ys) s.place
          ∙ sym (sets_append xs ys out at);
      place = omega (arith, s.place, t.place, length-append xs ys);
    }

-- the two outcomes of a call that writes bytes at the front, whatever number says that they do not fit
module _ (number : ℕ) (bytes out : List ℕ) where
  pub write_cases : (P : WriteEffect → Type 0)
      → (length out < length bytes → P (record { answer = refused number []; out = out }))
      → (length bytes ≤ length out → P (record { answer = accepted (length bytes); out = over bytes out })) → P (write_or number bytes out)
  unfolding write_or
  write_cases P long fits = go (ltb (length out) (length bytes)) refl
    where
      go : (t : Bool) → ltb (length out) (length bytes) ≡ t
          → P (pick t (record { answer = refused number []; out = out }) (record { answer = accepted (length bytes); out = over bytes out }))
      go true e = long (ltb-true (length out) (length bytes) e)
      go false e = fits (ltb-false (length out) (length bytes) e)

  pub write_refused : length out < length bytes → write_or number bytes out ≡ record { answer = refused number []; out = out }
  unfolding write_or
  write_refused h = rw (lt-ltb (length out) (length bytes) h)

  write_over : length bytes ≤ length out → write_or number bytes out ≡ record { answer = accepted (length bytes); out = over bytes out }
  unfolding write_or
  write_over h = rw (le-ltb (length out) (length bytes) h)

pub write_fits : (number : ℕ) {bytes out after : List ℕ} {n : ℕ} → length bytes ≤ length out → Stored bytes out 0 after n
    → write_or number bytes out ≡ record { answer = accepted n; out = after }
write_fits number {bytes} {out} {after} {n} h s =
    let e : n ≡ length bytes = omega (arith, s.place) in
    write_over number bytes out h ∙ rw (s.bytes, front bytes out h, e)

-- a part that goes to the end, and the whole with other bytes in its place
pub part_rest : (n : ℕ) (xs : List ℕ) → take (length xs - n) (drop n xs) ≡ drop n xs
part_rest n xs = take_all (length xs - n) (drop n xs) (omega (arith, length-drop n xs))

pub put_rest : (n : ℕ) (xs ys : List ℕ) → put_mid n (length xs - n) xs ys ≡ take n xs ++ ys
put_rest n xs ys =
    let k : length (drop n xs) ≤ length xs - n = omega (arith, length-drop n xs) in
    rw (drop_of_length-le (drop n xs) k, append-nil)

-- a write call that is lent an output from `at` on, and has room there
module _ (bytes out : List ℕ) (at : ℕ) (h : at + length bytes ≤ length out) where
  pub part_written : write_call bytes (take (length out - at) (drop at out)) ≡ record { answer = accepted (length bytes); out = over bytes (drop at out) }
  part_written = rw (part_rest at out) (write_over 18 bytes (drop at out) (omega (arith, length-drop at out)))

  pub part_stored : Stored bytes out at (put_mid at (length out - at) out (write_call bytes (take (length out - at) (drop at out))).out) (at + length bytes)
  part_stored = record { bytes = rw (part_written, put_rest at out (over bytes (drop at out)), drop-drop (length bytes) at out, sets-eq bytes out at h, append_assoc); place = refl }

-- all of it
pub zeroed_all : (xs : List ℕ) → zeroed_from 0 xs ≡ zeros xs
unfolding zeroed_from
zeroed_all xs = ap (λ (n : ℕ). replicate n 0) (sub-zero (length xs))
