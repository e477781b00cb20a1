use Rattle.std.proofs.Common.{ℕ, ◌+◌, ◌≤◌, List, [], ◌∷◌, ◌++◌, length, sym, refl, ◌∙◌, arith, length-set, leb-false, leb-true}
use Rattle.escaping.specs.Escaping.{escape_of, framed}
use Rattle.base.proofs.LawsWriting.{put, then, write_fits, write_refused}
use Rattle.escaping.proofs.LawsEscaping.{framed_stored, framed_length}
use Rattle.escaping.proofs.escaping.escape_framed.Goals as goal

-- the room for the frame's parts
room : (head payload : List ℕ) (sum n : ℕ) → length (framed (head ++ payload ++ (sum ∷ []))) ≤ n
    → 2 + length (escape_of head) + length (escape_of payload) + length (escape_of (sum ∷ [])) ≤ n
room head payload sum n fits = omega (arith, framed_length head payload sum)

pub returns-then-not-framed_fits : goal.returns-then-not-framed_fits
returns-then-not-framed_fits c =
    let a = c.args in
    let bytes = framed (a.head.now ++ a.payload.now ++ (a.sum ∷ [])) in
    rw (write_refused 18 bytes a.out.now (leb-false (length bytes) (length a.out.now) (sym c.framed_fits.ensures ∙ c.if-not-framed_fits.true))) (record { result_value = refl; out_after = refl })

pub bounds-out-0 : goal.bounds-out-0
bounds-out-0 c = omega (arith, room c.args.head.now c.args.payload.now c.args.sum _ (leb-true _ _ (sym c.framed_fits.ensures ∙ c.if-not-framed_fits.false)))

pub escape_at-a-requires : goal.escape_at-a-requires
escape_at-a-requires c = simp length-set (omega (arith, room c.args.head.now c.args.payload.now c.args.sum _ (leb-true _ _ (sym c.framed_fits.ensures ∙ c.if-not-framed_fits.false))))

pub escape_at-b-requires : goal.escape_at-b-requires
escape_at-b-requires c =
    omega (arith, room c.args.head.now c.args.payload.now c.args.sum _ (leb-true _ _ (sym c.framed_fits.ensures ∙ c.if-not-framed_fits.false)), length-set c.args.out.now 0 62, c.escape_at-a.ensures.place)

pub escape_at-c-requires : goal.escape_at-c-requires
escape_at-c-requires c =
    omega (arith, room c.args.head.now c.args.payload.now c.args.sum _ (leb-true _ _ (sym c.framed_fits.ensures ∙ c.if-not-framed_fits.false)), length-set c.args.out.now 0 62, c.escape_at-a.ensures.place, c.escape_at-b.ensures.place)

pub bounds-out-c : goal.bounds-out-c
bounds-out-c c =
    omega (arith, room c.args.head.now c.args.payload.now c.args.sum _ (leb-true _ _ (sym c.framed_fits.ensures ∙ c.if-not-framed_fits.false)), length-set c.args.out.now 0 62, c.escape_at-a.ensures.place, c.escape_at-b.ensures.place, c.escape_at-c.ensures.place)

pub overflow_add-result : goal.overflow_add-result
overflow_add-result c =
    omega (arith, room c.args.head.now c.args.payload.now c.args.sum _ (leb-true _ _ (sym c.framed_fits.ensures ∙ c.if-not-framed_fits.false)), length-set c.args.out.now 0 62, c.escape_at-a.ensures.place, c.escape_at-b.ensures.place, c.escape_at-c.ensures.place)

pub returns : goal.returns
returns c =
    let a = c.args in
    let fits = leb-true _ _ (sym c.framed_fits.ensures ∙ c.if-not-framed_fits.false) in
    let s = framed_stored a.head.now a.payload.now a.sum (then (then (then (then put c.escape_at-a.ensures) c.escape_at-b.ensures) c.escape_at-c.ensures) put) in
    rw (write_fits 18 {out = a.out.now} fits s) (record { result_value = refl; out_after = refl })
