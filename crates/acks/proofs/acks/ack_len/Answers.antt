use Rattle.std.proofs.Common.{◌≡◌, ℕ, ◌+◌, ◌%◌, [], ◌∷◌, length, refl, ◌∙◌, arith}
use Rattle.escaping.specs.Escaping.{escape_of}
use Rattle.acks.proofs.LawsAcks.{answer, ack_body, ack_length, ack_width}
use Rattle.acks.proofs.acks.ack_len.Goals as goal

-- the body that is measured is the ack's
measured : (seq : ℕ) {a b n : ℕ} → a ≡ answer seq → b ≡ (1 + a) % 256 → n ≡ length (escape_of (1 ∷ a ∷ 0 ∷ 0 ∷ 0 ∷ 0 ∷ b ∷ [])) → n ≡ length (escape_of (ack_body seq))
measured seq e f g = g ∙ rw (f, e)

pub overflow_add-result : goal.overflow_add-result
overflow_add-result c =
    let s = c.args.seq in
    omega (arith, measured s (omega arith) (omega arith) c.escaped_len.ensures, ack_length s, (ack_width s).1)

pub returns : goal.returns
returns c =
    let s = c.args.seq in
    omega (arith, measured s (omega arith) (omega arith) c.escaped_len.ensures, ack_length s)
