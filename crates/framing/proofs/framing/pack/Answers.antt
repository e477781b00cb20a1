use Rattle.std.proofs.Common.{◌≡◌, ◌+◌, ◌%◌, ◌<◌, [], ◌∷◌, length, get_or, refl, arith}
use Rattle.framing.specs.Framing.{frame_of, length_field}
use Rattle.framing.proofs.LawsFraming.{pack_long, pack_by}
use Rattle.framing.proofs.framing.pack.Goals as goal

pub returns-in_default : goal.returns-in_default
returns-in_default c =
    let a = c.args in
    let long : 4294967295 < length a.payload.now = omega (arith, c.in_default.ensures) in
    rw (pack_long a.data_type a.seq a.payload.now a.out.now long) (record { result_value = refl; out_after = refl })

pub returns : goal.returns
unfolding frame_of
returns c =
    let a = c.args in
    let bs = c.to_be_bytes.result in
    let field : get_or bs 0 0 ∷ get_or bs 1 0 ∷ get_or bs 2 0 ∷ get_or bs 3 0 ∷ [] ≡ length_field (length a.payload.now) = rw (c.to_be_bytes.ensures, c.in-Ok.ensures.1) in
    rw (pack_by a.data_type c.to_wire.result a.seq ((c.checksum.result + c.checksum-2.result) % 256) _ a.payload.now a.out.now (omega (arith, c.in-Ok.ensures)) c.to_wire.ensures field (omega (arith, c.checksum.ensures, c.checksum-2.ensures)))
    c.escape_framed.ensures
