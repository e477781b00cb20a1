use mathlib.Core.Path.{refl, sym, ◌∙◌}
use lib.ListN.{length}
use borrow.Author.Tests.{leb-true, leb-false}
use Rattle.escaping.specs.Escaping.{escape_of}
use Rattle.base.proofs.LawsWriting.{write_fits, write_refused}
use Rattle.escaping.proofs.escaping.escape.Goals as goal

pub returns-then-not-escape_fits : goal.returns-then-not-escape_fits
returns-then-not-escape_fits c =
    let a = c.args in
    rw (write_refused 18 (escape_of a.src.now) a.out.now (leb-false (length (escape_of a.src.now)) (length a.out.now) (sym c.escape_fits.ensures ∙ c.if-not-escape_fits.true)))
    (record { result_value = refl; out_after = refl })

pub returns : goal.returns
returns c = rw (write_fits 18 (leb-true _ _ (sym c.escape_fits.ensures ∙ c.if-not-escape_fits.false)) c.escape_at.ensures) (record { result_value = refl; out_after = refl })
