use mathlib.Core.Path.{refl, sym}
use Rattle.window_answers.proofs.window_answers.window_pushed.Goals as goal

pub returns-in-Ok : goal.returns-in-Ok
returns-in-Ok c =
    let t = c.window_told.ensures in
    let p = c.push-next.ensures in
    rw (sym c.decode_noise.ensures, c.in-Ok.is, sym p) (record { status_value = c.window_told.ensures.value; window_value = refl; values_after = c.window_told.ensures.values_after })

pub returns-in-Err : goal.returns-in-Err
returns-in-Err c =
    let t = c.refuse.ensures in
    rw (sym c.decode_noise.ensures, c.in-Err.is) (record { status_value = c.refuse.ensures.value; window_value = refl; values_after = c.refuse.ensures.values_after })
