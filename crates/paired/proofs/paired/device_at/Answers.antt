use native.Mathlib.Nat.{add-sub_cancel_left}
use Rattle.paired.proofs.paired.device_at.Goals as goal

pub returns : goal.returns
returns c = simp (c.count_characters-characters.ensures, add-sub_cancel_left)
