-- Laws of the list of devices.
use Prim.Native.Nat.{ℕ, ◌+◌, ◌≤◌}
use mathlib.Core.Path.{◌≡◌}
use mathlib.Core.List.{List}
use native.Mathlib.Omega.{arith}
use lib.Dec.{eqb}
use lib.ListN.{take, drop, length-take}
use Rattle.reading.specs.Items.{headed, counted}
use Rattle.reading.proofs.LawsItems.{own_headed}
use Rattle.reading.proofs.LawsReading.{OneLength, one_length, steady_counted, Causes, causes, whole_accepted}
use Rattle.text.proofs.LawsCharacters.{at_most}
use Rattle.paired.specs.Paired.{name_length, paired_of, device_at}
use Rattle.std.specs.Prelude.{Some}

pub paired_length : OneLength paired_of
paired_length = one_length _ _ _ (steady_counted 2 (own_headed 21) 1)

pub paired_causes : Causes (λ kind. eqb kind 0x02) (counted 2 (headed 21) 1) paired_of
paired_causes = causes _ _ _ (λ p s. whole_accepted _)

-- a name has no more characters than bytes, so 256, which no length byte holds, is free to stand for no text
pub name_characters : (p : List ℕ) (at n : ℕ) → (device_at p at).characters ≡ Some n → n ≤ name_length p at
name_characters p at n e = omega (arith, at_most (take (name_length p at) (drop (at + 22) p)) n e, length-take (name_length p at) (drop (at + 22) p))
