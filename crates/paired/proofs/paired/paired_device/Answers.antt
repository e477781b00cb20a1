use Prim.Native.Nat.{ℕ, ◌<◌, min}
use mathlib.Core.Path.{◌≡◌, ap, sym, ◌∙◌}
use mathlib.Core.List.{List}
use native.Mathlib.Omega.{arith}
use lib.ListN.{length}
use borrow.Author.Tests.{lt-ltb, le-ltb}
use Rattle.base.specs.Outcome.{accepted}
use Rattle.reading.specs.Items.{headed, walk}
use Rattle.reading.proofs.LawsReading.{item_ends}
use Rattle.paired.specs.Paired.{device_end, start_of, paired_of, lookup_of}
use Rattle.paired.proofs.paired.paired_device.Goals as goal
use Rattle.base.specs.Refusal.{outcome_of}

-- the device lies in the payload, so the walk to it, cut at the payload's length, reaches it
module _ (p : List ℕ) (index count : ℕ) (told : paired_of p ≡ accepted count) (h : index < count) where
  inside : device_end p (start_of p index) < length p
  inside = omega (arith, item_ends _ 2 (headed 21) 1 p count told index h)

  reached : {at : ℕ} → at ≡ min (walk (headed 21) p index 3) (length p) → at ≡ start_of p index
  reached e = e ∙ omega (arith, inside)

pub returns-in-Err : goal.returns-in-Err
unfolding lookup_of
returns-in-Err c = rw (sym c.decode_paired_devices.ensures ∙ ap outcome_of c.in-Err.is)

pub returns-then-index-count : goal.returns-then-index-count
unfolding lookup_of
returns-then-index-count c =
    rw (sym c.decode_paired_devices.ensures ∙ ap outcome_of c.in-Ok.is, le-ltb _ _ c.if-index-count.true)

pub device_at-requires : goal.device_at-requires
device_at-requires c =
    let a = c.args in
    let told : paired_of a.payload.now ≡ accepted c.in-Ok.count = sym c.decode_paired_devices.ensures ∙ ap outcome_of c.in-Ok.is in
    rw (reached _ _ _ told c.if-index-count.false c.items_end-at.ensures) (omega (arith, inside _ _ _ told c.if-index-count.false))

pub returns-else-index-count : goal.returns-else-index-count
unfolding lookup_of
returns-else-index-count c =
    let a = c.args in
    let told : paired_of a.payload.now ≡ accepted c.in-Ok.count = sym c.decode_paired_devices.ensures ∙ ap outcome_of c.in-Ok.is in
    rw (c.device_at.ensures, reached _ _ _ told c.if-index-count.false c.items_end-at.ensures, told, lt-ltb _ _ c.if-index-count.false)
