-- 02, C-14: "cut anywhere": the sum of the end is added to the front's. Assumes nothing.
use Rattle.std.proofs.Common.{◌≡◌, ℕ, List, take, drop, ap, ◌∙◌, take-append-drop}
use Rattle.base.specs.Sum.{checksum_of}
use Rattle.from_end.specs.FromEnd.{back_onto}
use Rattle.from_end.proofs.LawsFromEnd.{far_end}

-- a list, and any place to cut it at
pub cut_anywhere : (bytes : List ℕ) (k : ℕ) → back_onto (back_onto 0 (drop k bytes)) (take k bytes) ≡ checksum_of bytes
cut_anywhere bytes k = far_end (take k bytes) (drop k bytes) ∙ ap checksum_of (take-append-drop k bytes)
