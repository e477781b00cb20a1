use Rattle.std.proofs.Common.{◌≡◌, ◌+◌, ◌≤◌, length, take}
use Rattle.escaping.specs.Escaping.{escape_of}
use Rattle.escaping.proofs.escaping.special_in.Given as goal

abbrev pub invariant-loop-b : goal.invariant-loop-b
invariant-loop-b l = record { few : l.n ≤ l.b-index; counted : length (escape_of (take l.b-index l.block)) ≡ l.b-index + l.n }
