use Rattle.std.proofs.Common.{◌-◌}
use Rattle.replay_payload.proofs.strings.+strings.Given as goal

-- the places that are left
abbrev pub decreases-strings : goal.decreases-strings
decreases-strings l = l.n - l.at
