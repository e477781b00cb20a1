-- 02, C-17: the counts of a scanner add up.
use Rattle.std.specs.Prelude.{◌+◌, ◌≡◌}
use Rattle.scanner.specs.declared.scanner.Scanner.{Scanner}

-- "pushed equals spans plus dropped plus held"
abbrev pub AddsUp : Scanner → Type 0
AddsUp s = s.pushed ≡ s.handed + s.dropped + s.count
