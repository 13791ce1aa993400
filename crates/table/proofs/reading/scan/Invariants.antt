use Rattle.std.proofs.Common.{◌-◌, length}
use Rattle.table.specs.Content.{content}
use Rattle.table.proofs.Prefixes.{Begun}
use Rattle.table.proofs.reading.scan.Given as goal

abbrev pub invariant-loop-table : goal.invariant-loop-table
invariant-loop-table l = Begun l.bytes (content l.table)

abbrev pub decreases-loop-table : goal.decreases-loop-table
decreases-loop-table l = 64 - length (content l.table).flows
