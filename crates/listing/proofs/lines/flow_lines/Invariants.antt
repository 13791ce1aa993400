use Rattle.std.proofs.Common.{ℕ, ◌<◌, ◌++◌, get_or, take}
use Rattle.table.specs.Blank.{blank}
use Rattle.text.specs.Clipped.{Joins}
use Rattle.text.specs.Said.{said}
use Rattle.listing.specs.Lines.{flow_lines}
use Rattle.listing.specs.Small.{FlowSmall}
use Rattle.listing.proofs.lines.flow_lines.Given as goal

abbrev pub invariant-loop-i : goal.invariant-loop-i
invariant-loop-i l =
    Joins (said l.initial.text) (λ a. a ++ flow_lines 1 (take l.i l.flows)) (said l.text)
    × ((k : ℕ) → k < l.i → FlowSmall (get_or l.flows k blank))
