use Rattle.table.specs.Content.{content}
use Rattle.bounds.specs.Sums.{units_of}
use Rattle.text.specs.Said.{said}
use Rattle.listing.specs.Plans.{queue_row}
use Rattle.listing.proofs.Pieces.{Lined}
use Rattle.listing.proofs.plans.queue_lines.Given as goal

abbrev pub invariant-loop-y : goal.invariant-loop-y
invariant-loop-y l = Lined (said l.initial.text) (said l.text) 264 l.y (queue_row (content l.plan.table) (units_of l.plan.bursts))
