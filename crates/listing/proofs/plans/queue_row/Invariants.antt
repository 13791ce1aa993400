use Rattle.table.specs.Content.{content}
use Rattle.bounds.specs.Sums.{units_of}
use Rattle.text.specs.Said.{said}
use Rattle.listing.specs.Plans.{queue_at}
use Rattle.listing.proofs.Pieces.{Lined}
use Rattle.listing.proofs.plans.queue_row.Given as goal

abbrev pub invariant-loop-x : goal.invariant-loop-x
invariant-loop-x l = Lined (said l.initial.text) (said l.text) 33 l.x (λ column. queue_at (content l.plan.table) (units_of l.plan.bursts) (column, l.y))
