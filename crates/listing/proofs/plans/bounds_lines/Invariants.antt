use Rattle.table.specs.Content.{content}
use Rattle.bounds.specs.Sums.{units_of}
use Rattle.text.specs.Said.{said}
use Rattle.listing.specs.Plans.{bounds_at}
use Rattle.listing.proofs.Pieces.{Lined}
use Rattle.listing.proofs.plans.bounds_lines.Given as goal

abbrev pub invariant-loop-k : goal.invariant-loop-k
invariant-loop-k l = Lined (said l.initial.text) (said l.text) 88 l.k (bounds_at (content l.plan.table) (units_of l.plan.bursts))
