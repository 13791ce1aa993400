use Rattle.listing.proofs.Pieces.{lined_more}
use Rattle.listing.proofs.plans.queue_lines.Goals as goal

pub loop-y-preserved : goal.loop-y-preserved
loop-y-preserved c = lined_more _ _ _ _ _ _ c.loop-y.invariant c.queue_row.ensures.says c.queue_row.ensures.small
