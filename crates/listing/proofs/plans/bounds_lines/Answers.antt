use Rattle.text.proofs.Clips.{joins_one}
use Rattle.listing.proofs.Pieces.{lined_more}
use Rattle.listing.proofs.plans.bounds_lines.Goals as goal

pub loop-k-preserved : goal.loop-k-preserved
loop-k-preserved c = lined_more _ _ _ _ _ _ c.loop-k.invariant (joins_one _ _ _ c.bounds_at.ensures.says) c.bounds_at.ensures.small
