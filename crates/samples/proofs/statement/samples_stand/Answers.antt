use Rattle.samples.proofs.FiveFlows as five
use Rattle.samples.proofs.RingFlows as ring
use Rattle.samples.proofs.statement.samples_stand.Goals as goal

pub returns : goal.returns
returns c = (five.at_100, (five.at_101, (ring.at_24, (ring.at_depth_9, (ring.at_25, (ring.at_33, (ring.at_34, (five.one_hop, tt))))))))
