use Rattle.std.proofs.Common.{sym, rules}
use Rattle.table.specs.Content.{content}
use Rattle.bounds.specs.Sums.{units_of}
use Rattle.bounds.proofs.Delays.{delay_turning, delay_straight}
use Rattle.bounds.proofs.Bounds.turn_delay.Goals as goal

pub returns-in_default-clause-value : goal.returns-in_default-clause-value
returns-in_default-clause-value c = sym (delay_straight (content c.args.self.now.table.now) (units_of c.args.self.now.bursts.now) c.args.k _ c.flow_at-flow.ensures c.in_default.ensures)

pub returns-clause-value : goal.returns-clause-value
returns-clause-value c =
    let delay = delay_turning (content c.args.self.now.table.now) (units_of c.args.self.now.bursts.now) c.args.k _ _ c.flow_at-flow.ensures c.in-Some.ensures in
    search rules
