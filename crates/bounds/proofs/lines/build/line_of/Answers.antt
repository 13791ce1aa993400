use Rattle.std.proofs.Common.{rules}
use Rattle.table.specs.Content.{content}
use Rattle.bounds.proofs.Delays.{burst_from}
use Rattle.bounds.proofs.lines.build.line_of.Goals as goal

pub returns : goal.returns
returns c x =
    let burst = burst_from (content c.args.table.now) x c.args.k _ _ c.map.result c.flow_at-flow.ensures c.turn.ensures (search rules) in
    search rules
