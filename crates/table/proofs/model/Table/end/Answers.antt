use Rattle.std.proofs.Common.{length, ap, arith}
use Rattle.table.specs.Content.{content}
use Rattle.table.proofs.Prefixes.{length_front}
use Rattle.table.proofs.model.Table.end.Goals as goal

pub returns-clause-place : goal.returns-clause-place
returns-clause-place c = omega (arith, length_front (content c.args.self.now), ap length c.flows.ensures.value)
