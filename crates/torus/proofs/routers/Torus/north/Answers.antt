use Rattle.std.proofs.Common.{rules}
use Rattle.torus.proofs.Walked.{walks_north}
use Rattle.torus.proofs.routers.Torus.north.Goals as goal

pub returns-then-south-gt0-clause-walk : goal.returns-then-south-gt0-clause-walk
returns-then-south-gt0-clause-walk c = walks_north c.args.self.side c.args.flow.now c.args.router _ (search rules)
