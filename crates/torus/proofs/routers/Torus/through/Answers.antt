use Rattle.std.proofs.Common.{rules}
use Rattle.torus.proofs.Walked.{walks_through}
use Rattle.torus.proofs.routers.Torus.through.Goals as goal

pub returns-then-east-gt0-clause-walk : goal.returns-then-east-gt0-clause-walk
returns-then-east-gt0-clause-walk c = walks_through c.args.self.side c.args.flow.now c.args.router _ (search rules)
