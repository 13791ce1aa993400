use Rattle.std.proofs.Common.{Ok, rules}
use Rattle.table.specs.Content.{content}
use Rattle.plan.specs.Refusals.{Admitted}
use Rattle.plan.proofs.Alone.{alone}
use Rattle.plan.proofs.model.Plan.admit.Goals as goal

pub returns-clause-alone : goal.returns-clause-alone
returns-clause-alone c = alone (content c.args.table.now) c.args.self.now c.in_ok-self.field-0 (Ok tt) c.in_ok-self.ensures

pub returns-in_err-self-clause-alone : goal.returns-in_err-self-clause-alone
returns-in_err-self-clause-alone c =
    let t = content c.args.table.now in
    let p = c.args.self.now in
    let answer : Admitted t p p c.from_residual.result = search rules in
    alone t p p c.from_residual.result answer
