use Rattle.std.proofs.Common.{Ok, rules}
use Rattle.table.specs.Content.{content}
use Rattle.bounds.specs.Sums.{units_of}
use Rattle.bounds.specs.Bursts.{Bounded}
use Rattle.plan.specs.Plans.{shallow}
use Rattle.plan.proofs.model.build.plan_of.Goals as goal

pub returns-in-Some : goal.returns-in-Some
returns-in-Some c =
    let t = content c.args.table.now in
    let x = units_of c.in_ok-bursts.bursts in
    let bounded : Bounded t (Ok c.in_ok-bursts.bursts) = search rules in
    (c.in_ok-check.ensures, (x, bounded.1, c.in-Some.ensures (shallow t x) (λ r b column row h. search rules)))

pub complete-requires-clause-deep : goal.complete-requires-clause-deep
complete-requires-clause-deep c =
    c.in_default.ensures (shallow (content c.args.table.now) (units_of c.in_ok-bursts.bursts)) (λ r b column row h. search rules)
