use Rattle.std.proofs.Common.{◌≡◌, rules}
use Rattle.table.specs.Content.{content}
use Rattle.torus.specs.Paths.{router_at}
use Rattle.bounds.specs.Sums.{units_of}
use Rattle.bounds.specs.Bounds.{side}
use Rattle.plan.specs.Stored.{stored}
use Rattle.bounds.proofs.Arrays.{each_made}
use Rattle.plan.proofs.backlogs.backlogs.Goals as goal

pub returns-clause-each : goal.returns-clause-each
returns-clause-each c k h =
    let b = c.args.bounds.now in
    let t = content b.table.now in
    each_made _ _ (λ i p. p.0 ≡ stored t (units_of b.bursts.now) (router_at (side t) i)) (λ i y q e. search rules) _ 64 c.from_fn.ensures.items k _ h
