use Rattle.std.proofs.Common.{◌≡◌, ◌<◌, rules, false, arith}
use Rattle.table.specs.Content.{content}
use Rattle.bounds.specs.Sums.{count}
use Rattle.bounds.specs.Bounds.{is_north}
use Rattle.bounds.proofs.Arrays.{each_made}
use Rattle.bounds.proofs.lines.build.northern.Goals as goal

pub returns-clause-each : goal.returns-clause-each
returns-clause-each c k h =
    let t = content c.args.table.now in
    each_made _ _ (λ i b. i < count t → b ≡ is_north t c.args.router i) (λ i b q e. (search rules, λ l. search rules)) c.from_fn.result 64 c.from_fn.ensures.items k false (omega (arith, h, c.flows-flows.ensures.few)) h
