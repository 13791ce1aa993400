use Rattle.std.proofs.Common.{◌≡◌, cond, ap, rules}
use Rattle.table.specs.Content.{content}
use Rattle.bounds.specs.Sums.{count}
use Rattle.bounds.specs.Bounds.{north_bursts}
use Rattle.bounds.specs.Lines.{from_north}
use Rattle.bounds.specs.Sigma.{sum_same}
use Rattle.bounds.proofs.lines.build.turn_at.Goals as goal

pub returns : goal.returns
returns c x =
    let t = content c.args.table.now in
    let north : from_north c.northern.result (count t) x ≡ north_bursts t x c.args.router = sum_same (count t) _ _ (λ k h. ap (λ b. cond b (x k) 0) (c.northern.ensures.each k h)) in
    search rules
