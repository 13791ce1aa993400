use Rattle.std.proofs.Common.{◌≡◌, ap, subst, arith}
use Rattle.table.specs.Content.{content}
use Rattle.bounds.specs.Sums.{units_of}
use Rattle.bounds.specs.Bounds.{side}
use Rattle.plan.proofs.Filled.{side_le}
use Rattle.text.specs.Said.{said}
use Rattle.listing.specs.Plans.{queue_at}
use Rattle.listing.proofs.Pieces.{Lined, lined_more}
use Rattle.listing.proofs.plans.queue_row.Goals as goal

pub loop-x-preserved : goal.loop-x-preserved
loop-x-preserved c = lined_more _ _ _ _ _ _ c.loop-x.invariant c.queue_at.ensures.says c.queue_at.ensures.small

pub returns : goal.returns
returns c =
    let p = c.args.plan.now in
    let all : c.loop-x.x ≡ side (content p.table) = omega (arith, ap (λ e. e.side) c.dimensions-x-end.ensures, ap (λ u. u.dimensions.side) c.table.ensures) in
    let row = subst (λ n. Lined (said c.args.text.now) (said c.loop-x.text) 33 n (λ column. queue_at (content p.table) (units_of p.bursts) (column, c.args.y))) all c.loop-x.invariant in
    record { says = row.says; small = omega (arith, row.short, side_le (content p.table) c.args.plan.now.ranged) }
