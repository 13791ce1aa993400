use Rattle.std.proofs.Common.{◌+◌, ◌≤◌, ◌++◌, length, ap, ◌∙◌, subst, arith}
use Rattle.table.specs.Content.{content}
use Rattle.bounds.specs.Sums.{units_of}
use Rattle.plan.specs.Told.{FlowSmall}
use Rattle.text.specs.Clipped.{clipped}
use Rattle.text.specs.Said.{said}
use Rattle.listing.specs.Plans.{bounds_line}
use Rattle.listing.proofs.Lengths.{bounds_short}
use Rattle.listing.proofs.There.{flow_told_lem}
use Rattle.listing.proofs.plans.bounds_at.Goals as goal

pub returns : goal.returns
returns c =
    let p = c.args.plan.now in
    let k = c.args.k in
    let b = c.unwrap-bounds.result in
    let told = flow_told_lem (content p.table) (units_of p.bursts) k c.flow.result b c.requires c.flow.ensures.value c.unwrap-bounds.ensures in
    let small = subst FlowSmall c.unwrap-bounds.ensures c.flow.ensures.small in
    record {
      says = c.bounds_line.ensures ∙ ap (λ e. clipped (said c.args.text.now ++ bounds_line (k + 1) e)) told;
      small = subst (λ e. length (bounds_line (k + 1) e) ≤ 88) told (bounds_short (k + 1) b (omega (arith, c.requires, c.args.plan.now.few)) small);
    }
