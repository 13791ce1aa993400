use Rattle.std.proofs.Common.{◌++◌, length, ap, ◌∙◌, subst}
use Rattle.table.specs.Content.{content}
use Rattle.bounds.specs.Sums.{count, units_of}
use Rattle.text.specs.Clipped.{clipped}
use Rattle.text.specs.Said.{said}
use Rattle.listing.specs.Lines.{torus_line}
use Rattle.listing.specs.Plans.{bounds_lines, queue_lines, admitted_line}
use Rattle.listing.specs.Small.{DimensionsSmall}
use Rattle.listing.proofs.Lengths.{four, plan_short}
use Rattle.listing.proofs.plans.plan_text.Goals as goal

pub returns : goal.returns
returns c =
    let p = c.args.plan.now in
    let t = content p.table in
    let x = units_of p.bursts in
    let dimensions = c.dimensions.ensures ∙ ap (λ u. u.dimensions) c.table.ensures in
    let number = ap length c.flows.ensures.value ∙ ap (λ u. count (content u)) c.table-2.ensures in
    four (torus_line t.dimensions) (bounds_lines t x) (queue_lines t x) (admitted_line (count t)) c.new-text.ensures
    (c.torus_line.ensures.says ∙ ap (λ e. clipped (said c.new-text.result ++ torus_line e)) dimensions)
    c.bounds_lines.ensures.says
    c.queue_lines.ensures.says
    (c.admitted_line.ensures ∙ ap (λ n. clipped (said c.queue_lines.new.text ++ admitted_line n)) number)
    (plan_short t x (subst DimensionsSmall dimensions c.torus_line.ensures.small) c.args.plan.now.few c.bounds_lines.ensures.small c.queue_lines.ensures.small)
