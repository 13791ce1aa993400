use Rattle.std.proofs.Common.{◌≡◌, ◌≤◌, true, ◌++◌, length, sym, ap, ◌∙◌, subst, arith}
use Rattle.table.specs.Content.{content}
use Rattle.bounds.specs.Sums.{units_of}
use Rattle.bounds.specs.Bounds.{is_turn}
use Rattle.plan.specs.Told.{RouterSmall}
use Rattle.plan.proofs.Filled.{side_le}
use Rattle.text.specs.Clipped.{Joins}
use Rattle.text.specs.Said.{said}
use Rattle.text.proofs.Clips.{joins_one}
use Rattle.listing.specs.Plans.{queue_line}
use Rattle.listing.proofs.Lengths.{queue_short}
use Rattle.listing.proofs.There.{router_told_lem, a_line}
use Rattle.listing.proofs.plans.queue_at.Goals as goal

pub returns-then-bounds : goal.returns-then-bounds
returns-then-bounds c =
    let p = c.args.plan.now in
    let r = c.args.router in
    let b = c.unwrap-bounds.result in
    let told = router_told_lem (content p.table) (units_of p.bursts) r c.router.result b c.requires.column c.requires.row c.router.ensures.value c.unwrap-bounds.ensures in
    let turns : is_turn (content p.table) r ≡ true = sym (ap (λ e. e.turns) told) ∙ c.if-bounds.true in
    let line = ap (queue_line r) told ∙ sym (a_line (content p.table) (units_of p.bursts) r turns) in
    let small = subst RouterSmall c.unwrap-bounds.ensures c.router.ensures.small in
    let most = side_le (content p.table) c.args.plan.now.ranged in
    record {
      says = subst (λ l. Joins (said c.args.text.now) (λ a. a ++ l) (said c.queue_line.new.text)) line (joins_one _ _ _ c.queue_line.ensures);
      small = subst (λ l. length l ≤ 33) line (queue_short r b (omega (arith, c.requires.column, most)) (omega (arith, c.requires.row, most)) small);
    }
