use Rattle.std.proofs.Common.{refl, ap}
use Rattle.quantity.specs.declared.Units.{Units}
use Rattle.table.specs.Content.{content}
use Rattle.bounds.proofs.Counts.{everywhere}
use Rattle.plan.proofs.NoFlows.{is_empty}
use Rattle.plan.proofs.model.Plan.empty.Goals as goal

pub complete-requires : goal.complete-requires
complete-requires c =
    let none = is_empty (content c.no_flows.result) c.no_flows.ensures in
    record {
      sound = none.sound;
      least = (refl, none.least _, λ k h. ap (λ (u : Units). u.0) (everywhere 64 k (record { 0 = 0 })));
      deep = none.deep _;
    }
