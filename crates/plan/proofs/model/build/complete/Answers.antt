use Rattle.std.proofs.Common.{arith, length-take}
use Rattle.table.specs.Content.{content}
use Rattle.bounds.specs.Sums.{units_of}
use Rattle.plan.proofs.Filled.{deep_from, backlogs_from, over_from}
use Rattle.plan.proofs.model.build.complete.Goals as goal

pub invariant_of-result : goal.invariant_of-result
invariant_of-result c =
    let t = content c.args.table.now in
    let x = units_of c.args.bursts in
    let sound = c.requires.sound in
    let whole = sound.roomy.whole in
    let least = c.requires.least.1 in
    let deep = deep_from t x c.requires.deep in
    let ps = c.backlogs.result in
    let ensures = c.backlogs.ensures in
    record {
      few = simp length-take (omega (arith, c.args.table.now.few));
      long = (c.requires.least.0, ensures.long);
      ranged = whole.ranged;
      faultless = whole.flows;
      roomy = sound.roomy.turns;
      calm = sound.sources;
      straight = least.keeps.straight;
      turning = least.keeps.turning;
      capped = least.keeps.capped;
      minimal = least.minimal;
      ends = c.requires.least.2;
      queues = backlogs_from t x whole.ranged ps ensures.long ensures.each deep;
      over = over_from t x whole.ranged ps ensures.long ensures.each;
      deep = deep;
    }
