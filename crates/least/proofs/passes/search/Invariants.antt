use Rattle.least.specs.Systems.{room}
use Rattle.least.specs.Passes.{Ready}
use Rattle.least.proofs.passes.search.Given as goal

abbrev pub invariant-loop : goal.invariant-loop
invariant-loop g l = Ready g.S.System l.system l.entries

abbrev pub decreases-loop : goal.decreases-loop
decreases-loop g l = room l.entries
