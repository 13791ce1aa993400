use Rattle.least.proofs.Raising.{Gone}
use Rattle.least.proofs.passes.pass.Given as goal

abbrev pub invariant-loop-i : goal.invariant-loop-i
invariant-loop-i g l = Gone g.S.System l.system l.initial.entries l.entries l.raised l.i
