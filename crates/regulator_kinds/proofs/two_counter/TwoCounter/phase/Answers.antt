use Rattle.std.proofs.Common.{sym}
use Rattle.std.proofs.lemmas.Nat.{mod-mul-add}
use Rattle.regulator_kinds.proofs.two_counter.TwoCounter.phase.Goals as goal

pub returns : goal.returns
returns c = sym (mod-mul-add _ _ _ c.args.self.now.part)
