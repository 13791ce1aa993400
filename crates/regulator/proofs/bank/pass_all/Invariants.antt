use Rattle.regulator.specs.Meaning.{passed}
use Rattle.regulator.proofs.Rows.{Walked}
use Rattle.regulator.proofs.bank.pass_all.Given as goal

abbrev pub invariant-loop-regulator : goal.invariant-loop-regulator
invariant-loop-regulator g l = Walked g.R.Regulator.meaning passed l.initial.bank l.bank l.regulator-index
