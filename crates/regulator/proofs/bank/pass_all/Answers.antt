use Rattle.regulator.specs.Meaning.{passed}
use Rattle.regulator.proofs.Rows.{walk_more}
use Rattle.regulator.proofs.bank.pass_all.Goals as goal

pub loop-regulator-preserved : goal.loop-regulator-preserved
loop-regulator-preserved g c =
    walk_more g.R.Regulator.meaning passed _ _ _ _ _ c.loop-regulator-test.true c.loop-regulator.auto.bank c.loop-regulator.invariant c.pass.ensures
