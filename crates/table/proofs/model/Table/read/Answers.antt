use Rattle.std.proofs.Common.{Ok}
use Rattle.std.proofs.lemmas.Result.{err_from_is_err_and}
use Rattle.table.specs.Reading.{Answers}
use Rattle.table.proofs.Longer.{settled}
use Rattle.table.proofs.Unique.{unique}
use Rattle.table.proofs.model.Table.read.Goals as goal

pub returns-in_err-scan-clause-alone : goal.returns-in_err-scan-clause-alone
returns-in_err-scan-clause-alone c =
    let p = err_from_is_err_and c.from_residual.result c.from_residual.ensures.1 in
    let a : Answers c.args.bytes.now c.from_residual.result = rw (p.1, p.2) c.in_err-scan.ensures in
    λ s b. unique _ s _ b a

pub returns-clause-alone : goal.returns-clause-alone
returns-clause-alone c = λ s b. unique _ s (Ok c.in_ok-scan.field-0) b c.in_ok-scan.ensures

pub returns-clause-settled : goal.returns-clause-settled
returns-clause-settled c = settled _ (Ok c.in_ok-scan.field-0) c.in_ok-scan.ensures
