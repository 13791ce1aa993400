use Rattle.std.proofs.Common.{rules}
use Rattle.std.proofs.lemmas.Bool.Decides.{Decides-at}
use Rattle.table.specs.Equal.{same_table}
use Rattle.table.proofs.Equal.{same_table_decides}
use Rattle.table.proofs.model.equality.TablePartialEq.eq.Goals as goal

pub returns-then-eq-clause-same : goal.returns-then-eq-clause-same
returns-then-eq-clause-same c =
    let t = c.args.self.now in
    let u = c.args.other.now in
    Decides-at c.eq-then-eq.result (same_table t u) (search rules) (same_table_decides t u)
