use Rattle.std.proofs.Common.{rules}
use Rattle.table.specs.Reading.Broken.{missized, cut}
use Rattle.table.proofs.record.Rest.inspect.Goals as goal

pub returns-then-word-length : goal.returns-then-word-length
returns-then-word-length c =
    missized (search rules) c.in_ok-kind.kind c.in_ok-kind.ensures (search rules)

pub returns-then-self-length : goal.returns-then-self-length
returns-then-self-length c =
    cut (search rules) c.in_ok-kind.kind c.in_ok-kind.ensures (search rules) (search rules)
