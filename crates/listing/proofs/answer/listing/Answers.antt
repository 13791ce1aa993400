use Rattle.std.proofs.Common.{ap, ◌∙◌}
use Rattle.listing.specs.Lines.{refused_line}
use Rattle.listing.specs.Listed.Listed.{admitted, refused}
use Rattle.listing.proofs.answer.listing.Goals as goal

pub returns-in-Ok : goal.returns-in-Ok
returns-in-Ok c = admitted c.load.new.self c.in-Ok.ensures c.plan_text.ensures

pub returns-in-Err : goal.returns-in-Err
returns-in-Err c = refused c.in-Err.fault c.in-Err.ensures.0 (c.refused_line.ensures ∙ ap refused_line c.into.ensures)
