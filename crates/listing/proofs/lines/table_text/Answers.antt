use Rattle.std.proofs.Common.{length}
use Rattle.table.specs.Content.{content}
use Rattle.listing.specs.Lines.{torus_line, flow_lines, count_line}
use Rattle.listing.proofs.Lengths.{three, table_short}
use Rattle.listing.proofs.lines.table_text.Goals as goal

pub returns : goal.returns
returns c =
    let k = content c.args.table.now in
    three (torus_line k.dimensions) (flow_lines 1 k.flows) (count_line (length k.flows)) c.new-text.ensures
    (rw c.dimensions.ensures at c.torus_line.ensures.says)
    (rw c.flows.ensures.value at c.flow_lines.ensures.says)
    (rw c.flows-2.ensures.value at c.count_line.ensures)
    (table_short k (rw c.dimensions.ensures at c.torus_line.ensures.small) (rw c.flows.ensures.value at c.flow_lines.ensures.small) (c.flows.ensures.few))
