use Rattle.std.proofs.Common.{◌≡◌, ◌+◌, ◌*◌, length, get_or, take, arith}
use Rattle.std.specs.List.{flat_map}
use Rattle.std.proofs.lemmas.List.{length-take-le}
use Rattle.table.specs.Blank.{blank}
use Rattle.table.specs.Format.{flow_record}
use Rattle.table.proofs.Prefixes.{length_flows}
use Rattle.table.proofs.Places.{put_put, flows_more}
use Rattle.table.proofs.writing.put_flows.Goals as goal

pub loop-i-preserved : goal.loop-i-preserved
loop-i-preserved c =
    let i = c.loop-i.i in
    let fs = c.args.flows.now in
    let done = flat_map flow_record (take i fs) in
    let short : length (take i fs) ≡ i = length-take-le i fs (omega arith) in
    let long : 8 + 12 * i ≡ 8 + length done = omega (arith, length_flows (take i fs)) in
    let next = flows_more fs i blank (omega arith) in
    rw (c.put.ensures, c.loop-i.invariant, c.flow_record.ensures, next)
    (put_put 8 (8 + 12 * i) done (flow_record (get_or fs i blank)) c.args.place.now long (omega arith))
