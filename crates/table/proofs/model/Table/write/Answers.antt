use Rattle.std.proofs.Common.{Ok, length, ap, ◌∙◌, arith}
use Rattle.table.specs.Content.{content}
use Rattle.table.proofs.Places.{length_encode, put_all}
use Rattle.table.proofs.Prefixes.{length_front}
use Rattle.table.proofs.Laws.{reads_back}
use Rattle.table.proofs.model.Table.write.Goals as goal

pub put_flows-requires : goal.put_flows-requires
put_flows-requires c =
    let long = c.file_length-size.ensures.length ∙ length_encode (content c.args.self.now) in
    omega (arith, ap length c.flows-flows.ensures.value)

pub returns-clause-wrote : goal.returns-clause-wrote
returns-clause-wrote c =
    let t = content c.args.self.now in
    let at = c.end.ensures.place ∙ length_front t in
    let long = c.file_length-size.ensures.length ∙ length_encode t in (
      c.file_length-size.ensures.length,
      omega arith,
      rw (c.put-2.ensures, c.end_record.ensures, c.put_flows.ensures, c.put.ensures, c.head_record.ensures, c.dimensions.ensures, c.flows-flows.ensures.value)
          (put_all t c.end.result c.args.place.now (omega arith) (omega arith)),
    )

pub returns-clause-back : goal.returns-clause-back
returns-clause-back c = reads_back c.args.self.now c.args.place.now c.put-2.new.place (Ok c.file_length-size.result) (returns-clause-wrote c)
