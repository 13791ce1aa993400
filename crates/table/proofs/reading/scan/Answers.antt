use Rattle.std.proofs.Common.{◌≡◌, drop, sym, refl, ap, ◌∙◌, subst, arith}
use Rattle.std.proofs.lemmas.Result.{err_from_is_err_and}
use Rattle.table.specs.Content.{content, pushed}
use Rattle.table.specs.declared.refusal.Refusal.TheVariants.{Excess}
use Rattle.table.specs.Reading.{Broken, Whole}
use Rattle.table.specs.Refusals.{fault_of}
use Rattle.table.specs.Inspecting.{Ended, flow_of}
use Rattle.table.specs.Reading.Refused.{at_head}
use Rattle.table.specs.Reading.Wrong.{broken}
use Rattle.table.proofs.Prefixes.{Begun, begun_wrong, begun_full, begun_more, begun_end, at_byte, at_start, start_of}
use Rattle.table.proofs.reading.scan.Goals as goal
use Rattle.table.proofs.reading.scan.Goals.{In_ok-inspect-2}

pub returns-in_err-inspect : goal.returns-in_err-inspect
returns-in_err-inspect c =
    let p = err_from_is_err_and c.from_residual.result c.from_residual.ensures.1 in
    rw (p.1, p.2) (at_head (at_byte (λ at q. Broken at q (fault_of c.in_err-inspect.field-0.0)) c.args.bytes.now c.new-head.ensures.at c.new-head.ensures.bytes c.in_err-inspect.ensures))

pub returns-in_err-inspect-2 : goal.returns-in_err-inspect-2
returns-in_err-inspect-2 c =
    let bs = c.args.bytes.now in
    let p = err_from_is_err_and c.from_residual-in_err-inspect-2.result c.from_residual-in_err-inspect-2.ensures.1 in
    let t = content c.loop-table.table in
    let h = at_start (λ at q. Broken at q (fault_of c.in_err-inspect-2.field-0.0)) bs t c.end.ensures.place c.new-rest.ensures.at c.new-rest.ensures.bytes c.in_err-inspect-2.ensures in
    rw (p.1, p.2) (begun_wrong bs t c.loop-table.invariant (broken h))

-- the record behind the flows is whole, whatever kind it is then seen to be
whole_here : (c : In_ok-inspect-2) → Whole (start_of (content c.loop-table.table)) (drop (start_of (content c.loop-table.table)) c.args.bytes.now) c.in_ok-inspect-2.field-0
whole_here c =
    at_start (λ at q. Whole at q c.in_ok-inspect-2.field-0) c.args.bytes.now (content c.loop-table.table) c.end.ensures.place c.new-rest.ensures.at c.new-rest.ensures.bytes c.in_ok-inspect-2.ensures

pub returns-in_err-push-in-Flow : goal.returns-in_err-push-in-Flow
returns-in_err-push-in-Flow c =
    let bs = c.args.bytes.now in
    let t = content c.loop-table.table in
    let p = err_from_is_err_and c.from_residual-in_err-push-in-Flow.result c.from_residual-in_err-push-in-Flow.ensures.1 in
    let h = c.in_err-push-in-Flow.ensures in
    let e = p.2 ∙ (h.1 ∙ ap Excess (c.new-rest.ensures.at ∙ c.end.ensures.place)) in
    rw (p.1, e) (begun_full bs t c.loop-table.invariant (omega (arith, h.0)) (rw c.in-Flow.is at (whole_here (goal.at.returns-in_err-push-in-Flow c).In_ok-inspect-2)))

pub loop-table-preserved : goal.loop-table-preserved
loop-table-preserved c =
    let bs = c.args.bytes.now in
    let t = content c.loop-table.table in
    let h = c.in_ok-push-in-Flow.ensures in
    let f = at_start (λ at q. content c.push.new.table ≡ pushed t (flow_of q)) bs t c.end.ensures.place c.new-rest.ensures.at c.new-rest.ensures.bytes h.1 in
    let next = begun_more bs t c.loop-table.invariant (λ i. (c.type_inv.bytes i).fits) h.0 (rw c.in-Flow.is at (whole_here (goal.at.loop-table-preserved c).In_ok-inspect-2)) in
    subst (Begun bs) (sym f) next

pub returns-in-End : goal.returns-in-End
returns-in-End c =
    let bs = c.args.bytes.now in
    let t = content c.loop-table.table in
    let h = at_start (λ at q. Ended c.loop-table.table at q c.finish.result) bs t c.end.ensures.place c.new-rest.ensures.at c.new-rest.ensures.bytes c.finish.ensures in
    begun_end bs t c.loop-table.invariant c.loop-table.table c.finish.result refl (λ i. (c.type_inv.bytes i).fits) (rw c.in-End.is at (whole_here (goal.at.returns-in-End c).In_ok-inspect-2)) h
