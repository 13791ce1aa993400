use Rattle.std.proofs.Common.{◌∙◌, rules}
use Rattle.std.specs.Slice.Iter.{iter_rest}
use Rattle.table.specs.Content.{content}
use Rattle.plan.proofs.Searches.{first_mapped, numbered_fault, faults_from}
use Rattle.plan.proofs.checks.first_fault.Goals as goal

pub returns : goal.returns
returns c =
    let t = content c.args.table.now in
    let r = c.find_map.result in
    faults_from t r
    (first_mapped (numbered_fault t) (λ e o f h. search rules) iter_rest r t.flows c.find_map.ensures.runs c.enumerate.ensures.runs c.iter.ensures.runs (c.iter.ensures.rest ∙ c.flows.ensures.value))
