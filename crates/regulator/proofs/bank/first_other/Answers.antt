use Rattle.std.proofs.Common.{◌≡◌, min, length, take, rules}
use Rattle.std.specs.Slice.Iter.{iter_rest}
use Rattle.table.specs.Content.{content}
use Rattle.bounds.specs.Sums.{count}
use Rattle.plan.proofs.Searches.{first_mapped}
use Rattle.regulator.proofs.Others.{other, others_from}
use Rattle.regulator.proofs.bank.first_other.Goals as goal

pub returns : goal.returns
returns g c =
    let m = g.R.Regulator.meaning in
    let t = content c.args.plan.now.table in
    let r = c.find_map.result in
    let n = c.min.result in
    let many : n ≡ min (length c.args.bank.now) (count t) = search rules in
    others_from m t c.args.bank.now n r many
    (first_mapped (other m t) (λ e o f h. search rules) iter_rest r (take n c.args.bank.now) c.find_map.ensures.runs c.enumerate.ensures.runs c.iter.ensures.runs c.iter.ensures.rest)
