use Rattle.std.proofs.Common.{◌≡◌, ◌<◌, cond, length, get_or, sym, ap, ◌∙◌, arith}
use Rattle.std.proofs.lemmas.Bool.{cond-true, cond-false}
use Rattle.table.specs.Blank.{blank}
use Rattle.table.specs.Content.{content}
use Rattle.bounds.specs.Sums.{count, flow}
use Rattle.bounds.specs.Sigma.{sum_none, sum_more}
use Rattle.bounds.proofs.sums.total.Goals as goal
use Rattle.bounds.proofs.sums.total.Goals.{then-test, else-test}

pub loop-k-init : goal.loop-k-init
loop-k-init g c = (λ p w a b. sym (sum_none _), omega arith, λ h. omega arith)

pub loop-k-preserved : goal.loop-k-preserved
loop-k-preserved g c =
    let t = content c.args.table.now in
    let k = c.loop-k.k in
    let within : k < count t = omega (arith, ap length c.flows-flow-items.ensures.value) in
    let here : get_or c.flows-flow-items.result.now k blank ≡ flow t k = ap (λ fs. get_or fs k blank) c.flows-flow-items.ensures.value in
    elim c.if-test.branch [
      | then-test d ↦ (
        (λ p w a b.
            let term = cond-true (p k) (w k) 0 (sym (a k _ _ within here c.test.ensures) ∙ d.if-test.true) in
            omega (arith, sum_more k (λ j. cond (p j) (w j) 0), term, b k _ _ within here d.value.ensures, c.loop-k.invariant.0 p w a b)),
        omega arith,
        λ h. omega (arith, h k _ _ d.value.ensures, c.loop-k.invariant.2 h),
      )
      | else-test d ↦ (
        (λ p w a b.
            let term = cond-false (p k) (w k) 0 (sym (a k _ _ within here c.test.ensures) ∙ d.if-test.false) in
            omega (arith, sum_more k (λ j. cond (p j) (w j) 0), term, c.loop-k.invariant.0 p w a b)),
        omega arith,
        λ h. omega (arith, c.loop-k.invariant.2 h),
      )
    ]
