use Rattle.std.proofs.Common.{◌≡◌, ◌<◌, Some, arith}
use Rattle.std.proofs.lemmas.Result.{err_from_is_err_and}
use Rattle.least.proofs.Raising.{refused, kept, lifted, finished}
use Rattle.least.proofs.passes.pass.Goals as goal
use Rattle.least.proofs.passes.pass.Goals.{then-entries-i, else-entries-i}

pub returns-in_err-least : goal.returns-in_err-least
returns-in_err-least g c =
    let monotone = g.met.S.System.monotone c.args.system.now in
    let error = err_from_is_err_and c.from_residual.result c.from_residual.ensures.1 in
    rw error.1 (refused monotone c.loop-i.invariant (omega (arith, c.requires.long)) c.evaluate.result c.evaluate.ensures (grind arith))

pub loop-i-preserved : goal.loop-i-preserved
loop-i-preserved g c =
    let monotone = g.met.S.System.monotone c.args.system.now in
    let within : c.loop-i.i < g.S.System.lines c.args.system.now = omega (arith, c.requires.long) in
    let is : c.evaluate.result ≡ Some c.in_ok-least.least = grind arith in
    elim c.if-entries-i.branch [
      | then-entries-i w ↦ rw (w.entries-is, w.raised-is)
          (lifted monotone c.loop-i.invariant within c.evaluate.result c.evaluate.ensures c.in_ok-least.least is w.if-entries-i.true (omega arith))
      | else-entries-i w ↦ rw (w.entries-is, w.raised-is)
          (kept monotone c.loop-i.invariant within c.evaluate.result c.evaluate.ensures c.in_ok-least.least is w.if-entries-i.false)
    ]

pub returns : goal.returns
returns g c =
    finished c.loop-i.raised (g.met.S.System.monotone c.args.system.now) c.requires c.loop-i.invariant (omega (arith, c.requires.long))
