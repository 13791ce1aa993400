use Rattle.std.proofs.Common.{ap, arith}
use Rattle.plan.proofs.routers.first_router.Goals as goal

pub returns-then-test : goal.returns-then-test
returns-then-test g c = λ holds tells.
    let s = ap (λ d. d.side) c.dimensions-side.ensures in
    record {
      column = omega (arith, s);
      row = omega (arith, s);
      here = tells _ _ (omega (arith, s)) (omega (arith, s)) c.if-test.ensures;
      above = λ row h column l. tells _ _ l (omega (arith, s)) (c.loop-y.invariant row h column (omega (arith, s)));
      before = λ column h. tells _ _ (omega (arith, s)) (omega (arith, s)) (c.loop-x.invariant column h);
    }

pub returns : goal.returns
returns g c = λ holds tells r column row.
    let s = ap (λ d. d.side) c.dimensions-side.ensures in
    tells r _ column row (c.loop-y.invariant r.1 (omega (arith, s)) r.0 (omega (arith, s)))
