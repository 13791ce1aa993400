use Rattle.std.proofs.Common.{◌≡◌, sym, ◌∙◌, subst, arith}
use mathlib.Core.Path.{fun_ext}
use Rattle.std.proofs.lemmas.List.{get_or_past}
use Rattle.std.proofs.lemmas.Result.{err_from_is_err_and}
use Rattle.least.specs.Systems.{entries_of}
use Rattle.table.specs.Content.{content}
use Rattle.bounds.specs.Sums.{units_of}
use Rattle.bounds.specs.Bounds.{LeastBursts}
use Rattle.bounds.proofs.Least.{least_from, none_from}
use Rattle.bounds.proofs.bursts.least_bursts.Goals as goal

pub returns-in_err-solve : goal.returns-in_err-solve
returns-in_err-solve c =
    let t = content c.args.table.now in
    let p = err_from_is_err_and c.from_residual.result c.from_residual.ensures.1 in
    rw p.1 (none_from t c.lines_of.result c.lines_of.ensures.count c.lines_of.ensures.each c.in_err-solve.ensures)

pub returns : goal.returns
returns c =
    let t = content c.args.table.now in
    let place = c.solve.new.place in
    let found = c.in_ok-solve.ensures in
    let same : units_of c.in_units.result ≡ entries_of place = fun_ext c.in_units.ensures.each in (
      c.in_units.ensures.long,
      subst (LeastBursts t) (sym same) (least_from t c.lines_of.result c.lines_of.ensures.count c.lines_of.ensures.each (entries_of place) found.1),
      λ k h. c.in_units.ensures.each k ∙ get_or_past place k 0 (omega (arith, found.0, c.lines_of.ensures.count)),
    )
