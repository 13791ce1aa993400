use Rattle.std.proofs.Common.{◌≡◌, true, false, rules}
use Rattle.std.proofs.lemmas.Iterator.{cases_from_any, YieldsList-from_slice}
use Rattle.table.specs.declared.flow.Flow.{Flow}
use Rattle.table.specs.Content.{content}
use Rattle.torus.specs.Paths.{turns_at}
use Rattle.bounds.proofs.Over.{any_over}
use Rattle.bounds.proofs.turns.is_turn.Goals as goal

pub returns : goal.returns
returns c =
    let r = c.args.router in
    let fs = (content c.args.table.now).flows in
    any_over (λ f. turns_at f r) fs c.any.result
    (cases_from_any _ _ _ (λ (f : Flow). turns_at f r ≡ true) (λ (f : Flow). turns_at f r ≡ false) c.any.ensures.ran (YieldsList-from_slice fs cc) (λ x q k. search rules) (λ x q k. search rules))
