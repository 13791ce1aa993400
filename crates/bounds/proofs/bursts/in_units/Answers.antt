use Rattle.std.proofs.Common.{◌≡◌, ◌<◌, ◌≤◌, rules, sym, ap, ◌∙◌, ⊎_elim, arith}
use Rattle.std.proofs.lemmas.List.{get_or_past}
use Rattle.std.proofs.lemmas.Bool.{cases_lt}
use Rattle.quantity.specs.declared.Units.{Units}
use Rattle.least.specs.Systems.{entries_of}
use Rattle.bounds.proofs.Arrays.{each_made}
use Rattle.bounds.proofs.bursts.in_units.Goals as goal

pub returns-clause-each : goal.returns-clause-each
returns-clause-each c k =
    let none : Units = record { 0 = 0 } in
    let xs = c.args.entries.now in
    ⊎_elim
    (λ (h : k < 64). each_made _ _ (λ i (u : Units). u.0 ≡ entries_of xs i) (λ i u q e. search rules) c.from_fn.result 64 c.from_fn.ensures.items k none h)
    (λ (h : 64 ≤ k). ap (λ (u : Units). u.0) (get_or_past c.from_fn.result k none (omega (arith, c.from_fn.ensures.items.long))) ∙ sym (get_or_past xs k 0 (omega arith)))
    (cases_lt k 64)
