-- A flow keeps its ranges just where nothing is wrong with it.
use Rattle.std.proofs.Common.{◌≡◌, ℕ, Bool, true, false, cond, not, ◌&&◌, Some, None, refl, sym, ap, ◌∙◌}
use Rattle.std.specs.Option.{is_none}
use Rattle.std.proofs.lemmas.Bool.{true≢false}
use Rattle.table.specs.declared.flow.Flow.{Flow}
use Rattle.plan.specs.declared.refusal.FlowFault.{FlowFault}
use Rattle.plan.specs.declared.refusal.FlowFault.TheVariants.{Outside, Still, Burst, Rate}
use Rattle.plan.specs.Faults.{on_torus, is_still, burst_fits, rate_fits, flow_fits, flow_fault}

by_cases : (a b d e : Bool) → (a && (not b && (d && e))) ≡ is_none (cond a (cond b (Some Still) (cond d (cond e None (Some Rate)) (Some Burst))) (Some Outside))
by_cases true true d e = refl
by_cases true false true true = refl
by_cases true false true false = refl
by_cases true false false e = refl
by_cases false b d e = refl

fits_is : (m q : ℕ) (f : Flow) → flow_fits m q f ≡ is_none (flow_fault m q f)
fits_is m q f = by_cases (on_torus m f) (is_still f) (burst_fits f) (rate_fits q f)

pub fits : (m q : ℕ) (f : Flow) → flow_fault m q f ≡ None → flow_fits m q f ≡ true
fits m q f e = fits_is m q f ∙ ap is_none e

pub no_fault : (m q : ℕ) (f : Flow) (why : FlowFault) → flow_fits m q f ≡ true → flow_fault m q f ≡ Some why → ⊥
no_fault m q f why h e = true≢false (sym h ∙ (fits_is m q f ∙ ap is_none e))
