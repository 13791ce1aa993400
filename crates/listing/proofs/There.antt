-- A plan tells the bounds of every flow and of every router that there is.
use Rattle.std.proofs.Common.{◌≡◌, ℕ, ◌+◌, ◌-◌, ◌<◌, true, false, [], Some, Option, refl, ap, arith}
use Rattle.std.proofs.lemmas.Bool.{lt-ltb, le-leb}
use Rattle.table.specs.Content.{Content}
use Rattle.bounds.specs.Sums.{count}
use Rattle.bounds.specs.Bounds.{side, is_turn}
use Rattle.plan.specs.declared.told.FlowBounds.{FlowBounds}
use Rattle.plan.specs.declared.told.RouterBounds.{RouterBounds}
use Rattle.plan.specs.Told.{flow_bounds, flow_told, router_bounds, router_told}
use Rattle.listing.specs.Plans.{queue_line, queue_at}

flow_there : (c : Content) (x : ℕ → ℕ) (k : ℕ) → k < count c → flow_told c x (k + 1) ≡ Some (flow_bounds c x k)
flow_there c x k h =
    let back : k + 1 - 1 ≡ k = omega arith in
    rw (le-leb 1 (k + 1) (omega arith), le-leb (k + 1) (count c) (omega arith)) (ap (λ j. Some (flow_bounds c x j)) back)

pub flow_told_lem : (c : Content) (x : ℕ → ℕ) (k : ℕ) (o : Option FlowBounds) (b : FlowBounds) → k < count c → o ≡ flow_told c x (k + 1) → o ≡ Some b → b ≡ flow_bounds c x k
flow_told_lem c x k o b h p q = let there = flow_there c x k h in cc

router_there : (c : Content) (x : ℕ → ℕ) (r : ℕ × ℕ) → r.0 < side c → r.1 < side c → router_told c x r ≡ Some (router_bounds c x r)
router_there c x r column row = rw (lt-ltb r.0 (side c) column, lt-ltb r.1 (side c) row) refl

pub router_told_lem : (c : Content) (x : ℕ → ℕ) (r : ℕ × ℕ) (o : Option RouterBounds) (b : RouterBounds) → r.0 < side c → r.1 < side c → o ≡ router_told c x r → o ≡ Some b → b ≡ router_bounds c x r
router_told_lem c x r o b column row p q = let there = router_there c x r column row in cc

pub a_line : (c : Content) (x : ℕ → ℕ) (r : ℕ × ℕ) → is_turn c r ≡ true → queue_at c x r ≡ queue_line r (router_bounds c x r)
a_line c x r h = rw h refl

pub no_line : (c : Content) (x : ℕ → ℕ) (r : ℕ × ℕ) → is_turn c r ≡ false → queue_at c x r ≡ []
no_line c x r h = rw h refl
