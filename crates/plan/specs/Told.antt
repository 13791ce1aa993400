-- What a plan tells of a flow, by its number, and of a router.
use Rattle.std.specs.Prelude.{ℕ, ◌+◌, ◌-◌, ◌^◌, ◌<◌, ◌≤◌, cond, Some, None, Option}
use Rattle.table.specs.Content.{Content}
use Rattle.torus.specs.Paths.{on, hops}
use Rattle.bounds.specs.Sums.{count, flow}
use Rattle.bounds.specs.Bounds.{side, is_turn, backlog, wait, turn_delay, latency}
use Rattle.plan.specs.declared.told.FlowBounds.{FlowBounds}
use Rattle.plan.specs.declared.told.RouterBounds.{RouterBounds}
use Rattle.plan.specs.Faults.{within}

-- flow k, counted from 0
abbrev pub flow_bounds : Content → (ℕ → ℕ) → ℕ → FlowBounds
flow_bounds c x k = record {
  burst = record { 0 = x k };
  wait = record { 0 = wait c x k };
  turn = record { 0 = turn_delay c x k };
  hops = record { 0 = hops (side c) (flow c k) };
  latency = record { 0 = latency c x k };
}

-- flow number i, counted from 1; nothing where there is no such flow
abbrev pub flow_told : Content → (ℕ → ℕ) → ℕ → Option FlowBounds
flow_told c x i = cond (within 1 (count c) i) (Some (flow_bounds c x (i - 1))) None

abbrev pub router_bounds : Content → (ℕ → ℕ) → ℕ × ℕ → RouterBounds
router_bounds c x r = record {
  turns = is_turn c r;
  backlog = record { 0 = backlog c x r };
  depth = record { 0 = backlog c x r + 1 };
}

-- nothing where the router is off the torus
abbrev pub router_told : Content → (ℕ → ℕ) → ℕ × ℕ → Option RouterBounds
router_told c x r = cond (on (side c) r) (Some (router_bounds c x r)) None

-- how large these numbers are
abbrev pub Small : FlowBounds → Type 0
Small f = (f.burst.0 ≤ 131072) × (f.wait.0 < 10 ^ 12) × (f.turn.0 < 10 ^ 12) × (f.hops.0 < 10 ^ 3) × (f.latency.0 < 10 ^ 13)

abbrev pub FlowSmall : Option FlowBounds → Type 0
FlowSmall (Some f) = Small f
FlowSmall None = Unit {0}

abbrev pub RouterSmall : Option RouterBounds → Type 0
RouterSmall (Some q) = (q.backlog.0 < 128) × (q.depth.0 ≤ 128)
RouterSmall None = Unit {0}
