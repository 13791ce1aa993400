-- The ranges of an admitted table, and what is wrong with a flow outside them.
use Rattle.std.specs.Prelude.{◌≡◌, ℕ, ◌-◌, ◌<◌, ◌≤◌, Bool, true, cond, not, ◌&&◌, Some, None, Option, ◌==◌, nat_le, nat_lt}
use Rattle.table.specs.declared.flow.Flow.{Flow}
use Rattle.table.specs.Content.{Content}
use Rattle.bounds.specs.Sums.{count, flow}
use Rattle.bounds.specs.Bounds.{side, frame}
use Rattle.plan.specs.declared.refusal.FlowFault.{FlowFault}
use Rattle.plan.specs.declared.refusal.FlowFault.TheVariants.{Outside, Still, Burst, Rate}

abbrev pub depth : Content → ℕ
depth c = c.dimensions.depth.0

abbrev pub within : ℕ → ℕ → ℕ → Bool
within low high n = nat_le low n && nat_le n high

abbrev pub side_fits : Content → Bool
side_fits c = within 2 8 (side c)

abbrev pub frame_fits : Content → Bool
frame_fits c = within 2 1024 (frame c)

abbrev pub depth_fits : Content → Bool
depth_fits c = within 1 128 (depth c)

abbrev pub on_torus : ℕ → Flow → Bool
on_torus m f = nat_lt f.source.0 m && (nat_lt f.source.1 m && (nat_lt f.destination.0 m && nat_lt f.destination.1 m))

abbrev pub is_still : Flow → Bool
is_still f = f.source.0 == f.destination.0 && f.source.1 == f.destination.1

abbrev pub burst_fits : Flow → Bool
burst_fits f = within 1 64 f.burst.0

abbrev pub rate_fits : ℕ → Flow → Bool
rate_fits q f = within 1 q f.rate.0

-- nothing is wrong with a flow on a torus of side m and at frame q
abbrev pub flow_fits : ℕ → ℕ → Flow → Bool
flow_fits m q f = on_torus m f && (not (is_still f) && (burst_fits f && rate_fits q f))

-- the first thing that is wrong with a flow, on a torus of side m and at frame q
abbrev pub flow_fault : ℕ → ℕ → Flow → Option FlowFault
flow_fault m q f =
    cond (on_torus m f)
    (cond (is_still f)
    (Some Still)
    (cond (burst_fits f)
    (cond (rate_fits q f) None (Some Rate))
    (Some Burst)))
    (Some Outside)

abbrev pub fault_at : Content → ℕ → Option FlowFault
fault_at c k = flow_fault (side c) (frame c) (flow c k)

-- no flow before flow n, counted from 0, has a fault
abbrev pub Faultless : Content → ℕ → Type 0
Faultless c n = (k : ℕ) → k < n → flow_fits (side c) (frame c) (flow c k) ≡ true

-- flow number i, counted from 1, is the first with a fault
pub record FirstFault (c : Content) (i : ℕ) (fault : FlowFault) : Type 0 where
  pub numbered : 1 ≤ i
  pub within : i ≤ count c
  pub here : fault_at c (i - 1) ≡ Some fault
  pub before : Faultless c (i - 1)
