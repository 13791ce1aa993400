-- The number, layer and place of each refusal.
use Rattle.std.specs.Prelude.{ℕ}
use Rattle.table.specs.declared.fault.Fault.{Fault}
use Rattle.table.specs.declared.fault.Layer.TheVariants.{Plan}
use Rattle.table.specs.declared.fault.Place.{Place}
use Rattle.table.specs.declared.fault.Place.TheVariants as places
use Rattle.table.specs.declared.fault.Place.TheVariants.{Nowhere, Router}
use Rattle.plan.specs.declared.refusal.FlowFault.{FlowFault}
use Rattle.plan.specs.declared.refusal.FlowFault.TheVariants.{Outside, Still, Burst, Rate}
use Rattle.plan.specs.declared.refusal.Refusal.{Refusal}
use Rattle.plan.specs.declared.refusal.Refusal.TheVariants.{Side, Frame, Depth, Flow, Saturated, Crowded, Unbounded, Shallow}

abbrev pub fault : ℕ → Place → Fault
fault n p = record { number = n; layer = Plan; place = p }

abbrev pub flow_number : FlowFault → ℕ
flow_number Outside = 13
flow_number Still = 14
flow_number Burst = 15
flow_number Rate = 16

abbrev pub fault_of : Refusal → Fault
fault_of Side = fault 10 Nowhere
fault_of Frame = fault 11 Nowhere
fault_of Depth = fault 12 Nowhere
fault_of (Flow n f) = fault (flow_number f) (places.Flow n)
fault_of (Saturated r) = fault 17 (Router r)
fault_of (Crowded n) = fault 18 (places.Flow n)
fault_of Unbounded = fault 19 Nowhere
fault_of (Shallow r) = fault 20 (Router r)
