-- What admission answers.
use Rattle.std.specs.Prelude.{◌≡◌, ℕ, true, false, Ok, Err, Result, ◌≢◌}
use Rattle.table.specs.declared.fault.Fault.{Fault}
use Rattle.table.specs.Content.{Content, content}
use Rattle.bounds.specs.Sums.{count}
use Rattle.bounds.specs.Bounds.{side, saturated, crowded, LeastBursts, NoBursts}
use Rattle.plan.specs.declared.refusal.Refusal.{Refusal}
use Rattle.plan.specs.declared.refusal.Refusal.TheVariants.{Side, Frame, Depth, Flow, Saturated, Crowded, Unbounded, Shallow}
use Rattle.plan.specs.declared.model.Plan.{Plan}
use Rattle.plan.specs.Order.{FirstNumbered, FirstRouter}
use Rattle.plan.specs.Faults.{side_fits, frame_fits, depth_fits, FirstFault}
use Rattle.plan.specs.Numbers.{fault_of}
use Rattle.plan.specs.Plans.{Ranged, Whole, Roomy, Sound, shallow}

-- the reason stands against the table, and none that comes before it in the order does
abbrev pub Against : Content → Refusal → Type 0
Against c Side = side_fits c ≡ false
Against c Frame = (side_fits c ≡ true) × (frame_fits c ≡ false)
Against c Depth = (side_fits c ≡ true) × (frame_fits c ≡ true) × (depth_fits c ≡ false)
Against c (Flow i fault) = Ranged c × FirstFault c i fault
Against c (Saturated r) = Whole c × FirstRouter (side c) (saturated c) r
Against c (Crowded i) = Roomy c × FirstNumbered (count c) (crowded c) i
Against c Unbounded = Sound c × NoBursts c
Against c (Shallow r) = Sound c × ((x : ℕ → ℕ) × LeastBursts c x × FirstRouter (side c) (shallow c x) r)

-- a plan for this very table, or the reason against it
abbrev pub Admits : Content → Result Plan Refusal → Type 0
Admits c (Ok p) = content p.table ≡ c
Admits c (Err why) = Against c why

-- the fault of a reason that stands against the table
abbrev pub Refused : Content → Fault → Type 0
Refused c f = (why : Refusal) × (f ≡ fault_of why) × Against c why

-- the place holds the plan of the table, or it is as it was
abbrev pub Admitted : Content → Plan → Plan → Result (Unit {0}) Fault → Type 0
Admitted c before after (Ok u) = content after.table ≡ c
Admitted c before after (Err f) = Refused c f × (after ≡ before)

-- the plan in the place is the table's only one, and a refused table has none
abbrev pub Alone : Content → Plan → Result (Unit {0}) Fault → Type 0
Alone c after (Ok u) = (q : Plan) → content q.table ≡ c → (q.bursts ≡ after.bursts) × (q.backlogs ≡ after.backlogs)
Alone c after (Err f) = (q : Plan) → content q.table ≢ c
