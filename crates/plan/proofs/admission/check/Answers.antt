use Rattle.std.proofs.Common.{◌≡◌, true, rules}
use Rattle.table.specs.Content.{content}
use Rattle.bounds.specs.Bounds.{saturated}
use Rattle.plan.specs.Faults.{side_fits, frame_fits, depth_fits}
use Rattle.plan.specs.Plans.{Whole, Roomy, Sound}
use Rattle.plan.proofs.admission.check.Goals as goal
use Rattle.plan.proofs.admission.check.Goals.{After-first_router, In_default-first_router}

-- the numbers and the flows keep their ranges once the turns are looked at
whole : (c : After-first_router) → Whole (content c.args.table.now)
whole c =
    let t = content c.args.table.now in
    let side : side_fits t ≡ true = search rules in
    let frame : frame_fits t ≡ true = search rules in
    let depth : depth_fits t ≡ true = search rules in
    record { ranged = (side, frame, depth); flows = c.in_default.ensures }

-- and no turn is saturated once the sources are
turns : (c : In_default-first_router) → Whole (content c.args.table.now) → Roomy (content c.args.table.now)
turns c w = record { whole = w; turns = c.in_default-first_router.ensures (saturated (content c.args.table.now)) (λ r b column row h. search rules) }

pub returns-in-Some-first_router : goal.returns-in-Some-first_router
returns-in-Some-first_router c = (
  whole (goal.at.returns-in-Some-first_router c).After-first_router,
  c.in-Some-first_router.ensures (saturated (content c.args.table.now)) (λ r b column row h. search rules),
)

pub returns-in-Some-first_crowded : goal.returns-in-Some-first_crowded
returns-in-Some-first_crowded c =
    let at = goal.at.returns-in-Some-first_crowded c in
    (turns at.In_default-first_router (whole at.After-first_router), c.in-Some-first_crowded.ensures)

pub returns : goal.returns
returns c =
    let at = goal.at.returns c in
    let sound : Sound (content c.args.table.now) = record { roomy = turns at.In_default-first_router (whole at.After-first_router); sources = c.in_default-first_crowded.ensures } in
    sound
