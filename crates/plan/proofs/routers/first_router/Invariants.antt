use Rattle.std.proofs.Common.{ℕ, ◌<◌, false}
use Rattle.plan.proofs.routers.first_router.Given as goal

abbrev pub invariant-loop-y : goal.invariant-loop-y
invariant-loop-y g l = (row : ℕ) → row < l.y → (column : ℕ) → column < l.side → goal.F-post g l.test (column, row) false

abbrev pub invariant-loop-x : goal.invariant-loop-x
invariant-loop-x g l = (column : ℕ) → column < l.x → goal.F-post g l.test (column, l.y) false
