-- The lines about a plan; x is its choice of bursts, in units, by flow.
use Rattle.std.specs.Prelude.{ℕ, zero, suc, ◌+◌, cond, List, [], ◌++◌, codes, decimal}
use Rattle.table.specs.Content.{Content}
use Rattle.bounds.specs.Sums.{count}
use Rattle.bounds.specs.Bounds.{side, is_turn}
use Rattle.plan.specs.declared.told.FlowBounds.{FlowBounds}
use Rattle.plan.specs.declared.told.RouterBounds.{RouterBounds}
use Rattle.plan.specs.Told.{flow_bounds, router_bounds}
use Rattle.listing.specs.Lines.{router_words, torus_line}

-- f 0 and then f 1 and so on, n pieces one after another
abbrev pub lines_to : ℕ → (ℕ → List ℕ) → List ℕ
lines_to zero f = []
lines_to (suc n) f = lines_to n f ++ f n

-- `flow 1 burst 660 wait 0 turn 6 hops 3 latency 9`
abbrev pub bounds_line : ℕ → FlowBounds → List ℕ
bounds_line n b =
    codes "flow " ++ decimal n
    ++ codes " burst " ++ decimal b.burst.0
    ++ codes " wait " ++ decimal b.wait.0 ++ codes " turn " ++ decimal b.turn.0
    ++ codes " hops " ++ decimal b.hops.0 ++ codes " latency " ++ decimal b.latency.0 ++ codes "\n"

-- `router 2 1 backlog 2 depth 3`
abbrev pub queue_line : ℕ × ℕ → RouterBounds → List ℕ
queue_line r q = router_words (codes "router ") r ++ codes " backlog " ++ decimal q.backlog.0 ++ codes " depth " ++ decimal q.depth.0 ++ codes "\n"

-- `admitted 5`
abbrev pub admitted_line : ℕ → List ℕ
admitted_line n = codes "admitted " ++ decimal n ++ codes "\n"

-- flow k counts from 0 here, and from 1 in its line
abbrev pub bounds_at : Content → (ℕ → ℕ) → ℕ → List ℕ
bounds_at c x k = bounds_line (k + 1) (flow_bounds c x k)

-- a line for each flow
abbrev pub bounds_lines : Content → (ℕ → ℕ) → List ℕ
bounds_lines c x = lines_to (count c) (bounds_at c x)

-- no line where no flow turns
abbrev pub queue_at : Content → (ℕ → ℕ) → ℕ × ℕ → List ℕ
queue_at c x r = cond (is_turn c r) (queue_line r (router_bounds c x r)) []

-- the routers of one row, column by column
abbrev pub queue_row : Content → (ℕ → ℕ) → ℕ → List ℕ
queue_row c x row = lines_to (side c) (λ column. queue_at c x (column, row))

-- the routers of all rows
abbrev pub queue_lines : Content → (ℕ → ℕ) → List ℕ
queue_lines c x = lines_to (side c) (queue_row c x)

abbrev pub plan_text : Content → (ℕ → ℕ) → List ℕ
plan_text c x = torus_line c.dimensions ++ bounds_lines c x ++ queue_lines c x ++ admitted_line (count c)
