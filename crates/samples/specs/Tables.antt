-- The tables of the samples.
use Rattle.std.specs.Prelude.{ℕ, List, [], ◌∷◌}
use Rattle.table.specs.declared.flow.Flow.{Flow}
use Rattle.table.specs.Content.{Content}

-- a flow of burst 1
abbrev pub flow : ℕ × ℕ → ℕ × ℕ → ℕ → Flow
flow source destination p = record { source = source; destination = destination; burst = record { 0 = 1 }; rate = record { 0 = p } }

-- side, depth, frame and flows
abbrev pub table : ℕ → ℕ → ℕ → List Flow → Content
table m depth q fs = record { dimensions = record { side = m; depth = record { 0 = depth }; frame = record { 0 = q } }; flows = fs }

-- five flows, of which flow 4 has rate p and the others 100
abbrev pub five : ℕ → Content
five p = table 3 8 400
    (flow (0, 1) (2, 1) 100 ∷ flow (1, 1) (2, 0) 100 ∷ flow (1, 1) (1, 2) 100 ∷ flow (2, 1) (2, 2) p ∷ flow (1, 2) (2, 1) 100 ∷ [])

-- three flows that meet in one column, each of rate p
abbrev pub ring : ℕ → ℕ → Content
ring p depth = table 3 depth 100 (flow (0, 0) (1, 2) p ∷ flow (0, 1) (1, 0) p ∷ flow (0, 2) (1, 1) p ∷ [])

-- one flow of one hop south that may send in every step
abbrev pub hop : Content
hop = table 2 8 4 (flow (0, 0) (0, 1) 4 ∷ [])
