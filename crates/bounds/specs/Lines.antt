-- Lines, as the search has them: each with the numbers that stay while bursts rise.
use Rattle.std.specs.Prelude.{◌≡◌, ℕ, ◌+◌, ◌*◌, Bool, false, cond, List, map, length, sum_by, Some, None, Ok, Err, Option, Result, slice_index, slice_index_or}
use Rattle.std.specs.List.{zip}
use Rattle.least.specs.declared.Unmet.{Unmet}
use Rattle.least.specs.Systems.{entries_of, Least, NoneMeets}
use Rattle.table.specs.Content.{Content}
use Rattle.torus.specs.Paths.{turns}
use Rattle.bounds.specs.declared.lines.Line.{Line}
use Rattle.bounds.specs.declared.lines.Lines.{Lines}
use Rattle.bounds.specs.declared.lines.Turn.{Turn}
use Rattle.bounds.specs.Sums.{sum, up, flow}
use Rattle.bounds.specs.Bounds.{slack, turning_burst, ceiling}

-- the bursts from the north, of the first n flows
abbrev pub from_north : List Bool → ℕ → (ℕ → ℕ) → ℕ
from_north north n x = sum n (λ k. cond (slice_index_or north k false) (x k) 0)

-- the same of all flows whose entries there are
abbrev pub brought : List Bool → List ℕ → ℕ
brought north xs = sum_by (λ (p : Bool × ℕ). cond p.0 p.1 0) (zip north xs)

-- what a turn asks beside the slack
abbrev pub asked : ℕ → (ℕ → ℕ) → Turn → ℕ
asked n x t = up (t.rate.0 * (from_north t.north n x + t.others)) t.room

abbrev pub asked_if : ℕ → (ℕ → ℕ) → Option Turn → ℕ
asked_if n x (Some t) = asked n x t
asked_if n x None = 0

abbrev pub line_of : ℕ → (ℕ → ℕ) → Line → ℕ
line_of n x l = l.slack.0 + asked_if n x l.turn

abbrev pub line_at : Lines → (ℕ → ℕ) → ℕ → ℕ
line_at s x i = slice_index (map (line_of s.count x) s.lines) i

-- the least that the burst of flow i may be
abbrev pub least_burst : Content → (ℕ → ℕ) → ℕ → ℕ
least_burst c x i = cond (turns (flow c i)) (turning_burst c x i) (slack c i)

-- the least solution of the lines stands in the place, or they have none
abbrev pub Solved : Lines → List ℕ → Result (Unit {0}) Unmet → Type 0
Solved s place (Ok u) = (length place ≡ s.count) × Least s.count (line_at s) (λ _. ceiling) (entries_of place)
Solved s place (Err u) = NoneMeets s.count (line_at s) (λ _. ceiling)
