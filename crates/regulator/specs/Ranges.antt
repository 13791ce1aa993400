-- A number in a range, both ends included.
use Rattle.std.specs.Prelude.{ℕ, ◌≤◌}

abbrev pub Between : ℕ → ℕ → ℕ → Type 0
Between low high n = (low ≤ n) × (n ≤ high)
