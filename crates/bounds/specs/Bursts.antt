-- What the search for the least bursts answers.
use Rattle.std.specs.Prelude.{◌≡◌, ℕ, ◌≤◌, List, length, Ok, Err, Result}
use Rattle.quantity.specs.declared.Units.{Units}
use Rattle.least.specs.declared.Unmet.{Unmet}
use Rattle.table.specs.Content.{Content}
use Rattle.bounds.specs.Sums.{count, units_of}
use Rattle.bounds.specs.Bounds.{LeastBursts, NoBursts}

-- nothing stands behind the last flow
abbrev pub Ends : Content → List Units → Type 0
Ends c us = (k : ℕ) → count c ≤ k → units_of us k ≡ 0

abbrev pub Bounded : Content → Result (List Units) Unmet → Type 0
Bounded c (Ok us) = (length us ≡ 64) × LeastBursts c (units_of us) × Ends c us
Bounded c (Err u) = NoBursts c
