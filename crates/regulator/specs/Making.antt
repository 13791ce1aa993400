-- Regulators for the flows of a plan's table.
use Rattle.std.specs.Prelude.{◌≡◌, ℕ, ◌-◌, ◌*◌, true, false, List, length, Some, None, Option, Ok, Err, Result, slice_index_or}
use Rattle.table.specs.declared.flow.Flow.{Flow}
use Rattle.table.specs.Blank.{blank}
use Rattle.table.specs.declared.fault.Fault.{Fault}
use Rattle.table.specs.declared.fault.Layer.TheVariants.{Card}
use Rattle.table.specs.declared.fault.Place.TheVariants as places
use Rattle.table.specs.Content.{Content}
use Rattle.bounds.specs.Sums.{count, flow}
use Rattle.bounds.specs.Bounds.{frame, rate}
use Rattle.plan.specs.Faults.{within}
use Rattle.regulator.specs.declared.bucket.Bucket.{Bucket}
use Rattle.regulator.specs.declared.missing.NoFlow.{NoFlow}
use Rattle.regulator.specs.Meaning.{Meaning, full, with_allowance}

-- a full regulator for flow k, counted from 0
abbrev pub full_for : Content → ℕ → Meaning
full_for c k = full (flow c k).burst.0 (rate c k) (frame c)

-- there is no flow of this number
abbrev pub no_flow : ℕ → Fault
no_flow i = record { number = 34; layer = Card; place = places.Flow i }

-- what was made for flow number i, counted from 1, is full for that flow; else there is no such flow
abbrev pub Made : {R : Type 0} → (R → Meaning) → Content → ℕ → Result R Fault → Type 0
Made meaning c i (Ok r) = (within 1 (count c) i ≡ true) × (meaning r ≡ full_for c (i - 1))
Made meaning c i (Err f) = (within 1 (count c) i ≡ false) × (f ≡ no_flow i)

-- a bucket and all that it may hold
abbrev pub full_bucket : Bucket → Meaning
full_bucket k = with_allowance (k.burst.0 * k.frame.0) k

-- flow number i, counted from 1; else there is no such flow
abbrev pub Numbered : List Flow → ℕ → Option Flow → Type 0
Numbered fs i (Some f) = (within 1 (length fs) i ≡ true) × (f ≡ slice_index_or fs (i - 1) blank)
Numbered fs i None = within 1 (length fs) i ≡ false

-- the bucket of flow number i, counted from 1; else there is no such flow
abbrev pub Found : Content → ℕ → Result Bucket NoFlow → Type 0
Found c i (Ok k) = (within 1 (count c) i ≡ true) × (full_bucket k ≡ full_for c (i - 1))
Found c i (Err e) = (within 1 (count c) i ≡ false) × (e.0 ≡ i)
