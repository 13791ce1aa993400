-- What a plan keeps.
use Rattle.std.specs.Prelude.{◌≡◌, ℕ, ◌+◌, ◌*◌, ◌<◌, ◌≤◌, Bool, true, List, [], nat_lt, slice_index_or}
use Rattle.quantity.specs.declared.Packets.{Packets}
use Rattle.table.specs.Content.{Content}
use Rattle.bounds.specs.Sums.{count}
use Rattle.bounds.specs.Bounds.{side, saturated, crowded, backlog}
use Rattle.plan.specs.Order.{NoneBelow, Nowhere}
use Rattle.plan.specs.Faults.{depth, side_fits, frame_fits, depth_fits, Faultless}

-- the numbers of a row of packets
abbrev pub packets_of : List Packets → ℕ → ℕ
packets_of ps k = (slice_index_or ps k (record { 0 = 0 })).0

-- the table of a place for a plan as it starts: side 2, depth 1, frame 2, no flows
abbrev pub empty_table : Content
empty_table = record { dimensions = record { side = 2; depth = record { 0 = 1 }; frame = record { 0 = 2 } }; flows = [] }

abbrev pub Ranged : Content → Type 0
Ranged c = (side_fits c ≡ true) × (frame_fits c ≡ true) × (depth_fits c ≡ true)

-- the backlog of each router, row by row
abbrev pub Backlogs : Content → (ℕ → ℕ) → List Packets → Type 0
Backlogs c x ps = (r : ℕ × ℕ) → r.0 < side c → r.1 < side c → packets_of ps (r.1 * side c + r.0) ≡ backlog c x r

-- nothing stands behind the last router
abbrev pub Over : Content → List Packets → Type 0
Over c ps = (k : ℕ) → side c * side c ≤ k → packets_of ps k ≡ 0

-- each queue has room for its backlog and one packet more
abbrev pub Deep : Content → (ℕ → ℕ) → Type 0
Deep c x = (r : ℕ × ℕ) → r.0 < side c → r.1 < side c → backlog c x r + 1 ≤ depth c

abbrev pub shallow : Content → (ℕ → ℕ) → ℕ × ℕ → Bool
shallow c x r = nat_lt (depth c) (backlog c x r + 1)

-- the table's own numbers and its flows keep their ranges
pub record Whole (c : Content) : Type 0 where
  pub ranged : Ranged c
  pub flows : Faultless c (count c)

-- and no turn is saturated
pub record Roomy (c : Content) : Type 0 where
  pub whole : Whole c
  pub turns : Nowhere (side c) (saturated c)

-- and no source is crowded: the table has no fault that is seen before bursts are looked for
pub record Sound (c : Content) : Type 0 where
  pub roomy : Roomy c
  pub sources : NoneBelow (count c) (crowded c)
