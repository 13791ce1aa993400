-- Sums over the flows of a table, and rounding.
use Rattle.std.specs.Prelude.{ℕ, zero, suc, ◌+◌, ◌-◌, ◌/◌, Bool, cond, List, length, get_or, slice_index_or}
use Rattle.quantity.specs.declared.Units.{Units}
use Rattle.table.specs.declared.flow.Flow.{Flow}
use Rattle.table.specs.Blank.{blank}
use Rattle.table.specs.Content.{Content}

-- f 0 + f 1 + .. , n terms
unfoldable pub sum : ℕ → (ℕ → ℕ) → ℕ
sum zero f = 0
sum (suc n) f = sum n f + f n

-- a / d, rounded up
abbrev pub up : ℕ → ℕ → ℕ
up a d = (a + (d - 1)) / d

abbrev pub count : Content → ℕ
count c = length c.flows

-- flow k, counted from 0
abbrev pub flow : Content → ℕ → Flow
flow c k = slice_index_or c.flows k blank

-- over the flows that pass a test, the sum of a number of each
abbrev pub over : Content → (ℕ → Bool) → (ℕ → ℕ) → ℕ
over c test value = sum (count c) (λ k. cond (test k) (value k) 0)

-- the numbers of a row of units
abbrev pub units_of : List Units → ℕ → ℕ
units_of us k = (get_or us k (record { 0 = 0 })).0
