-- First flows, and first routers row by row.
use Rattle.std.specs.Prelude.{◌≡◌, ℕ, ◌-◌, ◌<◌, ◌≤◌, Bool, true, false}

-- no number before n passes the test
abbrev pub NoneBelow : ℕ → (ℕ → Bool) → Type 0
NoneBelow n test = (k : ℕ) → k < n → test k ≡ false

-- of n flows, which are numbered from 1, number i is the first that passes it
pub record FirstNumbered (n : ℕ) (test : ℕ → Bool) (i : ℕ) : Type 0 where
  pub numbered : 1 ≤ i
  pub within : i ≤ n
  pub here : test (i - 1) ≡ true
  pub before : NoneBelow (i - 1) test

-- no router in a row above row y passes the test
abbrev pub NoneAbove : ℕ → (ℕ × ℕ → Bool) → ℕ → Type 0
NoneAbove m test y = (row : ℕ) → row < y → (column : ℕ) → column < m → test (column, row) ≡ false

-- no router in row y before column x passes it
abbrev pub NoneBefore : (ℕ × ℕ → Bool) → ℕ → ℕ → Type 0
NoneBefore test y x = (column : ℕ) → column < x → test (column, y) ≡ false

-- no router of a torus of side m passes it
abbrev pub Nowhere : ℕ → (ℕ × ℕ → Bool) → Type 0
Nowhere m test = (r : ℕ × ℕ) → r.0 < m → r.1 < m → test r ≡ false

-- r is the first router, row by row, that passes it
pub record FirstRouter (m : ℕ) (test : ℕ × ℕ → Bool) (r : ℕ × ℕ) : Type 0 where
  pub column : r.0 < m
  pub row : r.1 < m
  pub here : test r ≡ true
  pub above : NoneAbove m test r.1
  pub before : NoneBefore test r.1 r.0

-- at each router of a torus of side m, a test answers what `holds` says
abbrev pub Tells : ℕ → (ℕ × ℕ → Bool → Type 0) → (ℕ × ℕ → Bool) → Type 0
Tells m answers holds = (r : ℕ × ℕ) (b : Bool) → r.0 < m → r.1 < m → answers r b → holds r ≡ b
