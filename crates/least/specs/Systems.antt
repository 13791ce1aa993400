-- Systems of lines: for each entry the least that it may be, given all entries, and the most.
use Rattle.std.specs.Prelude.{◌≡◌, ℕ, ◌-◌, ◌^◌, ◌<◌, ◌≤◌, List, Some, None, sum_by, Option, slice_index}

-- the numbers of a slice, 0 behind its end
abbrev pub entries_of : List ℕ → ℕ → ℕ
entries_of xs k = slice_index xs k

-- of the first n entries, x has at most as much as y, each
abbrev pub Below : ℕ → (ℕ → ℕ) → (ℕ → ℕ) → Type 0
Below n x y = (k : ℕ) → k < n → x k ≤ y k

-- raising an entry lowers no line
abbrev pub Monotone : ℕ → ((ℕ → ℕ) → ℕ → ℕ) → Type 0
Monotone n line = (x y : ℕ → ℕ) → Below n x y → (i : ℕ) → i < n → line x i ≤ line y i

-- the first n entries are each at or above their line and at or below their ceiling
pub record Meets (n : ℕ) (line : (ℕ → ℕ) → ℕ → ℕ) (ceiling x : ℕ → ℕ) : Type 0 where
  pub above : (i : ℕ) → i < n → line x i ≤ x i
  pub below : Below n x ceiling

-- no more than any entries that meet the system
abbrev pub Floor : ℕ → ((ℕ → ℕ) → ℕ → ℕ) → (ℕ → ℕ) → (ℕ → ℕ) → Type 0
Floor n line ceiling x = (y : ℕ → ℕ) → Meets n line ceiling y → Below n x y

-- the least entries that meet the system
pub record Least (n : ℕ) (line : (ℕ → ℕ) → ℕ → ℕ) (ceiling x : ℕ → ℕ) : Type 0 where
  pub meets : Meets n line ceiling x
  pub least : Floor n line ceiling x

-- no entries meet the system
abbrev pub NoneMeets : ℕ → ((ℕ → ℕ) → ℕ → ℕ) → (ℕ → ℕ) → Type 0
NoneMeets n line ceiling = (y : ℕ → ℕ) → Meets n line ceiling y → ⊥

-- the line, where it keeps the ceiling
abbrev pub Capped : ℕ → ℕ → Option ℕ → Type 0
Capped line ceiling (Some v) = (v ≡ line) × (v ≤ ceiling)
Capped line ceiling None = ceiling < line

-- how far entries of 32 bits can still rise, all together
unfoldable pub room : List ℕ → ℕ
room xs = sum_by (λ x. 2 ^ 32 - x) xs
