-- What the calls of a closure answer that is given flows of a table, each with its number from 0.
use Rattle.std.specs.Prelude.{◌≡◌, ℕ, ◌<◌, ◌≤◌}
use denote.Ref.{Bor}
use Rattle.table.specs.declared.flow.Flow.{Flow}
use Rattle.table.specs.Content.{Content}
use Rattle.bounds.specs.Sums.{count, flow}

-- at flow k of the table, `says k`
abbrev pub Answers : {R : Type 0} → Content → (ℕ → Bor Flow → R → Type 0) → (ℕ → R) → Type 0
Answers {R} c post says = (k : ℕ) (f : Bor Flow) (r : R) → k < count c → f.now ≡ flow c k → post k f r → r ≡ says k

-- no number above 16 bits
abbrev pub Narrow : (ℕ → Bor Flow → ℕ → Type 0) → Type 0
Narrow post = (k : ℕ) (f : Bor Flow) (r : ℕ) → post k f r → r ≤ 65535
