use Rattle.std.proofs.Common.{◌≡◌, ℕ, ◌*◌, ◌≤◌, Bool, cond}
use Rattle.table.specs.Content.{content}
use Rattle.bounds.specs.Sums.{sum}
use Rattle.bounds.specs.Calls.{Answers, Narrow}
use Rattle.bounds.proofs.sums.total.Given as goal

abbrev pub invariant-loop-k : goal.invariant-loop-k
invariant-loop-k g l =
    ((p : ℕ → Bool) (w : ℕ → ℕ) → Answers (content l.table) (goal.T-post g l.test) p → Answers (content l.table) (goal.V-post g l.value) w → l.sum ≡ sum l.k (λ j. cond (p j) (w j) 0))
    × (l.sum ≤ l.k * 4294967295)
    × (Narrow (goal.V-post g l.value) → l.sum ≤ l.k * 65535)
