use Rattle.std.proofs.Common.{◌≡◌, ℕ, ◌<◌, map, length, get_or}
use Rattle.table.specs.Content.{content}
use Rattle.bounds.specs.Sums.{count}
use Rattle.bounds.specs.Lines.{line_of, least_burst}
use Rattle.bounds.proofs.lines.build.lines_of.Given as goal

abbrev pub invariant-loop-k : goal.invariant-loop-k
invariant-loop-k l = (length l.line-items ≡ count (content l.table))
    × ((i : ℕ) → i < l.k → (x : ℕ → ℕ) → get_or (map (line_of (count (content l.table)) x) l.line-items) i 0 ≡ least_burst (content l.table) x i)
