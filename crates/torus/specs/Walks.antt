-- What a flow's path is as a walk: so many steps east in its source's row, then so many south in its destination's column.
use Rattle.std.specs.Prelude.{◌≡◌, ℕ, ◌+◌, ◌-◌, ◌%◌, ◌<◌, ◌≤◌, Bool, Decides}
use Rattle.table.specs.declared.flow.Flow.{Flow}

-- both ends of the flow are on the torus of side m
abbrev pub Ends : ℕ → Flow → Type 0
Ends m f = (f.source.0 < m) × (f.source.1 < m) × (f.destination.0 < m) × (f.destination.1 < m)

-- and so is the router
abbrev pub Placed : ℕ → Flow → ℕ × ℕ → Type 0
Placed m f r = Ends m f × (r.0 < m) × (r.1 < m)

-- steps east, and then steps south
abbrev pub easts : ℕ → Flow → ℕ
easts m f = (f.destination.0 + m - f.source.0) % m

abbrev pub souths : ℕ → Flow → ℕ
souths m f = (f.destination.1 + m - f.source.1) % m

-- reached by some step east that is not the last
abbrev pub Passes : ℕ → Flow → ℕ × ℕ → Type 0
Passes m f r = (j : ℕ) × (1 ≤ j) × (j < easts m f) × (r.0 ≡ (f.source.0 + j) % m) × (r.1 ≡ f.source.1)

-- reached by some step south
abbrev pub Reaches : ℕ → Flow → ℕ × ℕ → Type 0
Reaches m f r = (j : ℕ) × (1 ≤ j) × (j ≤ souths m f) × (r.0 ≡ f.destination.0) × (r.1 ≡ (f.source.1 + j) % m)

abbrev pub WalksThrough : ℕ → Flow → ℕ × ℕ → Bool → Type 0
WalksThrough m f r b = Placed m f r → Decides b (Passes m f r)

abbrev pub WalksNorth : ℕ → Flow → ℕ × ℕ → Bool → Type 0
WalksNorth m f r b = Placed m f r → Decides b (Reaches m f r)

-- one router for each step, and the source
abbrev pub WalksHops : ℕ → Flow → ℕ → Type 0
WalksHops m f n = Ends m f → n ≡ easts m f + souths m f + 1
