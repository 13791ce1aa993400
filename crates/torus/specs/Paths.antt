-- Paths of flows over a torus of m by m routers; a router is its column and its row.
use Rattle.std.specs.Prelude.{◌≡◌, ℕ, ◌+◌, ◌-◌, ◌*◌, ◌/◌, ◌%◌, ◌<◌, Bool, cond, not, ◌&&◌, Some, None, Option, ◌==◌, nat_le, nat_lt}
use Rattle.table.specs.declared.flow.Flow.{Flow}

-- one on, round a ring of m
abbrev pub next : ℕ → ℕ → ℕ
next m a = cond (nat_lt (a + 1) m) (a + 1) 0

-- steps from a on to b, round a ring of m
abbrev pub ahead : ℕ → ℕ → ℕ → ℕ
ahead m a b = cond (nat_le a b) (b - a) (m - (a - b))

-- a router of the torus
abbrev pub on : ℕ → ℕ × ℕ → Bool
on m r = nat_lt r.0 m && nat_lt r.1 m

-- router k, row by row
abbrev pub router_at : ℕ → ℕ → Option (ℕ × ℕ)
router_at m k = cond (nat_lt k (m * m)) (Some (k % m, k / m)) None

abbrev pub index_of : ℕ → ℕ × ℕ → Option ℕ
index_of m r = cond (on m r) (Some (r.1 * m + r.0)) None

-- a flow turns where its source and its destination stand in different columns
abbrev pub turns : Flow → Bool
turns f = not (f.source.0 == f.destination.0)

-- the router in the destination's column and the source's row
abbrev pub corner : Flow → ℕ × ℕ
corner f = (f.destination.0, f.source.1)

abbrev pub turn_of : Flow → Option (ℕ × ℕ)
turn_of f = cond (turns f) (Some (corner f)) None

abbrev pub turns_at : Flow → ℕ × ℕ → Bool
turns_at f r = turns f && (f.destination.0 == r.0 && f.source.1 == r.1)

-- passes straight east: strictly between the source and the destination's column
abbrev pub through : ℕ → Flow → ℕ × ℕ → Bool
through m f r = f.source.1 == r.1
    && (nat_lt 0 (ahead m f.source.0 r.0) && nat_lt (ahead m f.source.0 r.0) (ahead m f.source.0 f.destination.0))

-- is reached from the north, the destination too
abbrev pub north : ℕ → Flow → ℕ × ℕ → Bool
north m f r = f.destination.0 == r.0
    && (nat_lt 0 (ahead m f.source.1 r.1) && nat_le (ahead m f.source.1 r.1) (ahead m f.source.1 f.destination.1))

-- the routers that a packet goes by, both ends counted
abbrev pub hops : ℕ → Flow → ℕ
hops m f = ahead m f.source.0 f.destination.0 + ahead m f.source.1 f.destination.1 + 1

-- what `next` and `ahead` are for numbers of the ring
abbrev pub Next : ℕ → ℕ → ℕ → Type 0
Next m a b = a < m → b ≡ (a + 1) % m

abbrev pub Ahead : ℕ → ℕ → ℕ → ℕ → Type 0
Ahead m a b d = a < m → b < m → d ≡ (b + m - a) % m

-- the number of a router leads back to it
abbrev pub RouterBack : ℕ → ℕ → Option (ℕ × ℕ) → Type 0
RouterBack m k (Some r) = index_of m r ≡ Some k
RouterBack m k None = Unit {0}

abbrev pub IndexBack : ℕ → ℕ × ℕ → Option ℕ → Type 0
IndexBack m r (Some k) = router_at m k ≡ Some r
IndexBack m r None = Unit {0}
