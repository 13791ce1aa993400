-- The bounds of a table's flows; x is a choice of bursts, in units, by flow.
use Rattle.std.specs.Prelude.{◌≡◌, ℕ, ◌+◌, ◌-◌, ◌*◌, ◌/◌, ◌<◌, ◌≤◌, Bool, true, false, cond, not, ◌&&◌, Some, None, Option, ◌==◌, nat_le, nat_lt}
use Rattle.quantity.specs.declared.Packets.{Packets}
use Rattle.table.specs.declared.flow.Flow.{Flow}
use Rattle.table.specs.Content.{Content}
use Rattle.torus.specs.Paths.{turns, corner, turns_at, through, north, hops}
use Rattle.bounds.specs.Sums.{up, count, flow, over}

abbrev pub side : Content → ℕ
side c = c.dimensions.side

abbrev pub frame : Content → ℕ
frame c = c.dimensions.frame.0

abbrev pub rate : Content → ℕ → ℕ
rate c k = (flow c k).rate.0

-- what a flow may send at once, less what a step brings
abbrev pub slack : Content → ℕ → ℕ
slack c k = (flow c k).burst.0 * frame c - rate c k

-- the router where flow k turns, if it does
abbrev pub turn : Content → ℕ → ℕ × ℕ
turn c k = corner (flow c k)

abbrev pub is_north : Content → ℕ × ℕ → ℕ → Bool
is_north c r k = north (side c) (flow c k) r

abbrev pub is_turning : Content → ℕ × ℕ → ℕ → Bool
is_turning c r k = turns_at (flow c k) r

abbrev pub is_through : Content → ℕ × ℕ → ℕ → Bool
is_through c r k = through (side c) (flow c k) r

-- another flow than i that turns at router r, and where i does
abbrev pub is_beside : Content → ℕ → ℕ × ℕ → ℕ → Bool
is_beside c i r k = not (k == i) && is_turning c r k

abbrev pub is_other : Content → ℕ → ℕ → Bool
is_other c i k = is_beside c i (turn c i) k

abbrev pub starts_at : Flow → ℕ × ℕ → Bool
starts_at f r = f.source.0 == r.0 && f.source.1 == r.1

-- another flow of the client of flow i
abbrev pub is_client : Content → ℕ → ℕ → Bool
is_client c i k = not (k == i) && starts_at (flow c k) (flow c i).source

-- rates and bursts of the north flows of a router, rates and slacks of the flows that turn there
abbrev pub north_rates : Content → ℕ × ℕ → ℕ
north_rates c r = over c (is_north c r) (rate c)

abbrev pub north_bursts : Content → (ℕ → ℕ) → ℕ × ℕ → ℕ
north_bursts c x r = over c (is_north c r) x

abbrev pub turn_rates : Content → ℕ × ℕ → ℕ
turn_rates c r = over c (is_turning c r) (rate c)

abbrev pub turn_slacks : Content → ℕ × ℕ → ℕ
turn_slacks c r = over c (is_turning c r) (slack c)

-- some flow turns at the router
abbrev pub is_turn : Content → ℕ × ℕ → Bool
is_turn c r = nat_lt 0 (over c (is_turning c r) (λ _. 1))

-- what north flows leave of a step
abbrev pub room : Content → ℕ × ℕ → ℕ
room c r = frame c - north_rates c r

abbrev pub other_slacks : Content → ℕ → ℕ
other_slacks c i = over c (is_other c i) (slack c)

-- what a flow that turns finds at its turn: the bursts from the north, the slacks of the others
abbrev pub met : Content → (ℕ → ℕ) → ℕ → ℕ
met c x i = north_bursts c x (turn c i) + other_slacks c i

-- what the burst of a flow that turns has to be at least
abbrev pub turning_burst : Content → (ℕ → ℕ) → ℕ → ℕ
turning_burst c x i = slack c i + up (rate c i * met c x i) (room c (turn c i))

-- a flow that does not turn has its slack
abbrev pub Straight : Content → (ℕ → ℕ) → Type 0
Straight c x = (i : ℕ) → i < count c → turns (flow c i) ≡ false → x i ≡ slack c i

-- a flow that turns has at least what its turn asks
abbrev pub Turning : Content → (ℕ → ℕ) → Type 0
Turning c x = (i : ℕ) → i < count c → turns (flow c i) ≡ true → turning_burst c x i ≤ x i

-- no burst is larger
abbrev pub ceiling : ℕ
ceiling = 131072

abbrev pub Capped : Content → (ℕ → ℕ) → Type 0
Capped c x = (i : ℕ) → i < count c → x i ≤ ceiling

-- x is a choice of bursts that keeps the rules
pub record Keeps (c : Content) (x : ℕ → ℕ) : Type 0 where
  pub straight : Straight c x
  pub turning : Turning c x
  pub capped : Capped c x

-- every choice that keeps the rules has at least as much for each flow
abbrev pub Minimal : Content → (ℕ → ℕ) → Type 0
Minimal c x = (y : ℕ → ℕ) → Keeps c y → (i : ℕ) → i < count c → x i ≤ y i

pub record LeastBursts (c : Content) (x : ℕ → ℕ) : Type 0 where
  pub keeps : Keeps c x
  pub minimal : Minimal c x

-- no choice keeps the rules
abbrev pub NoBursts : Content → Type 0
NoBursts c = (y : ℕ → ℕ) → Keeps c y → ⊥

-- packets that can wait at a router's turn; 0 where no flow turns
unfoldable pub backlog : Content → (ℕ → ℕ) → ℕ × ℕ → ℕ
backlog c x r = (turn_slacks c r + turn_rates c r * north_bursts c x r / room c r) / frame c

-- a number of packets, where `Packets` holds it
abbrev pub packets : ℕ → Option Packets
packets n = cond (nat_lt n 65536) (Some (record { 0 = n })) None

-- steps that a packet of flow i can wait at its turn
unfoldable pub turn_delay : Content → (ℕ → ℕ) → ℕ → ℕ
turn_delay c x i = cond (turns (flow c i))
    (up (slack c i) (room c (turn c i) - (turn_rates c (turn c i) - rate c i)) + up (met c x i) (room c (turn c i)))
    0

-- the users of the outlet of flow f at its source, east if it turns, else south, by their rates
abbrev pub outlet_rates : Content → Flow → ℕ
outlet_rates c f = cond (turns f)
    (over c (is_through c f.source) (rate c))
    (north_rates c f.source + turn_rates c f.source)

-- and by what they can send at once: through flows have not queued yet, north and turning flows may have
abbrev pub outlet_units : Content → (ℕ → ℕ) → Flow → ℕ
outlet_units c x f = cond (turns f)
    (over c (is_through c f.source) (slack c))
    (north_bursts c x f.source + over c (is_turning c f.source) x)

-- the rivals of flow i: the other flows of its client, and the users of its outlet
abbrev pub rival_rates : Content → ℕ → ℕ
rival_rates c i = over c (is_client c i) (rate c) + outlet_rates c (flow c i)

abbrev pub rival_units : Content → (ℕ → ℕ) → ℕ → ℕ
rival_units c x i = over c (is_client c i) (slack c) + outlet_units c x (flow c i)

-- steps that a covered packet of flow i can wait in its mouth
abbrev pub wait : Content → (ℕ → ℕ) → ℕ → ℕ
wait c x i = rival_units c x i / (frame c - rival_rates c i)

abbrev pub latency : Content → (ℕ → ℕ) → ℕ → ℕ
latency c x i = wait c x i + turn_delay c x i + hops (side c) (flow c i)

-- flows turn at the router, and with its north flows they fill every step
abbrev pub saturated : Content → ℕ × ℕ → Bool
saturated c r = is_turn c r && nat_le (frame c) (turn_rates c r + north_rates c r)

-- flow i and its rivals bring more than a step takes
abbrev pub crowded : Content → ℕ → Bool
crowded c i = nat_lt (frame c) (rival_rates c i + rate c i)
