-- What is stored as a backlog: 0 where there is no router, or more packets than can be counted.
use Rattle.std.specs.Prelude.{ℕ, Some, None, Option}
use Rattle.quantity.specs.declared.Packets.{Packets}
use Rattle.table.specs.Content.{Content}
use Rattle.bounds.specs.Bounds.{backlog, packets}

abbrev pub counted : Option Packets → ℕ
counted (Some p) = p.0
counted None = 0

abbrev pub stored : Content → (ℕ → ℕ) → Option (ℕ × ℕ) → ℕ
stored c x (Some r) = counted (packets (backlog c x r))
stored c x None = 0
