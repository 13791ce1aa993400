-- How large the numbers of a line are by their types, so that the line is short.
use Rattle.std.specs.Prelude.{ℕ, ◌^◌, ◌<◌}
use Rattle.table.specs.declared.fault.Place.{Place}
use Rattle.table.specs.declared.fault.Place.TheVariants as places
use Rattle.table.specs.declared.flow.Dimensions.{Dimensions}
use Rattle.table.specs.declared.flow.Flow.{Flow}

abbrev pub DimensionsSmall : Dimensions → Type 0
DimensionsSmall d = (d.side < 2 ^ 16) × (d.depth.0 < 2 ^ 16) × (d.frame.0 < 2 ^ 16)

abbrev pub RouterSmall : ℕ × ℕ → Type 0
RouterSmall r = (r.0 < 2 ^ 16) × (r.1 < 2 ^ 16)

abbrev pub FlowSmall : Flow → Type 0
FlowSmall f = RouterSmall f.source × RouterSmall f.destination × (f.burst.0 < 2 ^ 16) × (f.rate.0 < 2 ^ 16)

abbrev pub PlaceSmall : Place → Type 0
PlaceSmall (places.Byte n) = n < 2 ^ 64
PlaceSmall (places.Flow n) = n < 2 ^ 64
PlaceSmall (places.Router r) = RouterSmall r
PlaceSmall places.Nowhere = Unit {0}
