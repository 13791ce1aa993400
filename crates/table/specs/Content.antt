-- What a table holds, and what building does to it.
use Rattle.std.specs.Prelude.{◌≡◌, ◌<◌, List, [], ◌∷◌, ◌++◌, length, take, Ok, Err, Result}
use Rattle.table.specs.declared.flow.Flow.{Flow}
use Rattle.table.specs.declared.flow.Dimensions.{Dimensions}
use Rattle.table.specs.declared.model.Table.{Table}
use Rattle.table.specs.declared.fault.Fault.{Fault}
use Rattle.table.specs.declared.fault.Layer.TheVariants.{File}
use Rattle.table.specs.declared.fault.Place.TheVariants as places

-- a table's numbers and flows
pub record Content : Type 0 where
  pub dimensions : Dimensions
  pub flows : List Flow

-- the flows are the entries below the count
abbrev pub content : Table → Content
content t = record { dimensions = t.dimensions; flows = take t.count t.flows }

-- c with one flow more at the end
abbrev pub pushed : Content → Flow → Content
pushed c f = record { dimensions = c.dimensions; flows = c.flows ++ f ∷ [] }

-- a table holds at most 64 flows, and building names the 65th
abbrev pub full : Fault
full = record { number = 4; layer = File; place = places.Flow 65 }

-- how adding the flow f to the table t ends, which u then is
abbrev pub Added : Table → Flow → Table → Result (Unit {0}) Fault → Type 0
Added t f u (Ok x) = (length (content t).flows < 64) × (content u ≡ pushed (content t) f)
Added t f u (Err e) = (length (content t).flows ≡ 64) × (e ≡ full) × (u ≡ t)
