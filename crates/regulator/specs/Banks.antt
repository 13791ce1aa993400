-- A bank of regulators, by the row of their meanings; places count from 0.
use Rattle.std.specs.Prelude.{ℕ, min, Bool, not, ◌&&◌, List, length, Some, None, Option, ◌==◌, slice_index_or, slice_set}
use Rattle.table.specs.declared.flow.Flow.{Flow}
use Rattle.table.specs.Content.{Content}
use Rattle.bounds.specs.Sums.{count, flow}
use Rattle.bounds.specs.Bounds.{frame}
use Rattle.plan.specs.Order.{NoneBelow, FirstNumbered}
use Rattle.regulator.specs.Meaning.{Meaning, taken}

-- what stands for a regulator that is not there: it is never covered
abbrev pub absent : Meaning
absent = record { burst = 0; rate = 0; frame = 1; allowance = 0 }

abbrev pub at : List Meaning → ℕ → Meaning
at ms k = slice_index_or ms k absent

-- the regulator at place k was asked to take
abbrev pub taken_at : List Meaning → ℕ → List Meaning
taken_at ms k = slice_set ms k (taken (at ms k))

-- it has the flow's burst and rate, and the frame q
abbrev pub tells : Meaning → Flow → ℕ → Bool
tells m f q = m.burst == f.burst.0 && (m.rate == f.rate.0 && m.frame == q)

-- the regulator at place k has other numbers than flow k of the table
abbrev pub differs : Content → List Meaning → ℕ → Bool
differs c ms k = not (tells (at ms k) (flow c k) (frame c))

-- the places that have both a flow and a regulator
abbrev pub common : Content → List Meaning → ℕ
common c ms = min (length ms) (count c)

-- the lowest flow, by its number, whose regulator has other numbers; or there is none
abbrev pub FirstOther : Content → List Meaning → Option ℕ → Type 0
FirstOther c ms (Some i) = FirstNumbered (common c ms) (differs c ms) i
FirstOther c ms None = NoneBelow (common c ms) (differs c ms)
