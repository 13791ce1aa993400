-- What the functions inside reading tell of one record.
use Rattle.std.specs.Prelude.{◌≡◌, ℕ, ◌<◌, List, length, Ok, Err, Result, slice_index}
use Rattle.table.specs.declared.flow.Dimensions.{Dimensions}
use Rattle.table.specs.declared.flow.Flow.{Flow}
use Rattle.table.specs.declared.model.Table.{Table}
use Rattle.table.specs.declared.record.Kind.{Kind}
use Rattle.table.specs.declared.refusal.Refusal.{Refusal}
use Rattle.table.specs.declared.refusal.Refusal.TheVariants.{Excess}
use Rattle.table.specs.Content.{content, pushed}
use Rattle.table.specs.Reading.{word_at, Headed, Whole, Broken, Wrong, Answers}
use Rattle.table.specs.Refusals.{fault_of}

-- what the bodies of a head and of a flow say
abbrev pub dimensions_of : List ℕ → Dimensions
dimensions_of q = record { side = slice_index q 4; depth = record { 0 = slice_index q 5 }; frame = record { 0 = word_at q 6 } }

abbrev pub flow_of : List ℕ → Flow
flow_of q = record {
  source = (slice_index q 4, slice_index q 5);
  destination = (slice_index q 6, slice_index q 7);
  burst = record { 0 = word_at q 8 };
  rate = record { 0 = word_at q 10 };
}

-- how a header's inspection ends: the record's kind, or its refusal
abbrev pub Opened : ℕ → List ℕ → Result Kind Refusal → Type 0
Opened at q (Ok k) = Headed at q k
Opened at q (Err r) = Broken at q (fault_of r)

-- how a record's inspection ends: its kind, or its refusal
abbrev pub Inspected : ℕ → List ℕ → Result Kind Refusal → Type 0
Inspected at q (Ok k) = Whole at q k
Inspected at q (Err r) = Broken at q (fault_of r)

-- how adding the flow of a record ends: the table u has it, or the refusal
abbrev pub Pushed : Table → ℕ → List ℕ → Table → Result (Unit {0}) Refusal → Type 0
Pushed t at q u (Ok x) = (length (content t).flows < 64) × (content u ≡ pushed (content t) (flow_of q))
Pushed t at q u (Err r) = (length (content t).flows ≡ 64) × (r ≡ Excess at)

-- how the inspection of the end of a table's file ends: the table, or the refusal
abbrev pub Ended : Table → ℕ → List ℕ → Result Table Refusal → Type 0
Ended t at q (Ok u) = (u ≡ t) × (word_at q 4 ≡ length (content t).flows) × (length q ≡ 6)
Ended t at q (Err r) = Wrong (length (content t).flows) at q (fault_of r)

-- the same of the whole file
abbrev pub Scanned : List ℕ → Result Table Refusal → Type 0
Scanned bs (Ok t) = Answers bs (Ok t)
Scanned bs (Err r) = Answers bs (Err (fault_of r))
