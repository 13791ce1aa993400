-- The table file: which bytes a table has.
use Rattle.std.specs.Prelude.{ℕ, ◌/◌, ◌%◌, List, [], ◌∷◌, ◌++◌, length}
use Rattle.std.specs.List.{flat_map}
use Rattle.table.specs.declared.flow.Dimensions.{Dimensions}
use Rattle.table.specs.declared.flow.Flow.{Flow}
use Rattle.table.specs.Content.{Content}

-- a number in two bytes, the low one first
abbrev pub word : ℕ → List ℕ
word n = n % 256 ∷ n / 256 ∷ []

-- a record: the length of its body, its kind, its body
abbrev pub record_of : ℕ → List ℕ → List ℕ
record_of kind body = word (length body) ++ (word kind ++ body)

abbrev pub head_record : Dimensions → List ℕ
head_record d = record_of 1 (d.side ∷ d.depth.0 ∷ word d.frame.0)

abbrev pub flow_record : Flow → List ℕ
flow_record f =
    record_of 2
    (f.source.0 ∷ f.source.1 ∷ f.destination.0 ∷ f.destination.1 ∷ (word f.burst.0 ++ word f.rate.0))

abbrev pub end_record : ℕ → List ℕ
end_record n = record_of 3 (word n)

-- the records before the end: one head, and the flows
abbrev pub front : Content → List ℕ
front c = head_record c.dimensions ++ flat_map flow_record c.flows

abbrev pub encode : Content → List ℕ
encode c = front c ++ end_record (length c.flows)
