-- What fills the entries of a table that hold no flow.
use Rattle.table.specs.declared.flow.Flow.{Flow}

abbrev pub blank : Flow
blank = record { source = (0, 0); destination = (0, 0); burst = record { 0 = 0 }; rate = record { 0 = 0 } }
