-- The number, layer and place of each refusal.
use Rattle.table.specs.declared.fault.Fault.{Fault}
use Rattle.table.specs.declared.refusal.Refusal.{Refusal}
use Rattle.table.specs.declared.refusal.Refusal.TheVariants.{Cut, Undue, Missized, Excess, Miscount, Trailing, Full, Short}
use Rattle.table.specs.Content.{full}
use Rattle.table.specs.Reading.{refusal}
use Rattle.table.specs.Writing.{short}

abbrev pub fault_of : Refusal → Fault
fault_of (Cut at) = refusal 1 at
fault_of (Undue at) = refusal 2 at
fault_of (Missized at) = refusal 3 at
fault_of (Excess at) = refusal 4 at
fault_of (Miscount at) = refusal 5 at
fault_of (Trailing at) = refusal 6 at
fault_of Full = full
fault_of Short = short
