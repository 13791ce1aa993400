-- The fault inside a plan's fault.
use Rattle.table.specs.declared.fault.Fault.{Fault}
use Rattle.plan.specs.declared.fault.PlanFault.{PlanFault}
use Rattle.plan.specs.declared.fault.PlanFault.TheVariants.{File, Own}

abbrev pub whole_of : PlanFault → Fault
whole_of (File f) = f
whole_of (Own f) = f
