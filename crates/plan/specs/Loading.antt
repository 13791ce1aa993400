-- From the bytes of a table file to a plan.
use Rattle.std.specs.Prelude.{◌≡◌, ℕ, List, Ok, Err, Result}
use Rattle.table.specs.Content.{Content, content}
use Rattle.table.specs.Format.{encode}
use Rattle.table.specs.Reading as reading
use Rattle.plan.specs.declared.fault.PlanFault.{PlanFault}
use Rattle.plan.specs.declared.fault.PlanFault.TheVariants.{File, Own}
use Rattle.plan.specs.declared.model.Plan.{Plan}
use Rattle.plan.specs.Refusals.{Refused}

-- the fault that the bytes are refused by: reading's, or admission's of the table whose file they are
abbrev pub TurnedDown : List ℕ → PlanFault → Type 0
TurnedDown bs (File f) = reading.Refused bs f
TurnedDown bs (Own f) = (c : Content) × (bs ≡ encode c) × Refused c f

-- the place holds the plan of the table whose file the bytes are, or it is as it was
abbrev pub Loaded : List ℕ → Plan → Plan → Result (Unit {0}) PlanFault → Type 0
Loaded bs before after (Ok u) = bs ≡ encode (content after.table)
Loaded bs before after (Err f) = TurnedDown bs f × (after ≡ before)
