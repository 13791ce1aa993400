-- The listing of a table file, and giving it to a caller's place.
use Rattle.std.specs.Prelude.{◌≡◌, ℕ, ◌<◌, ◌≤◌, List, length, Ok, Err, Result}
use Rattle.table.specs.declared.fault.Fault.{Fault}
use Rattle.table.specs.declared.fault.Layer.TheVariants as layers
use Rattle.table.specs.declared.fault.Place.TheVariants.{Nowhere}
use Rattle.table.specs.Content.{content}
use Rattle.table.specs.Format.{encode}
use Rattle.table.specs.Writing.{over}
use Rattle.bounds.specs.Sums.{units_of}
use Rattle.plan.specs.declared.fault.PlanFault.{PlanFault}
use Rattle.plan.specs.declared.model.Plan.{Plan}
use Rattle.plan.specs.Loading.{TurnedDown}
use Rattle.plan.specs.Whole.{whole_of}
use Rattle.listing.specs.Lines.{refused_line}
use Rattle.listing.specs.Plans.{plan_text}

-- s is the listing of the bytes bs: the text of the plan of the table whose file they are, or the line of the fault that they are refused by
pub data Listed (bs s : List ℕ) : Type 0 where
  admitted : (p : Plan) → bs ≡ encode (content p.table) → s ≡ plan_text (content p.table) (units_of p.bursts) → Listed bs s
  refused : (f : PlanFault) → TurnedDown bs f → s ≡ refused_line (whole_of f) → Listed bs s

-- the place is too short for the listing
abbrev pub short : Fault
short = record { number = 21; layer = layers.Plan; place = Nowhere }

-- s is at the front of the place and what was behind it stays, or the place is shorter than s and as it was
abbrev pub Given : List ℕ → List ℕ → List ℕ → Result ℕ Fault → Type 0
Given s before after (Ok n) = (n ≡ length s) × (n ≤ length before) × (after ≡ over s before)
Given s before after (Err f) = (length before < length s) × (f ≡ short) × (after ≡ before)

-- the listing of the bytes bs is given so; a place of 8192 bytes is never too short for it
pub record Lists (bs before after : List ℕ) (r : Result ℕ Fault) : Type 0 where
  pub text : List ℕ
  pub listed : Listed bs text
  pub small : length text ≤ 8192
  pub given : Given text before after r
