-- What is shown of a table file.
use Rattle.std.specs.Prelude.{◌≡◌, ℕ, List, Ok, Err, Result}
use Rattle.table.specs.declared.fault.Fault.{Fault}
use Rattle.table.specs.declared.model.Table.{Table}
use Rattle.table.specs.Content.{content}
use Rattle.table.specs.Reading.{Answers, Alone}
use Rattle.listing.specs.Lines.{table_text, refused_line}

abbrev pub answer_text : Result Table Fault → List ℕ
answer_text (Ok t) = table_text (content t)
answer_text (Err f) = refused_line f

-- reading answers the bytes bs, and s is the text of that answer
pub record Shown (bs s : List ℕ) : Type 0 where
  pub answer : Result Table Fault
  pub right : Answers bs answer
  pub alone : Alone bs answer
  pub text : s ≡ answer_text answer
