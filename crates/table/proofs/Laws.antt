-- Reading and writing undo each other.
use Rattle.std.proofs.Common.{◌≡◌, ℕ, List, length, take, drop, Ok, Err, Result, sym, ap, ◌∙◌}
use Rattle.std.proofs.lemmas.List.{take_at}
use Rattle.table.specs.declared.fault.Fault.{Fault}
use Rattle.table.specs.declared.model.Table.{Table}
use Rattle.table.specs.Content.{content}
use Rattle.table.specs.Reading.{Answers}
use Rattle.table.specs.Writing.{file_of, Wrote, OwnFile, OwnContent, ReadsBack, WritesBack}
use Rattle.table.proofs.Same.{same_content}
use Rattle.table.proofs.Unique.{unique, one_content}

pub own_content : (t : Table) → OwnContent t
own_content t d e = one_content (content t) d e

pub own_file : (t : Table) → OwnFile t
own_file t u e = same_content u t (one_content (content t) (content u) e)

written : (t : Table) (n : ℕ) (before after : List ℕ) → Wrote t before after (Ok n) → take n after ≡ file_of t
written t n before after w = ap (take n) w.2 ∙ take_at (file_of t) (drop (length (file_of t)) before) n (sym w.0)

pub reads_back : (t : Table) (before after : List ℕ) (r : Result ℕ Fault) → Wrote t before after r → ReadsBack t after r
reads_back t before after (Ok n) w = λ s a. unique (take n after) s (Ok t) a (written t n before after w)
reads_back t before after (Err f) w = tt

pub writes_back : (bs : List ℕ) (r : Result Table Fault) → Answers bs r → WritesBack bs r
writes_back bs (Ok t) a = λ n before after w. written t n before after w ∙ sym a
writes_back bs (Err f) a = tt
