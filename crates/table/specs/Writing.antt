-- Writing a table file to the front of a place, and what that says of reading.
use Rattle.std.specs.Prelude.{◌≡◌, ℕ, ◌+◌, ◌<◌, ◌≤◌, List, ◌++◌, length, take, drop, Ok, Err, Result}
use Rattle.table.specs.declared.model.Table.{Table}
use Rattle.table.specs.declared.fault.Fault.{Fault}
use Rattle.table.specs.declared.fault.Layer.TheVariants.{File}
use Rattle.table.specs.declared.fault.Place.TheVariants.{Nowhere}
use Rattle.table.specs.Content.{Content, content}
use Rattle.table.specs.Format.{encode}
use Rattle.table.specs.Reading.{Answers}

-- s in the place of as many elements of d, from `at` on
abbrev pub put_at : ℕ → List ℕ → List ℕ → List ℕ
put_at at s d = take at d ++ (s ++ drop (at + length s) d)

-- s at the front, and what d holds behind it
abbrev pub over : List ℕ → List ℕ → List ℕ
over s d = s ++ drop (length s) d

abbrev pub file_of : Table → List ℕ
file_of t = encode (content t)

-- the place is too short for the file
abbrev pub short : Fault
short = record { number = 7; layer = File; place = Nowhere }

abbrev pub Wrote : Table → List ℕ → List ℕ → Result ℕ Fault → Type 0
Wrote t before after (Ok n) = (n ≡ length (file_of t)) × (n ≤ length before) × (after ≡ over (file_of t) before)
Wrote t before after (Err f) = (length before < length (file_of t)) × (f ≡ short) × (after ≡ before)

-- no other table has this table's file
abbrev pub OwnFile : Table → Type 0
OwnFile t = (u : Table) → file_of u ≡ file_of t → u ≡ t

-- and no other dimensions and flows have it, however many flows
abbrev pub OwnContent : Table → Type 0
OwnContent t = (d : Content) → encode d ≡ file_of t → d ≡ content t

-- reading what was written gives the table back
abbrev pub ReadsBack : Table → List ℕ → Result ℕ Fault → Type 0
ReadsBack t after (Ok n) = (s : Result Table Fault) → Answers (take n after) s → s ≡ Ok t
ReadsBack t after (Err f) = Unit {0}

-- writing what was read gives the bytes back
abbrev pub WritesBack : List ℕ → Result Table Fault → Type 0
WritesBack bs (Ok t) = (n : ℕ) (before after : List ℕ) → Wrote t before after (Ok n) → take n after ≡ bs
WritesBack bs (Err f) = Unit {0}
