-- Reading a table file: which bytes are a table's, and by which fault all others are refused.
use Rattle.std.specs.Prelude.{◌≡◌, ℕ, ◌+◌, ◌*◌, ◌<◌, ◌≤◌, Bool, cond, List, ◌++◌, length, Some, None, Ok, Err, Option, Result, ◌==◌, ◌≢◌, nat_lt, slice_index}
use Rattle.table.specs.declared.model.Table.{Table}
use Rattle.table.specs.declared.fault.Fault.{Fault}
use Rattle.table.specs.declared.fault.Layer.TheVariants.{File}
use Rattle.table.specs.declared.fault.Place.TheVariants.{Byte}
use Rattle.table.specs.declared.record.Kind.{Kind}
use Rattle.table.specs.declared.record.Kind.TheVariants.{Head, Flow, End}
use Rattle.table.specs.Content.{Content, content}
use Rattle.table.specs.Format.{front, encode}

-- refused by number n at byte `at`
abbrev pub refusal : ℕ → ℕ → Fault
refusal n at = record { number = n; layer = File; place = Byte at }

-- the number in the two bytes at k, the low one first
abbrev pub word_at : List ℕ → ℕ → ℕ
word_at q k = slice_index q k + 256 * slice_index q (k + 1)

-- which kinds are due: the head at byte 0, a flow or the end after it
abbrev pub due_at : ℕ → ℕ → Option Kind
due_at at n =
    cond (at == 0) (cond (n == 1) (Some Head) None) (cond (n == 2) (Some Flow) (cond (n == 3) (Some End) None))

-- the same of a kind
abbrev pub is_due : ℕ → Kind → Bool
is_due at Head = at == 0
is_due at Flow = nat_lt 0 at
is_due at End = nat_lt 0 at

abbrev pub body_length : Kind → ℕ
body_length Head = 4
body_length Flow = 8
body_length End = 2

-- the bytes q, which stand at byte `at`, have the header of a record of a kind that is due there
pub record Headed (at : ℕ) (q : List ℕ) (k : Kind) : Type 0 where
  pub present : 4 ≤ length q
  pub kind : due_at at (word_at q 2) ≡ Some k

-- they have the whole record
pub record Whole (at : ℕ) (q : List ℕ) (k : Kind) : Type 0 where
  pub header : Headed at q k
  pub size : word_at q 0 ≡ body_length k
  pub body : 4 + body_length k ≤ length q

-- they do not: the header is cut off, the kind is not due, the length is not the kind's, or the body is cut off
pub data Broken (at : ℕ) (q : List ℕ) (f : Fault) : Type 0 where
  headless : f ≡ refusal 1 at → length q < 4 → Broken at q f
  undue : f ≡ refusal 2 at → 4 ≤ length q → due_at at (word_at q 2) ≡ None → Broken at q f
  missized : f ≡ refusal 3 at → (k : Kind) → Headed at q k → (word_at q 0 ≢ body_length k) → Broken at q f
  cut : f ≡ refusal 1 at → (k : Kind) → Headed at q k → word_at q 0 ≡ body_length k → length q < 4 + body_length k → Broken at q f

-- what is wrong with the bytes q behind the head and n flows, which end at byte `at`
pub data Wrong (n at : ℕ) (q : List ℕ) (f : Fault) : Type 0 where
  broken : Broken at q f → Wrong n at q f
  excess : f ≡ refusal 4 at → Whole at q Flow → n ≡ 64 → Wrong n at q f
  miscount : f ≡ refusal 5 at → Whole at q End → (word_at q 4 ≢ n) → Wrong n at q f
  trailing : f ≡ refusal 6 (at + 6) → Whole at q End → word_at q 4 ≡ n → 6 < length q → Wrong n at q f

-- the first record that is not as it should be is the head, or it comes behind the head and some flows that are
pub data Refused (bs : List ℕ) (f : Fault) : Type 0 where
  at_head : Broken 0 bs f → Refused bs f
  behind : (c : Content) (q : List ℕ) → length c.flows ≤ 64 → bs ≡ front c ++ q → Wrong (length c.flows) (length (front c)) q f → Refused bs f

-- the answer to the bytes bs: the table whose file they are, or the fault of the first record at fault
abbrev pub Answers : List ℕ → Result Table Fault → Type 0
Answers bs (Ok t) = bs ≡ encode (content t)
Answers bs (Err f) = Refused bs f

-- r is the only right answer, if it is one
abbrev pub Alone : List ℕ → Result Table Fault → Type 0
Alone bs r = (s : Result Table Fault) → Answers bs s → s ≡ r

-- 1024 bytes settle the answer, whatever follows them
abbrev pub Settled : List ℕ → Result Table Fault → Type 0
Settled bs r = (more : List ℕ) → 1024 ≤ length bs → Answers (bs ++ more) r
