-- The answer to a caller in C.
use Rattle.std.specs.Prelude.{◌≡◌, ℕ, ◌≤◌, Bool, true, false, List, length, ℤ, pos, negsuc, Ok, Err, Result, nat_le}
use Rattle.table.specs.declared.fault.Fault.{Fault}
use Rattle.table.specs.Writing.{over}
use Rattle.listing.specs.Listed.{Listed}

-- the answer of `list` as one number: the length, or -21
abbrev pub code : Result ℕ Fault → ℤ
code (Ok n) = pos n
code (Err f) = negsuc 20

abbrev pub Small : Result ℕ Fault → Type 0
Small (Ok n) = n ≤ 8192
Small (Err f) = Unit {0}

-- where the text s fits it is at the front of the place, what was behind it stays, and the answer is its length; else the answer is -21, and the place is as it was
abbrev pub ToldIf : Bool → List ℕ → List ℕ → List ℕ → ℤ → Type 0
ToldIf true s before after r = (r ≡ pos (length s)) × (after ≡ over s before)
ToldIf false s before after r = (r ≡ negsuc 20) × (after ≡ before)

-- the listing of the bytes bs is told so; a place of 8192 bytes is never too short for it
pub record Told (bs before after : List ℕ) (r : ℤ) : Type 0 where
  pub text : List ℕ
  pub listed : Listed bs text
  pub small : length text ≤ 8192
  pub told : ToldIf (nat_le (length text) (length before)) text before after r
