-- The answer of `list` as one number tells all that the answer does.
use Rattle.std.proofs.Common.{ℕ, List, length, pos, Ok, Err, Result, refl, ap, arith}
use Rattle.std.proofs.lemmas.Bool.{le-leb, lt-leb}
use Rattle.table.specs.declared.fault.Fault.{Fault}
use Rattle.listing.specs.Listed.{Lists}
use Rattle.facade_c.specs.Told.{code, Small, Told}

pub small : (bs before after : List ℕ) (r : Result ℕ Fault) → Lists bs before after r → Small r
small bs before after (Ok n) h = omega (arith, h.small, h.given.0)
small bs before after (Err f) h = tt

pub told : (bs before after : List ℕ) (r : Result ℕ Fault) → Lists bs before after r → Told bs before after (code r)
told bs before after (Ok n) h = record {
  text = h.text;
  listed = h.listed;
  small = h.small;
  told = rw (le-leb (length h.text) (length before) (omega (arith, h.given.0, h.given.1))) (ap pos h.given.0, h.given.2);
}
told bs before after (Err f) h = record {
  text = h.text;
  listed = h.listed;
  small = h.small;
  told = rw (lt-leb (length h.text) (length before) h.given.0) (refl, h.given.2);
}
