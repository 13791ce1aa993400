-- Rows of one value, and what a count of packets holds.
use Rattle.std.proofs.Common.{◌≡◌, ℕ, zero, suc, ◌<◌, get_or, replicate, Some, refl}
use Rattle.std.proofs.lemmas.Bool.{lt-ltb}
use Rattle.bounds.specs.Bounds.{packets}

pub everywhere : {A : Type 0} (n j : ℕ) (a : A) → get_or (replicate n a) j a ≡ a
everywhere zero j a = refl
everywhere (suc n) zero a = refl
everywhere (suc n) (suc j) a = everywhere n j a

-- what a count of packets holds
pub enough : (n : ℕ) → n < 65536 → packets n ≡ Some (record { 0 = n })
enough n h = rw (lt-ltb n 65536 h) refl
