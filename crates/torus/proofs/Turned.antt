-- What the answer of `turn` says.
use Rattle.std.proofs.Common.{◌≡◌, ℕ, Bool, true, false, cond, Some, None, refl, arith}
use Rattle.table.specs.declared.flow.Flow.{Flow}
use Rattle.torus.specs.Paths.{turns, corner, turn_of}

none_if : {A : Type 0} (b : Bool) (r : A) → None ≡ cond b (Some r) None → b ≡ false
none_if true r e = let z : ◌≡◌ {A = ℕ} 0 1 = cc in absurd (omega arith)
none_if false r e = refl

pub some_if : {A : Type 0} (b : Bool) (r s : A) → Some s ≡ cond b (Some r) None → (b ≡ true) × (s ≡ r)
some_if true r s e = (refl, cc)
some_if false r s e = let z : ◌≡◌ {A = ℕ} 0 1 = cc in absurd (omega arith)

pub turn_none : (f : Flow) → None ≡ turn_of f → turns f ≡ false
turn_none f e = none_if (turns f) (corner f) e

pub turn_some : (f : Flow) (r : ℕ × ℕ) → Some r ≡ turn_of f → (turns f ≡ true) × (r ≡ corner f)
turn_some f r e = some_if (turns f) (corner f) r e
