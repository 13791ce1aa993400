-- Arrays from a function of the index.
use Rattle.std.proofs.Common.{◌≡◌, ℕ, zero, suc, ◌+◌, ◌<◌, ◌≤◌, List, get_or, sym, subst, ⊎_elim, arith}
use Rattle.std.proofs.lemmas.Bool.{cases_lt}
use Rattle.std.specs.Array.{IsFromFnResult, IsFromFnResultFrom}
use denote.Param.Members.{Mut, Called}

-- what each call gives, where none changes the function, is true of each element
module _ {F B : Type 0} (g : Mut F (ℕ × Unit {0}) B) (f : F) (P : ℕ → B → Type 0) (call : (i : ℕ) (y : B) (q : F) → Called g f (i, tt) y q → (q ≡ f) × P i y) (ys : List B) where
  each_from : (i n : ℕ) → IsFromFnResultFrom g f ys i n → (k : ℕ) (d : B) → i ≤ k → k < i + n → P k (get_or ys k d)
  each_from i zero h k d a b = absurd (omega arith)
  each_from i (suc n) (q, y, here, called, rest) k d a b =
      let one = call i y q called in
      ⊎_elim
      (λ (l : k < i + 1). let e : i ≡ k = omega arith in subst (λ j. P j (get_or ys j d)) e (subst (P i) (sym (here.1 d)) one.1))
      (λ (l : i + 1 ≤ k). each_from (i + 1) n (subst (λ p. IsFromFnResultFrom g p ys (i + 1) n) one.0 rest) k d l (omega arith))
      (cases_lt k (i + 1))

  pub each_made : (n : ℕ) → IsFromFnResult g f ys n → (k : ℕ) (d : B) → k < n → P k (get_or ys k d)
  each_made n made k d h = each_from 0 n made.each k d (omega arith) (omega arith)
