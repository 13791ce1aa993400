-- Sums, and what they count.
use Rattle.std.proofs.Common.{◌≡◌, ℕ, zero, suc, ◌*◌, ◌^◌, ◌<◌, ◌≤◌, Bool, true, false, cond, List, [], ◌∷◌, length, get_or, Fits, w32, sym, refl, ap, arith}
use Rattle.std.specs.List.{zip, HoldsAt, AllWithin}
use Rattle.std.specs.Bool.{MatchBool}
use Rattle.std.specs.Prelude.{nat_lt}
use Rattle.std.proofs.lemmas.List.Sums.{sum_by-cons}
use Rattle.std.proofs.lemmas.Nat.{mul-le}
use Rattle.std.proofs.lemmas.Bool.{cond-true, cond-false, lt-ltb}
use Rattle.table.specs.declared.flow.Flow.{Flow}
use Rattle.table.specs.Blank.{blank}
use Rattle.least.specs.Systems.{entries_of}
use Rattle.bounds.specs.Sums.{sum}
use Rattle.bounds.specs.Lines.{from_north, brought}
use Rattle.bounds.specs.Sigma.{sum_none, sum_first, sum_term, sum_bound}

none_from_north : (n : ℕ) (x : ℕ → ℕ) → from_north [] n x ≡ 0
unfolding sum
none_from_north zero x = refl
none_from_north (suc n) x = omega (arith, none_from_north n x)

-- the entries beside a `true`
pub brought_north : (bs : List Bool) (xs : List ℕ) → brought bs xs ≡ from_north bs (length xs) (entries_of xs)
brought_north [] xs = sym (none_from_north (length xs) (entries_of xs))
brought_north (b ∷ bs) [] = sym (sum_none _)
brought_north (b ∷ bs) (x ∷ xs) =
    omega (arith, sum_by-cons (λ (p : Bool × ℕ). cond p.0 p.1 0) (b, x) (zip bs xs), brought_north bs xs, sum_first (length xs) (λ k. cond (get_or (b ∷ bs) k false) (entries_of (x ∷ xs) k) 0))

-- and at most 64 of 32 bits
module _ (north : List Bool) (xs : List ℕ) (few : length xs ≤ 64) (small : (k : ℕ) → Fits w32 (get_or xs k 0)) where
  cond_small : (b : Bool) (n : ℕ) → Fits w32 n → cond b n 0 ≤ 4294967295
  cond_small true n h = omega (arith, h)
  cond_small false n h = omega arith

  pub brought_small : brought north xs ≤ 274877906880
  brought_small =
      let each = sum_bound (length xs) 4294967295 (λ k. cond (get_or north k false) (entries_of xs k) 0) (λ k h. cond_small (get_or north k false) (get_or xs k 0) (small k)) in
      omega (arith, brought_north north xs, each, mul-le (length xs) 4294967295 64 4294967295 few (omega arith))

-- a rate by what a flow meets at its turn
pub asked_small : (rate met : ℕ) → rate < 65536 → met < 2 ^ 40 → rate * met < 2 ^ 56
asked_small rate met r m = omega (arith, mul-le rate met 65535 1099511627775 (omega arith) (omega arith))

-- whether some flow passes a test
pub any_over : (p : Flow → Bool) (fs : List Flow) (r : Bool) → MatchBool r ((k : ℕ) × (k < length fs) × HoldsAt (λ f. p f ≡ true) fs k) (AllWithin (λ f. p f ≡ false) fs 0 (length fs))
    → r ≡ nat_lt 0 (sum (length fs) (λ k. cond (p (get_or fs k blank)) 1 0))
any_over p fs true (k, within, here) =
    let one = cond-true {A = ℕ} (p (get_or fs k blank)) 1 0 (here blank) in
    sym (lt-ltb 0 _ (omega (arith, one, sum_term (length fs) (λ j. cond (p (get_or fs j blank)) 1 0) k within)))
any_over p fs false none =
    let zeros = sum_bound (length fs) 0 (λ j. cond (p (get_or fs j blank)) 1 0) (λ k h. omega (arith, cond-false {A = ℕ} (p (get_or fs k blank)) 1 0 (none k blank (omega arith) h))) in
    let e : sum (length fs) (λ j. cond (p (get_or fs j blank)) 1 0) ≡ 0 = omega arith in
    sym (ap (nat_lt 0) e)
