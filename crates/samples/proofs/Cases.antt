-- A few numbers, one by one: tests that compute, and facts that are given each.
use Rattle.std.proofs.Common.{◌≡◌, ℕ, zero, suc, ◌<◌, ◌≤◌, Bool, true, not, ◌&&◌, subst, ⊎_elim, arith}
use Rattle.std.proofs.lemmas.Bool.{and_parts, cases_lt, not-true}
use Rattle.plan.specs.Order.{NoneBelow, Nowhere}

abbrev pub every : ℕ → (ℕ → Bool) → Bool
every zero test = true
every (suc n) test = every n test && test n

pub all_true : (n : ℕ) (test : ℕ → Bool) → every n test ≡ true → (k : ℕ) → k < n → test k ≡ true
all_true zero test e k h = absurd (omega arith)
all_true (suc n) test e k h =
    let both = and_parts (every n test) (test n) e in
    ⊎_elim
    (λ (l : k < n). all_true n test both.0 k l)
    (λ (l : n ≤ k). subst (λ j. test j ≡ true) (omega arith) both.1)
    (cases_lt k n)

pub none_below : (n : ℕ) (test : ℕ → Bool) → every n (λ k. not (test k)) ≡ true → NoneBelow n test
none_below n test e k h = not-true (test k) (all_true n (λ k. not (test k)) e k h)

pub nowhere : (m : ℕ) (test : ℕ × ℕ → Bool) → every m (λ y. every m (λ x. not (test (x, y)))) ≡ true → Nowhere m test
nowhere m test e r column row =
    none_below m (λ x. test (x, r.1)) (all_true m (λ y. every m (λ x. not (test (x, y)))) e r.1 row) r.0 column

pub each_1 : (P : ℕ → Type 0) → P 0 → (i : ℕ) → i < 1 → P i
each_1 P a zero h = a
each_1 P a (suc n) h = absurd (omega arith)

pub each_3 : (P : ℕ → Type 0) → P 0 → P 1 → P 2 → (i : ℕ) → i < 3 → P i
each_3 P a b c zero h = a
each_3 P a b c (suc zero) h = b
each_3 P a b c (suc (suc n)) h = each_1 (λ i. P (suc (suc i))) c n (omega arith)

pub each_5 : (P : ℕ → Type 0) → P 0 → P 1 → P 2 → P 3 → P 4 → (i : ℕ) → i < 5 → P i
each_5 P a b c d e zero h = a
each_5 P a b c d e (suc zero) h = b
each_5 P a b c d e (suc (suc n)) h = each_3 (λ i. P (suc (suc i))) c d e n (omega arith)
