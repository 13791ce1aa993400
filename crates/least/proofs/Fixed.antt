-- The least entries are on their lines.
use Rattle.std.proofs.Common.{◌≡◌, ℕ, ◌<◌, cond, eqb, arith}
use Rattle.std.proofs.lemmas.Bool.{cases_eq}
use Rattle.std.proofs.lemmas.Bool.Decides.{nat_tests}
use Rattle.least.specs.Systems.{Below, Monotone, Meets, Least}

-- An entry lowered to its line would meet the system too, so the least entries have no such entry.
pub on_line : {n : ℕ} {line : (ℕ → ℕ) → ℕ → ℕ} {ceiling : ℕ → ℕ} (x : ℕ → ℕ) → Monotone n line → Least n line ceiling x
    → (i : ℕ) → i < n → x i ≡ line x i
on_line {n} {line} {ceiling} x monotone l i within =
    let low : ℕ → ℕ = λ k. cond (eqb k i) (line x i) (x k) in
    let above = l.meets.above i within in
    let under : Below n low x = λ k h. grind (arith, nat_tests, cases_eq k i) in
    let meets : Meets n line ceiling low = record {
      above = λ k h. grind (arith, nat_tests, cases_eq k i, monotone low x under k h, l.meets.above k h);
      below = λ k h. omega (arith, under k h, l.meets.below k h);
    } in
    grind (arith, nat_tests, l.least low meets i within)
