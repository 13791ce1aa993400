-- Rings of m numbers, and routers by their number.
use Rattle.std.proofs.Common.{◌≡◌, ℕ, ◌+◌, ◌-◌, ◌*◌, ◌%◌, ◌<◌, ◌≤◌, Some, refl, ap, ◌∙◌, ⊎_elim, arith}
use Rattle.std.proofs.Math.Nat.{add-mod_right, mod-eq_of_lt}
use Rattle.std.proofs.lemmas.Nat.{mod-mul-add, div-mul-add, mul-add-lt, mul-le}
use Rattle.std.proofs.lemmas.Bool.{cases_lt, lt-ltb}
use Rattle.std.proofs.lemmas.Bool.Decides.{nat_tests}
use Rattle.torus.specs.Paths.{ahead, router_at}

pub mod_once : (m n : ℕ) → n < m → (n + m) % m ≡ n
mod_once m n h = add-mod_right n m ∙ mod-eq_of_lt h

pub ahead_ring : (m a b : ℕ) → a < m → b < m → ahead m a b ≡ (b + m - a) % m
ahead_ring m a b h l =
    ⊎_elim
    (λ (k : b < a). let e = mod-eq_of_lt {n = b + m - a} {m = m} (omega arith) in grind (arith, nat_tests))
    (λ (k : a ≤ b). let e : (b + m - a) % m ≡ b - a = ap (λ k. k % m) (omega arith) ∙ mod_once m (b - a) (omega arith) in grind (arith, nat_tests))
    (cases_lt b a)

-- a torus with a router has a side
pub side_some : (m k : ℕ) → k < m * m → 0 < m
side_some m k h = ⊎_elim (λ (l : 0 < m). l) (λ (l : m ≤ 0). omega (arith, mul-le m m 0 0 l l)) (cases_lt 0 m)

-- a router's number leads to it
pub to_router : (m x y : ℕ) → x < m → y < m → router_at m (y * m + x) ≡ Some (x, y)
to_router m x y h l =
    let few = lt-ltb (y * m + x) (m * m) (mul-add-lt y m x m l h) in
    let column = mod-mul-add y m x h in
    let row = div-mul-add y m x h in
    rw (few, column, row) refl
