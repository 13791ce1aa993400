-- Through flows and north flows are those whose walk passes the router.
use Rattle.std.proofs.Common.{◌≡◌, ℕ, ◌+◌, ◌-◌, ◌%◌, ◌<◌, ◌≤◌, Bool, sym, subst, ap, ◌∙◌, ⊎_elim, arith}
use Rattle.std.proofs.Math.Nat.{mod-eq_of_lt}
use Rattle.std.proofs.lemmas.Nat.{mod_below}
use Rattle.std.proofs.lemmas.Bool.{cases_lt, and_parts, and_from, ltb-true, leb-true, eqb-true, lt-ltb, le-leb, eq-eqb}
use Rattle.std.proofs.lemmas.Bool.Decides.{nat_tests}
use Rattle.table.specs.declared.flow.Flow.{Flow}
use Rattle.torus.specs.Paths.{ahead, through, north}
use Rattle.torus.specs.Walks.{easts, souths, WalksThrough, WalksNorth}
use Rattle.torus.proofs.Rings.{mod_once, ahead_ring}

-- the steps ahead lead there
leads : (m a b : ℕ) → a < m → b < m → b ≡ (a + ahead m a b) % m
leads m a b h l =
    ⊎_elim
    (λ (k : b < a). let d : ahead m a b ≡ m - (a - b) = grind (arith, nat_tests) in
    sym (ap (λ n. n % m) (omega arith) ∙ mod_once m b l))
    (λ (k : a ≤ b). let d : ahead m a b ≡ b - a = grind (arith, nat_tests) in
    sym (ap (λ n. n % m) (omega arith) ∙ mod-eq_of_lt l))
    (cases_lt b a)

-- and no other number of steps below a whole round does
only : (m a b j : ℕ) → a < m → j < m → b ≡ (a + j) % m → ahead m a b ≡ j
only m a b j h l e =
    ⊎_elim
    (λ (k : a + j < m). let s = mod-eq_of_lt k in grind (arith, nat_tests))
    (λ (k : m ≤ a + j). let s : (a + j) % m ≡ a + j - m = ap (λ n. n % m) (omega arith) ∙ mod_once m (a + j - m) (omega arith) in grind (arith, nat_tests))
    (cases_lt (a + j) m)

north_way : (m : ℕ) (f : Flow) (r : ℕ × ℕ) → WalksNorth m f r (north m f r)
north_way m f r ((xs, ys, xd, yd), x, y) =
    let a = f.source.1 in
    let whole : ahead m a f.destination.1 ≡ souths m f = ahead_ring m a f.destination.1 ys yd in (
      (λ h.
          let col = and_parts _ _ h in
          let way = and_parts _ _ col.1 in
          (ahead m a r.1, ltb-true _ _ way.0, omega (arith, leb-true _ _ way.1, whole), sym (eqb-true _ _ col.0), leads m a r.1 ys y)),
      (λ w.
          let j = w.0 in
          let round : j < m = omega (arith, w.2, mod_below (f.destination.1 + m - a) m (omega arith)) in
          let steps = only m a r.1 j ys round w.4 in
          and_from _ _ (eq-eqb _ _ (sym w.3)) (and_from _ _ (lt-ltb 0 (ahead m a r.1) (omega (arith, steps, w.1))) (le-leb (ahead m a r.1) (ahead m a f.destination.1) (omega (arith, steps, w.2, whole))))),
    )

-- a test that answers as `north` does decides the walk
pub walks_north : (m : ℕ) (f : Flow) (r : ℕ × ℕ) (b : Bool) → b ≡ north m f r → WalksNorth m f r b
walks_north m f r b e = subst (WalksNorth m f r) (sym e) (north_way m f r)

through_way : (m : ℕ) (f : Flow) (r : ℕ × ℕ) → WalksThrough m f r (through m f r)
through_way m f r ((xs, ys, xd, yd), x, y) =
    let a = f.source.0 in
    let whole : ahead m a f.destination.0 ≡ easts m f = ahead_ring m a f.destination.0 xs xd in (
      (λ h.
          let row = and_parts _ _ h in
          let way = and_parts _ _ row.1 in
          (ahead m a r.0, ltb-true _ _ way.0, omega (arith, ltb-true _ _ way.1, whole), leads m a r.0 xs x, sym (eqb-true _ _ row.0))),
      (λ w.
          let j = w.0 in
          let round : j < m = omega (arith, w.2, mod_below (f.destination.0 + m - a) m (omega arith)) in
          let steps = only m a r.0 j xs round w.3 in
          and_from _ _ (eq-eqb _ _ (sym w.4)) (and_from _ _ (lt-ltb 0 (ahead m a r.0) (omega (arith, steps, w.1))) (lt-ltb (ahead m a r.0) (ahead m a f.destination.0) (omega (arith, steps, w.2, whole))))),
    )

-- a test that answers as `through` does decides the walk
pub walks_through : (m : ℕ) (f : Flow) (r : ℕ × ℕ) (b : Bool) → b ≡ through m f r → WalksThrough m f r b
walks_through m f r b e = subst (WalksThrough m f r) (sym e) (through_way m f r)
