-- The backlogs that are stored are the routers'.
use Rattle.std.proofs.Common.{◌≡◌, ℕ, ◌+◌, ◌*◌, ◌<◌, ◌≤◌, List, length, None, refl, ap, ◌∙◌, ⊎_elim, arith}
use Rattle.std.proofs.lemmas.Nat.{mul-le, mul-add-lt}
use Rattle.std.proofs.lemmas.List.{get_or_past}
use Rattle.std.proofs.lemmas.Bool.{and_parts, leb-true, ltb-false, le-ltb, cases_lt}
use Rattle.quantity.specs.declared.Packets.{Packets}
use Rattle.table.specs.Content.{Content}
use Rattle.torus.specs.Paths.{router_at}
use Rattle.torus.proofs.Rings.{to_router}
use Rattle.bounds.specs.Bounds.{side, backlog}
use Rattle.bounds.proofs.Counts.{enough}
use Rattle.plan.specs.Order.{Nowhere}
use Rattle.plan.specs.Faults.{depth}
use Rattle.plan.specs.Plans.{packets_of, Ranged, Backlogs, Over, Deep, shallow}
use Rattle.plan.specs.Stored.{counted, stored}

pub side_le : (c : Content) → Ranged c → side c ≤ 8
side_le c h = leb-true (side c) 8 (and_parts _ _ h.0).1

pub depth_le : (c : Content) → Ranged c → depth c ≤ 128
depth_le c h = leb-true (depth c) 128 (and_parts _ _ h.2).1

pub deep_from : (c : Content) (x : ℕ → ℕ) → Nowhere (side c) (shallow c x) → Deep c x
deep_from c x n r column row = ltb-false (depth c) (backlog c x r + 1) (n r column row)

off_torus : (m k : ℕ) → m * m ≤ k → router_at m k ≡ None
off_torus m k h = rw (le-ltb k (m * m) h) refl

module _ (c : Content) (x : ℕ → ℕ) (ranged : Ranged c) (ps : List Packets) (long : length ps ≡ 64)
    (each : (k : ℕ) → k < 64 → packets_of ps k ≡ stored c x (router_at (side c) k)) where
  squares : side c * side c ≤ 64
  squares = mul-le (side c) (side c) 8 8 (side_le c ranged) (side_le c ranged)

  pub backlogs_from : Deep c x → Backlogs c x ps
  backlogs_from deep r column row =
      let k = r.1 * side c + r.0 in
      let few : k < 64 = omega (arith, mul-add-lt r.1 (side c) r.0 (side c) row column, squares) in
      let small : backlog c x r < 65536 = omega (arith, deep r column row, depth_le c ranged) in
      each k few ∙ (ap (stored c x) (to_router (side c) r.0 r.1 column row) ∙ ap counted (enough (backlog c x r) small))

  pub over_from : Over c ps
  over_from k h =
      ⊎_elim
      (λ (l : k < 64). each k l ∙ ap (stored c x) (off_torus (side c) k h))
      (λ (l : 64 ≤ k). ap (λ (p : Packets). p.0) (get_or_past ps k _ (omega arith)))
      (cases_lt k 64)
