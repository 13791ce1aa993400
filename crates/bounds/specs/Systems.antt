-- Raising a burst lowers no line.
use Rattle.std.specs.Prelude.{ℕ, zero, suc, ◌+◌, ◌-◌, ◌*◌, ◌/◌, ◌≤◌, Bool, true, false, cond, List, [], ◌∷◌, map, Some, None, Option, slice_index, slice_index_or}
use Rattle.std.proofs.Common.{arith, le-div_iff_mul-le, div-mul-le_self}
use Rattle.std.proofs.Math.Nat.{div-zero}
use Rattle.std.proofs.lemmas.Nat.{mul-le}
use Rattle.least.specs.Systems.{Below, Monotone}
use Rattle.bounds.specs.declared.lines.Line.{Line}
use Rattle.bounds.specs.declared.lines.Lines.{Lines}
use Rattle.bounds.specs.declared.lines.Turn.{Turn}
use Rattle.bounds.specs.Sums.{up}
use Rattle.bounds.specs.Lines.{from_north, asked_if, line_of, line_at}
use Rattle.bounds.specs.Sigma.{sum_mono}

div_mono : (a b d : ℕ) → a ≤ b → a / d ≤ b / d
div_mono a b zero h = omega (arith, div-zero a, div-zero b)
div_mono a b (suc d) h = (le-div_iff_mul-le (omega arith)).1 (omega (arith, div-mul-le_self a (suc d)))

up_mono : (a b d : ℕ) → a ≤ b → up a d ≤ up b d
up_mono a b d h = div_mono (a + (d - 1)) (b + (d - 1)) d (omega arith)

cond_mono : (b : Bool) (x y : ℕ) → x ≤ y → cond b x 0 ≤ cond b y 0
cond_mono true x y h = h
cond_mono false x y h = omega arith

module _ (n : ℕ) (x y : ℕ → ℕ) (under : Below n x y) where
  north_mono : (north : List Bool) → from_north north n x ≤ from_north north n y
  north_mono north = sum_mono n _ _ (λ k h. cond_mono (slice_index_or north k false) (x k) (y k) (under k h))

  turn_mono : (o : Option Turn) → asked_if n x o ≤ asked_if n y o
  turn_mono (Some t) =
      let m = mul-le t.rate.0 (from_north t.north n x + t.others) t.rate.0 (from_north t.north n y + t.others) (omega arith) (omega (arith, north_mono t.north)) in
      up_mono (t.rate.0 * (from_north t.north n x + t.others)) (t.rate.0 * (from_north t.north n y + t.others)) t.room m
  turn_mono None = omega arith

  line_mono : (l : Line) → line_of n x l ≤ line_of n y l
  line_mono l = omega (arith, turn_mono l.turn)

  lines_mono : (ls : List Line) (i : ℕ) → slice_index (map (line_of n x) ls) i ≤ slice_index (map (line_of n y) ls) i
  lines_mono [] i = omega arith
  lines_mono (l ∷ ls) zero = line_mono l
  lines_mono (l ∷ ls) (suc i) = lines_mono ls i

pub monotone : (s : Lines) → Monotone s.count (line_at s)
monotone s x y under i h = lines_mono s.count x y under s.lines i
