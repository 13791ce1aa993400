-- The lines of a table say what the rules for its bursts say.
use Rattle.std.proofs.Common.{◌≡◌, ℕ, ◌<◌, true, false, ◌∙◌, ⊎_elim, arith}
use Rattle.std.proofs.lemmas.Bool.{cases_Bool, cond-true, cond-false}
use Rattle.least.specs.Systems.{Meets, Least, NoneMeets}
use Rattle.least.proofs.Fixed.{on_line}
use Rattle.table.specs.Content.{Content}
use Rattle.torus.specs.Paths.{turns}
use Rattle.bounds.specs.declared.lines.Lines.{Lines}
use Rattle.bounds.specs.Sums.{count, flow}
use Rattle.bounds.specs.Bounds.{slack, turning_burst, Keeps, LeastBursts, NoBursts, ceiling}
use Rattle.bounds.specs.Lines.{line_at, least_burst}
use Rattle.bounds.specs.Systems.{monotone}

module _ (c : Content) (s : Lines) (many : s.count ≡ count c) (each : (i : ℕ) → i < count c → (x : ℕ → ℕ) → line_at s x i ≡ least_burst c x i) where
  line_straight : (x : ℕ → ℕ) (i : ℕ) → i < count c → turns (flow c i) ≡ false → line_at s x i ≡ slack c i
  line_straight x i h e = each i h x ∙ cond-false _ _ _ e

  line_turning : (x : ℕ → ℕ) (i : ℕ) → i < count c → turns (flow c i) ≡ true → line_at s x i ≡ turning_burst c x i
  line_turning x i h e = each i h x ∙ cond-true _ _ _ e

  meets_from : (y : ℕ → ℕ) → Keeps c y → Meets s.count (line_at s) (λ _. ceiling) y
  meets_from y k = record {
    above = λ i h. ⊎_elim
        (λ e. omega (arith, line_turning y i (omega arith) e, k.turning i (omega arith) e))
        (λ e. omega (arith, line_straight y i (omega arith) e, k.straight i (omega arith) e))
        (cases_Bool (turns (flow c i)));
    below = λ i h. k.capped i (omega arith);
  }

  pub least_from : (x : ℕ → ℕ) → Least s.count (line_at s) (λ _. ceiling) x → LeastBursts c x
  least_from x l = record {
    keeps = record {
      straight = λ i h e. on_line x (monotone s) l i (omega arith) ∙ line_straight x i h e;
      turning = λ i h e. omega (arith, line_turning x i h e, l.meets.above i (omega arith));
      capped = λ i h. l.meets.below i (omega arith);
    };
    minimal = λ y k i h. l.least y (meets_from y k) i (omega arith);
  }

  pub none_from : NoneMeets s.count (line_at s) (λ _. ceiling) → NoBursts c
  none_from n y k = n y (meets_from y k)
