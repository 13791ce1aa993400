-- The table without flows that a place for a plan starts with.
use Rattle.std.proofs.Common.{◌≡◌, ℕ, sym, refl, subst, arith}
use Rattle.table.specs.Content.{Content}
use Rattle.bounds.specs.Sums.{sum}
use Rattle.bounds.specs.Bounds.{side, backlog, LeastBursts}
use Rattle.plan.specs.Order.{Nowhere}
use Rattle.plan.specs.Plans.{empty_table, Sound, shallow}

pub none_sound : Sound empty_table
unfolding sum
none_sound = record {
  roomy = record {
    whole = record { ranged = (refl, refl, refl); flows = λ k h. absurd (omega arith) };
    turns = λ r column row. refl;
  };
  sources = λ k h. absurd (omega arith);
}

pub none_least : (x : ℕ → ℕ) → LeastBursts empty_table x
none_least x = record {
  keeps = record {
    straight = λ i h e. absurd (omega arith);
    turning = λ i h e. absurd (omega arith);
    capped = λ i h. absurd (omega arith);
  };
  minimal = λ y k i h. absurd (omega arith);
}

pub none_deep : (x : ℕ → ℕ) → Nowhere (side empty_table) (shallow empty_table x)
unfolding sum backlog
none_deep x r column row = refl

-- any table that holds the same
pub record Empty (c : Content) : Type 0 where
  pub sound : Sound c
  pub least : (x : ℕ → ℕ) → LeastBursts c x
  pub deep : (x : ℕ → ℕ) → Nowhere (side c) (shallow c x)

pub is_empty : (c : Content) → c ≡ empty_table → Empty c
is_empty c e = subst Empty (sym e) (record { sound = none_sound; least = none_least; deep = none_deep })
