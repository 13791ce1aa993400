-- The three flows of the ring.
use Rattle.std.proofs.Common.{ℕ, [], ◌∷◌, refl, arith}
use Rattle.std.proofs.lemmas.Bool.{true≢false}
use Rattle.bounds.specs.Sums.{sum}
use Rattle.bounds.specs.Bounds.{backlog, turn_delay, LeastBursts}
use Rattle.plan.specs.declared.refusal.Refusal.TheVariants.{Unbounded, Saturated, Shallow}
use Rattle.plan.specs.Refusals.{Against}
use Rattle.samples.specs.Tables.{ring}
use Rattle.samples.specs.Samples.{HasPlan, bursts, backlog_of, latency_of}
use Rattle.samples.proofs.Cases.{each_1, each_3}
use Rattle.samples.proofs.Sounds.{whole_from, sound_from, deep_by}

abbrev all_988 : ℕ → ℕ
all_988 = bursts (988 ∷ 988 ∷ 988 ∷ [])

least : (depth : ℕ) → LeastBursts (ring 24 depth) all_988
unfolding sum
least depth = record {
  keeps = record {
    straight = each_3 _ (λ e. absurd (true≢false e)) (λ e. absurd (true≢false e)) (λ e. absurd (true≢false e));
    turning = each_3 _ (λ e. omega arith) (λ e. omega arith) (λ e. omega arith);
    capped = each_3 _ (omega arith) (omega arith) (omega arith);
  };
  minimal = λ y a.
      let p = a.turning 0 (omega arith) refl in
      let q = a.turning 1 (omega arith) refl in
      let r = a.turning 2 (omega arith) refl in
      each_3 _ (omega arith) (omega arith) (omega arith);
}

pub at_24 : HasPlan (ring 24 10) all_988
    (backlog_of (1, 0) 9 ∷ backlog_of (1, 1) 9 ∷ backlog_of (1, 2) 9 ∷ latency_of 1 44 ∷ latency_of 2 44 ∷ latency_of 3 44 ∷ [])
unfolding sum backlog turn_delay
at_24 = record {
  sound = sound_from (ring 24 10) refl refl refl;
  least = least 10;
  deep = deep_by (ring 24 10) all_988 refl;
  bounds = (refl, (refl, (refl, (refl, (refl, (refl, tt))))));
}

pub at_depth_9 : Against (ring 24 9) (Shallow (1, 0))
unfolding sum backlog
at_depth_9 = (
  sound_from (ring 24 9) refl refl refl,
  (
    all_988,
    least 9,
    record { column = omega arith; row = omega arith; here = refl; above = λ row h. absurd (omega arith); before = each_1 _ refl },
  ),
)

pub at_25 : Against (ring 25 10) Unbounded
unfolding sum
at_25 = (sound_from (ring 25 10) refl refl refl, λ y a. omega (arith, a.turning 0 (omega arith) refl, a.turning 1 (omega arith) refl, a.turning 2 (omega arith) refl))

pub at_33 : Against (ring 33 10) Unbounded
unfolding sum
at_33 = (sound_from (ring 33 10) refl refl refl, λ y a. omega (arith, a.turning 0 (omega arith) refl, a.turning 1 (omega arith) refl, a.turning 2 (omega arith) refl))

pub at_34 : Against (ring 34 10) (Saturated (1, 0))
unfolding sum
at_34 = (
  whole_from (ring 34 10) refl,
  record { column = omega arith; row = omega arith; here = refl; above = λ row h. absurd (omega arith); before = each_1 _ refl },
)
