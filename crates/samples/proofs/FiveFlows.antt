-- The five flows, and the one hop.
use Rattle.std.proofs.Common.{[], ◌∷◌, refl, arith}
use Rattle.std.proofs.lemmas.Bool.{true≢false, false≢true}
use Rattle.bounds.specs.Sums.{sum}
use Rattle.bounds.specs.Bounds.{backlog, turn_delay, LeastBursts}
use Rattle.plan.specs.declared.refusal.Refusal.TheVariants.{Crowded}
use Rattle.plan.specs.Refusals.{Against}
use Rattle.samples.specs.Tables.{five, hop}
use Rattle.samples.specs.Samples.{HasPlan, bursts, backlog_of, wait_of, latency_of}
use Rattle.samples.proofs.Cases.{each_1, each_3, each_5}
use Rattle.samples.proofs.Sounds.{roomy_from, sound_from, deep_by}

five_least : LeastBursts (five 100) (bursts (660 ∷ 660 ∷ 300 ∷ 300 ∷ 780 ∷ []))
unfolding sum
five_least = record {
  keeps = record {
    straight = each_5 _ (λ e. absurd (true≢false e)) (λ e. absurd (true≢false e)) (λ e. refl) (λ e. refl) (λ e. absurd (true≢false e));
    turning = each_5 _ (λ e. omega arith) (λ e. omega arith) (λ e. absurd (false≢true e)) (λ e. absurd (false≢true e)) (λ e. omega arith);
    capped = each_5 _ (omega arith) (omega arith) (omega arith) (omega arith) (omega arith);
  };
  minimal = λ y a.
      let p = a.turning 0 (omega arith) refl in
      let q = a.turning 1 (omega arith) refl in
      let r = a.straight 2 (omega arith) refl in
      let s = a.straight 3 (omega arith) refl in
      let t = a.turning 4 (omega arith) refl in
      each_5 _ (omega arith) (omega arith) (omega arith) (omega arith) (omega arith);
}

pub at_100 : HasPlan (five 100) (bursts (660 ∷ 660 ∷ 300 ∷ 300 ∷ 780 ∷ [])) (backlog_of (2, 1) 2 ∷ backlog_of (2, 2) 1 ∷ wait_of 4 21 ∷ [])
unfolding sum backlog
at_100 = record {
  sound = sound_from (five 100) refl refl refl;
  least = five_least;
  deep = deep_by (five 100) (bursts (660 ∷ 660 ∷ 300 ∷ 300 ∷ 780 ∷ [])) refl;
  bounds = (refl, (refl, (refl, tt)));
}

pub at_101 : Against (five 101) (Crowded 4)
unfolding sum
at_101 = (roomy_from (five 101) refl refl, record { numbered = omega arith; within = omega arith; here = refl; before = each_3 _ refl refl refl })

pub one_hop : HasPlan hop (bursts (0 ∷ [])) (latency_of 1 2 ∷ [])
unfolding sum backlog turn_delay
one_hop = record {
  sound = sound_from hop refl refl refl;
  least = record {
    keeps = record { straight = each_1 _ (λ e. refl); turning = each_1 _ (λ e. absurd (false≢true e)); capped = each_1 _ (omega arith) };
    minimal = λ y a. each_1 _ (omega arith);
  };
  deep = deep_by hop (bursts (0 ∷ [])) refl;
  bounds = (refl, tt);
}
