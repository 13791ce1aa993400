-- Worked samples of the rules, as a list, and what it says of each.
use Rattle.std.specs.Prelude.{◌≡◌, ℕ, ◌-◌, List, [], ◌∷◌, slice_index}
use Rattle.table.specs.Content.{Content}
use Rattle.bounds.specs.Bounds.{backlog, wait, latency, LeastBursts}
use Rattle.plan.specs.declared.refusal.Refusal.{Refusal}
use Rattle.plan.specs.declared.refusal.Refusal.TheVariants.{Crowded, Unbounded, Saturated, Shallow}
use Rattle.plan.specs.Plans.{Sound, Deep}
use Rattle.plan.specs.Refusals.{Against}
use Rattle.samples.specs.Tables.{five, ring, hop}

-- one number that a plan with bursts x has; flows count from 1
pub data Bound : Type 0 where
  backlog_of : ℕ × ℕ → ℕ → Bound
  wait_of : ℕ → ℕ → Bound
  latency_of : ℕ → ℕ → Bound

-- a table is admitted with these least bursts and these bounds, or refused for this reason
pub data Sample : Type 0 where
  admitted : Content → List ℕ → List Bound → Sample
  refused : Content → Refusal → Sample

abbrev pub Has : Content → (ℕ → ℕ) → Bound → Type 0
Has c x (backlog_of r n) = backlog c x r ≡ n
Has c x (wait_of i n) = wait c x (i - 1) ≡ n
Has c x (latency_of i n) = latency c x (i - 1) ≡ n

abbrev pub AllHave : Content → (ℕ → ℕ) → List Bound → Type 0
AllHave c x [] = Unit {0}
AllHave c x (b ∷ bs) = Has c x b × AllHave c x bs

abbrev pub bursts : List ℕ → ℕ → ℕ
bursts xs k = slice_index xs k

pub record HasPlan (c : Content) (x : ℕ → ℕ) (bs : List Bound) : Type 0 where
  pub sound : Sound c
  pub least : LeastBursts c x
  pub deep : Deep c x
  pub bounds : AllHave c x bs

abbrev pub Stands : Sample → Type 0
Stands (admitted c xs bs) = HasPlan c (bursts xs) bs
Stands (refused c why) = Against c why

abbrev pub AllStand : List Sample → Type 0
AllStand [] = Unit {0}
AllStand (s ∷ ss) = Stands s × AllStand ss

abbrev pub samples : List Sample
samples =
    admitted (five 100) (660 ∷ 660 ∷ 300 ∷ 300 ∷ 780 ∷ []) (backlog_of (2, 1) 2 ∷ backlog_of (2, 2) 1 ∷ wait_of 4 21 ∷ [])
    ∷ refused (five 101) (Crowded 4)
    ∷ admitted (ring 24 10) (988 ∷ 988 ∷ 988 ∷ [])
    (backlog_of (1, 0) 9 ∷ backlog_of (1, 1) 9 ∷ backlog_of (1, 2) 9 ∷ latency_of 1 44 ∷ latency_of 2 44 ∷ latency_of 3 44 ∷ [])
    ∷ refused (ring 24 9) (Shallow (1, 0))
    ∷ refused (ring 25 10) Unbounded
    ∷ refused (ring 33 10) Unbounded
    ∷ refused (ring 34 10) (Saturated (1, 0))
    ∷ admitted hop (0 ∷ []) (latency_of 1 2 ∷ [])
    ∷ []
